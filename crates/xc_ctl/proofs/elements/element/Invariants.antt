use Rattle.std.proofs.Common.{◌≡◌, ◌≤◌}
use Rattle.xc_base.specs.Lines.{texts}
use Rattle.xc_ctl.specs.Trees.{element_named}
use Rattle.xc_ctl.specs.Resolving.{element_from, room}
use Rattle.xc_ctl.proofs.elements.element.Given as goal

abbrev pub invariant-loop-place : goal.invariant-loop-place
invariant-loop-place l = record {
  known : element_from l.code l.parts (texts l.values) l.place ≡ element_named l.parts (texts l.values);
  small : room l.code l.parts l.place ≤ 4096;
}
