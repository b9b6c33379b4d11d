use Rattle.std.proofs.Common.{◌≡◌, drop}
use Rattle.xc_theory.specs.Codes.{total}
use Rattle.xc_forms.specs.Variables.{sizes_of}
use Rattle.xc_sigmap.specs.Maps.{value_of as map_of}
use Rattle.xc_machine.proofs.initials.block_at.Given as goal

abbrev pub invariant-loop-depth : goal.invariant-loop-depth
invariant-loop-depth l = l.size ≡ total (drop l.depth (sizes_of (map_of l.merged.sigmap).vars))
