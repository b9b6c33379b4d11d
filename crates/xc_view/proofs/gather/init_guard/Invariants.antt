use Rattle.std.proofs.Common.{◌≡◌, drop}
use Rattle.xc_expr.specs.Tests.{False}
use Rattle.xc_forms.specs.ByKind.{first_of}
use Rattle.xc_view.specs.ViewFiles.{init_in}
use Rattle.xc_view.specs.Drafts.{all_stated}
use Rattle.xc_view.proofs.gather.init_guard.Given as goal

abbrev pub invariant-loop-s : goal.invariant-loop-s
invariant-loop-s l = first_of (init_in l.vars) False (all_stated (drop l.s-index l.statements)) ≡ first_of (init_in l.vars) False (all_stated l.statements)
