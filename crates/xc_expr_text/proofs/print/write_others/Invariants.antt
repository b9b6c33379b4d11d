-- The tokens that are written, and those of the assignments that are left.
use Rattle.std.proofs.Common.{◌≡◌, ◌++◌, drop}
use Rattle.xc_base.specs.Lines.{texts}
use Rattle.xc_expr_text.specs.Printing.{named_action, AreMarked}
use Rattle.xc_expr_text.specs.PrintSteps.{tokens_behind}
use Rattle.xc_expr_text.proofs.print.write_others.Given as goal

abbrev pub invariant-loop-assign : goal.invariant-loop-assign
invariant-loop-assign l = record {
  known : texts l.tokens ++ tokens_behind (named_action l.vars (drop l.assign-index l.others)) ≡ texts l.fn.tokens ++ tokens_behind (named_action l.vars l.others);
  marked : AreMarked l.fn.tokens → AreMarked l.tokens;
}
