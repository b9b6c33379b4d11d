use Rattle.std.proofs.Common.{◌≡◌, ◌≤◌, ◌++◌, length, drop}
use Rattle.xc_base.specs.Canonical.{spaced}
use Rattle.xc_base.specs.Lines.{texts}
use Rattle.xc_base.proofs.spacing.push_tokens.Given as goal

abbrev pub invariant-loop-place : goal.invariant-loop-place
invariant-loop-place l = record {
  keeps : length l.fn.text ≤ length l.text;
  rest : l.text ++ spaced (drop l.place (texts l.tokens)) ≡ l.fn.text ++ spaced (texts l.tokens);
}
