use Rattle.std.proofs.Common.{◌≡◌, ◌++◌, ◌-◌, ◌≤◌, length, drop}
use Rattle.xc_base.specs.Text.{tokens_from}
use Rattle.xc_base.proofs.cut.tokens_of.Given as goal

abbrev pub invariant-loop-token : goal.invariant-loop-token
invariant-loop-token l = record {
  within : l.at ≤ length l.text;
  tokens : l.tokens ++ tokens_from l.at (drop l.at l.text) ≡ tokens_from l.place (drop l.place l.text);
}

abbrev pub decreases-loop-token : goal.decreases-loop-token
decreases-loop-token l = length l.text - l.at
