use Rattle.std.proofs.Common.{◌≡◌, ◌+◌, ◌-◌, ◌<◌, ◌≤◌, length, drop}
use Rattle.xc_base.specs.Cutting.{token_size}
use Rattle.xc_base.proofs.cut.token_end.Given as goal

abbrev pub invariant-loop-last : goal.invariant-loop-last
invariant-loop-last l = record {
  behind : l.start ≤ l.last;
  within : l.last < length l.text;
  size : l.last + token_size (drop l.last l.text) ≡ l.start + token_size (drop l.start l.text);
}

abbrev pub decreases-loop-last : goal.decreases-loop-last
decreases-loop-last l = length l.text - l.last
