use Rattle.std.proofs.Common.{◌≤◌, length}
use Rattle.case_texts.proofs.changing.repeat.Given as goal

-- nothing was taken away
abbrev pub invariant-loop-number : goal.invariant-loop-number
invariant-loop-number l = length l.initial.bytes.items ≤ length l.bytes.items
