use Rattle.std.proofs.Common.{◌≡◌, length, take}
use Rattle.xc_machine.specs.Descent.{known_by}
use Rattle.xc_machine.proofs.initials.known.Given as goal

abbrev pub invariant-loop-x : goal.invariant-loop-x
invariant-loop-x l = record {
  room : length l.known ≡ 20;
  so_far : take l.x l.known ≡ known_by (take l.x l.feeds) l.depth;
}
