use Rattle.std.proofs.Common.{◌≡◌, length, take}
use Rattle.xc_merged.specs.Seeing.{seen_by}
use Rattle.xc_merged.proofs.seen.places_seen.Given as goal

abbrev pub invariant-loop-x : goal.invariant-loop-x
invariant-loop-x l = record {
  room : length l.seen ≡ 20;
  known : take l.x l.seen ≡ seen_by (take l.x l.feeds) l.row;
}
