use Rattle.std.proofs.Common.{◌≡◌, length}
use Rattle.xc_sigmap.specs.Maps.{value_of as map_of}
use Rattle.xc_merge.specs.MergedFrames.{prop_digit}
use Rattle.xc_merged.specs.Digits.{AreGiven}
use Rattle.xc_merged.specs.Gathered.{merged_of}
use Rattle.xc_merged.proofs.merged.Merged.prop_digits.Given as goal

abbrev pub invariant-loop-v : goal.invariant-loop-v
invariant-loop-v l = record {
  room : length l.digits ≡ 8;
  given : AreGiven (merged_of l.self) (prop_digit (map_of l.self.sigmap) l.k l.s) l.v l.digits;
}
