use Rattle.std.proofs.Common.{◌≡◌, ◌<◌, ℕ, length, slice_index}
use Rattle.xc_sigmap.specs.Maps.{value_of as map_of}
use Rattle.xc_merge.specs.Projections.{carried_place}
use Rattle.xc_merged.proofs.feeds.carried_places.Given as goal

abbrev pub invariant-loop-value : goal.invariant-loop-value
invariant-loop-value l = record {
  room : length l.places ≡ 16;
  known : (m : ℕ) → m < l.value → slice_index l.places m ≡ carried_place (map_of l.sigmap) l.line l.domain m;
}
