-- What tables see of places of the map's variables, as the code comes to it. No public clause rests on these words.
use Rattle.std.specs.Prelude.{◌≡◌, ◌<◌, ℕ, List, length, map, slice_index}
use Rattle.std.specs.List.{slice_index_or}
use Rattle.xc_merged.specs.declared.tables.Feed.{Feed}

abbrev pub place_by : List ℕ → Feed → ℕ
place_by row feed = slice_index feed.places (slice_index row feed.source)

unfoldable pub seen_by : List Feed → List ℕ → List ℕ
seen_by feeds row = map (place_by row) feeds

-- the variables that are read are there, and have no more than 16 values
pub record AreReadable (feeds : List Feed) (row : List ℕ) : Type 0 where
  pub source_in : (x : ℕ) (feed : Feed) → x < length feeds → feed ≡ slice_index_or feeds x feed → feed.source < length row
  pub place_in : (x : ℕ) (feed : Feed) → x < length feeds → feed ≡ slice_index_or feeds x feed → slice_index row feed.source < 16
