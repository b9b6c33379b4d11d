-- The search for initial states, as the code goes about it. No public clause rests on these words.
use Rattle.std.specs.Prelude.{◌≡◌, ◌<◌, ◌≤◌, ◌+◌, ◌-◌, ℕ, Bool, nat_lt, List, length, map, filter, slice_index}
use Rattle.std.specs.List.{list_all, range_with_len}
use Rattle.xc_merge.specs.Merges.{Merge, viewpoint_at}
use Rattle.xc_merge.specs.Projections.{states_of, row_of}
use Rattle.xc_merge.specs.MergedFrames.{is_initial_for, is_merged_initial}
use Rattle.xc_machine.specs.Judging.{IsRight}
use Rattle.xc_machine.specs.declared.judgement.Judgement.{Judgement}
use Rattle.xc_merged.specs.declared.tables.Feed.{Feed}
use Rattle.xc_machine.specs.declared.initials.Block.{Block}
use Rattle.xc_machine.specs.declared.initials.Found.{Found}

-- which variables are read from the first ones of the map
abbrev pub reads_below : ℕ → Feed → Bool
reads_below depth feed = nat_lt feed.source depth

unfoldable pub known_by : List Feed → ℕ → List Bool
known_by feeds depth = map (reads_below depth) feeds

-- whether a state is initial for the viewpoints from v on
unfoldable pub initial_from : Merge → ℕ → ℕ → Bool
initial_from m s v = list_all (λ w. is_initial_for m.plan s w (viewpoint_at m w)) (range_with_len v (length m.viewpoints - v))

-- whether it is so for the first ones
unfoldable pub initial_upto : Merge → ℕ → ℕ → Bool
initial_upto m s count = list_all (λ w. is_initial_for m.plan s w (viewpoint_at m w)) (range_with_len 0 count)

-- the first places of a row are those
pub record SharesFront (depth : ℕ) (row places : List ℕ) : Type 0 where
  pub same : (k : ℕ) → k < depth → slice_index row k ≡ slice_index places k

-- what is said of viewpoint v, or of the first ones, is right at all states whose first places are those
pub record IsJudgedFor (m : Merge) (depth : ℕ) (places : List ℕ) (v : ℕ) (j : Judgement) : Type 0 where
  pub right : (s : ℕ) → s < states_of m.plan → SharesFront depth (row_of m.plan s) places → IsRight j (is_initial_for m.plan s v (viewpoint_at m v))

pub record AreJudged (m : Merge) (depth : ℕ) (places : List ℕ) (count : ℕ) (j : Judgement) : Type 0 where
  pub right : (s : ℕ) → s < states_of m.plan → SharesFront depth (row_of m.plan s) places → IsRight j (initial_upto m s count)

-- some states from one on that are all initial, or of which none is
pub record IsBlock (m : Merge) (first : ℕ) (block : Block) : Type 0 where
  pub some : 1 ≤ block.size
  pub within : first + block.size ≤ states_of m.plan
  pub same : (s : ℕ) → first ≤ s → s < first + block.size → is_merged_initial m s ≡ block.initial

-- the initial states below one
unfoldable pub initials_below : Merge → ℕ → List ℕ
initials_below m upto = filter (is_merged_initial m) (range_with_len 0 upto)

-- how many they are is known, and where they are not too many which they are
pub record IsFound (m : Merge) (upto : ℕ) (found : Found) : Type 0 where
  pub count_is : found.count ≡ length (initials_below m upto)
  pub listed : found.count ≤ 4096 → found.states ≡ initials_below m upto
