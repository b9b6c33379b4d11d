-- The digits of a value, as the code comes to them. No public clause rests on these words.
use Rattle.std.specs.Prelude.{◌≡◌, ◌<◌, ℕ, List, slice_index}
use Rattle.xc_theory.specs.Lattices.{size}
use Rattle.xc_merge.specs.Merges.{Merge, Viewpoint, viewpoint_at}

-- what viewpoint v gives
pub record IsDigit (m : Merge) (f : ℕ → Viewpoint → ℕ) (v digit : ℕ) : Type 0 where
  pub value : digit ≡ f v (viewpoint_at m v)
  pub below : digit < size (viewpoint_at m v).lattice.algebra

-- what the first ones give
pub record AreGiven (m : Merge) (f : ℕ → Viewpoint → ℕ) (count : ℕ) (row : List ℕ) : Type 0 where
  pub given : (v : ℕ) → v < count → IsDigit m f v (slice_index row v)
