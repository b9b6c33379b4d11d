-- A text of which a front was added to another.
use Rattle.std.specs.Prelude.{◌≡◌, ◌≤◌, ℕ, List, ◌++◌, take, length}

-- new is old and a front of the text
pub record IsFront (text old new : List ℕ) : Type 0 where
  pub keeps : length old ≤ length new
  pub front : new ≡ take (length new) (old ++ text)
