-- What a course does to the shelf.
use Rattle.std.specs.Prelude.{◌≡◌, ◌⊎◌, ℕ, List, [], ◌∷◌, ◌++◌, Option, Some, None, IfSome}
use Rattle.xc_base.specs.Shelves.{Told, Shelved, IsAbsentIfSteady}
use Rattle.xc_base.specs.declared.shelf.File.{File}
use Rattle.xc_course.specs.Courses.{Course, Loading, always}

-- One load failed, of a name that the course reaches where each load finds some files, and P holds of the name. Where files
-- are told it is reached over those, and is the one name that joined the failed ones. A steady shelf does not hold it.
pub record FailedOnce (tasks : Course) (shelf shelf_after : Shelved) (P : List ℕ → Type 0) : Type 0 where
  pub name : List ℕ
  pub moments : ℕ → List File
  pub reached : tasks moments (Loading name)
  pub told : P name
  pub absent : IsAbsentIfSteady shelf.told name
  pub failed : IfSome shelf.told (λ told. tasks (always told.files) (Loading name) × (shelf_after.told ≡ Some (record told { failed = told.failed ++ name ∷ [] })))

-- what a shelf tells stays, or one load failed as above
abbrev pub KeepsOrFails : Course → Shelved → Shelved → Type 0
KeepsOrFails tasks shelf shelf_after = (shelf_after.told ≡ shelf.told) ⊎ FailedOnce tasks shelf shelf_after (λ name. Unit {0})

-- the files stay as they were, and are told as before
abbrev pub TellsSame : Option Told → Option Told → Type 0
TellsSame None new = new ≡ None
TellsSame (Some old) None = ⊥
TellsSame (Some old) (Some new) = (new.files ≡ old.files) × (new.steady ≡ old.steady)
