-- What is known of a shelf of files, and what a load does to it.
use Rattle.std.specs.Prelude.{◌≡◌, ℕ, min, false, is_none, ◌+◌, Bool, true, ◌||◌, ◌==◌, nat_lt, find, List, [], ◌∷◌, ◌++◌, take, length, Option, Some, None, option_map, Result, Ok, Err, MatchOption}
use Rattle.std.specs.List.{list_any}
use Rattle.std.specs.Str.{bytes_eq}
use Rattle.xc_base.specs.declared.shelf.File.{File}
use Rattle.xc_base.specs.declared.shelf.LoadFault.{LoadFault}
use Rattle.xc_base.specs.declared.shelf.LoadFault.TheVariants.{Failed, Memory}

-- a shelf that tells its files: the first file of a name counts; the names whose loads failed, the oldest first; and
-- whether it fails at no other loads than those of names that are not held
pub record Told : Type 0 where
  pub files : List File
  pub failed : List (List ℕ)
  pub steady : Bool

-- A shelf may tell its files or not. It counts its faults.
pub record Shelved : Type 0 where
  pub told : Option Told
  pub faults : ℕ

-- the bytes of the file of that name
abbrev pub held : List File → List ℕ → Option (List ℕ)
held files name = option_map (λ file. file.bytes) (find (λ file. bytes_eq file.name name) files)

-- A count rose in a call, or stands at the last value of a `u64`.
abbrev pub has_risen : ℕ → ℕ → Bool
has_risen before now = nat_lt before now || now == 18446744073709551615

abbrev pub HasRisen : ℕ → ℕ → Type 0
HasRisen before now = has_risen before now ≡ true

-- the names whose loads failed, after a load of that name
abbrev pub failed_after : {X : Type 0} → List (List ℕ) → List ℕ → Result X LoadFault → List (List ℕ)
failed_after failed name (Ok x) = failed
failed_after failed name (Err Failed) = failed ++ name ∷ []
failed_after failed name (Err Memory) = failed

-- what a shelf tells after a load of that name: all stays but the names whose loads failed
abbrev pub told_after : {X : Type 0} → Option Told → List ℕ → Result X LoadFault → Option Told
told_after None name result = None
told_after (Some told) name result = Some (record told { failed = failed_after told.failed name result })

-- where files are told, the bytes are those of the file of that name, or the first limit + 1 of them
abbrev pub IsLoaded : Option Told → List ℕ → ℕ → List ℕ → Type 0
IsLoaded None name limit bytes = Unit {0}
IsLoaded (Some told) name limit bytes = option_map (take (limit + 1)) (held told.files name) ≡ Some bytes

-- where the shelf is steady, no file of that name is held
abbrev pub IsAbsentIfSteady : Option Told → List ℕ → Type 0
IsAbsentIfSteady None name = Unit {0}
IsAbsentIfSteady (Some told) name = told.steady ≡ true → held told.files name ≡ None

-- where files are told, the faults are the loads that failed
abbrev pub AreCounted : Shelved → Type 0
AreCounted shelf = MatchOption shelf.told (Unit {0}) (λ told. shelf.faults ≡ length told.failed)

-- what a shelf in memory holds: its files, the newest first; the numbers of the calls that are to fail; the names whose
-- loads failed, the oldest first; and the number of the last call
pub record Kept : Type 0 where
  pub files : List File
  pub failing : List ℕ
  pub failed : List (List ℕ)
  pub calls : ℕ

abbrev pub is_empty : List ℕ → Bool
is_empty [] = true
is_empty (x ∷ xs) = false

-- what it tells: its files, and that it is steady where no call is to fail
abbrev pub shelved : Kept → Shelved
shelved kept = record { told = Some (record { files = kept.files; failed = kept.failed; steady = is_empty kept.failing }); faults = length kept.failed }

-- a count that rises by one, or stands at the last value of a `u64`; calls are numbered by it from 1 on
abbrev pub raised : ℕ → ℕ
raised count = min (count + 1) 18446744073709551615

-- whether the next call is to fail
abbrev pub fails_next : List ℕ → ℕ → Bool
fails_next failing calls = list_any (λ call. call == raised calls) failing

-- whether the next load of that name fails: its number was given, or the name is not held
abbrev pub fails_at : Kept → List ℕ → Bool
fails_at kept name = fails_next kept.failing kept.calls || is_none (held kept.files name)

abbrev pub empty_shelf : Kept
empty_shelf = record { files = []; failing = []; failed = []; calls = 0 }

-- a shelf in memory after a load of that name
abbrev pub after_load : {X : Type 0} → Kept → List ℕ → Result X LoadFault → Kept
after_load kept name result = record kept { failed = failed_after kept.failed name result; calls = raised kept.calls }

-- a shelf that tells no files
abbrev pub unseen : ℕ → Shelved
unseen faults = record { told = None; faults = faults }
