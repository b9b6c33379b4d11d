-- What is read at the keys of a table.
use Rattle.std.specs.Prelude.{◌≡◌, ℕ, List, Option, Some, option_map}
use Rattle.toml.specs.Data.{Data, Members, get_member}

-- what is read at a key: nothing exactly where the key is not there, else what its value is as one of that type
abbrev pub IsRead : {A : Type 0} → (Data → Option A) → List ℕ → Members → Option A → Type 0
IsRead as_type key members read = option_map as_type (get_member key members) ≡ option_map Some read
