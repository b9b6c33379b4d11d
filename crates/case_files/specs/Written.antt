-- How a change is written.
use Rattle.std.specs.Prelude.{codes, ◌≡◌, ℕ, ℤ, pos, List, Option, Some, None, option_and_then}
use Rattle.toml.specs.Data.{Members, get_member, as_str, as_integer}
use Rattle.case_texts.specs.declared.changing.Change.{Change}
use Rattle.case_texts.specs.declared.changing.Change.TheVariants.{Replace, Insert, Append, Remove, Cut, Repeat, SetByte}

-- the text and the number at a key
abbrev pub text_at : List ℕ → Members → Option (List ℕ)
text_at key members = option_and_then as_str (get_member key members)

abbrev pub number_at : List ℕ → Members → Option ℤ
number_at key members = option_and_then as_integer (get_member key members)

-- the members say a change
abbrev pub IsWritten : Change → Members → Type 0
IsWritten (Replace line by) members = (text_at (codes "replace") members ≡ Some line.now) × (text_at (codes "with") members ≡ Some by.now)
IsWritten (Insert line after) members = (text_at (codes "add") members ≡ Some line.now) × (text_at (codes "after") members ≡ Some after.now)
IsWritten (Append line) members = (text_at (codes "add") members ≡ Some line.now) × (get_member (codes "after") members ≡ None)
IsWritten (Remove line) members = text_at (codes "remove") members ≡ Some line.now
IsWritten (Cut end) members = number_at (codes "cut") members ≡ Some (pos end)
IsWritten (Repeat text times) members = (text_at (codes "repeat") members ≡ Some text.now) × (number_at (codes "times") members ≡ Some (pos times))
IsWritten (SetByte byte at) members = (number_at (codes "byte") members ≡ Some (pos byte)) × (number_at (codes "at") members ≡ Some (pos at))
