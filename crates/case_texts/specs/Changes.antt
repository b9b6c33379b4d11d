-- What a change makes of a text.
use Rattle.std.specs.Prelude.{◌≡◌, ℕ, ◌+◌, ◌-◌, ◌<◌, ◌≤◌, Bool, nat_eq, ◌&&◌, ◌||◌, List, [], ◌∷◌, ◌++◌, length, take, drop, slice_index, slice_set, IsTrue}
use Rattle.std.specs.List.{starts_with}
use Rattle.case_texts.specs.declared.changing.Change.{Change}
use Rattle.case_texts.specs.declared.changing.Change.TheVariants.{Replace, Insert, Append, Remove, Cut, Repeat, SetByte}

-- a line begins at a place of a text; one ends there
abbrev pub begins_line : List ℕ → ℕ → Bool
begins_line text at = nat_eq at 0 || nat_eq (slice_index text (at - 1)) 10

abbrev pub ends_line : List ℕ → ℕ → Bool
ends_line text at = nat_eq at (length text) || nat_eq (slice_index text at) 10

-- a line of these bytes stands at a place of a text
abbrev pub is_line_at : List ℕ → List ℕ → ℕ → Bool
is_line_at text line at = begins_line text at && (starts_with nat_eq (drop at text) line && ends_line text (at + length line))

-- a line stands at that place of a text and at no other
pub record IsOnlyLineAt (text line : List ℕ) (at : ℕ) : Type 0 where
  pub stands : IsTrue (is_line_at text line at)
  pub within : at + length line ≤ length text
  pub alone : (k : ℕ) → k < length text → IsTrue (is_line_at text line k) → k ≡ at

-- the text with other bytes in place of those from one place up to another
abbrev pub spliced : List ℕ → ℕ → ℕ → List ℕ → List ℕ
spliced text from to middle = (take from text ++ middle) ++ drop to text

-- the text of a change, and the one that it is made of
abbrev pub IsChanged : Change → List ℕ → List ℕ → Type 0
IsChanged (Replace line by) old new = (at : ℕ) × IsOnlyLineAt old line.now at × (new ≡ spliced old at (at + length line.now) by.now)
IsChanged (Insert line after) old new = (at : ℕ) × IsOnlyLineAt old after.now at × (new ≡ spliced old (at + length after.now) (at + length after.now) (10 ∷ line.now))
IsChanged (Append line) old new = new ≡ (old ++ line.now) ++ 10 ∷ []
IsChanged (Remove line) old new = (at : ℕ) × IsOnlyLineAt old line.now at × (new ≡ spliced old at (at + length line.now + 1) [])
IsChanged (Cut end) old new = (end ≤ length old) × (new ≡ take end old)
IsChanged (Repeat text times) old new = length old ≤ length new
IsChanged (SetByte byte at) old new = (at < length old) × (new ≡ slice_set old at byte)
