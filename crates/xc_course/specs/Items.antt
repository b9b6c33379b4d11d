-- What out gets of a served request: items one after another, each with a text of its own.
use Rattle.std.specs.Prelude.{◌≡◌, ◌⊎◌, ℕ, Bool, sum, List, [], ◌∷◌, ◌++◌, Option, Some, None}
use Rattle.xc_theory.specs.Chains.{IsHeight}
use Rattle.xc_base.specs.Sinks.{Sunk}
use Rattle.xc_lattice.specs.LatticeFiles.{LatticeValue}
use Rattle.xc_product.specs.Heights.{AreHeights}
use Rattle.xc_merge.specs.Merges.{Merge, parts_of}
use Rattle.xc_merge.specs.MergedFrames.{merged_frame}
use Rattle.xc_ctl.specs.Rounds.{RoundsTable, IsTableFor}
use Rattle.xc_ctl.specs.declared.kind.Kind.{Kind}
use Rattle.xc_report.specs.Reports.{head_text, block_text}
use Rattle.xc_lines.specs.Texts.{lattice_text}

-- An item is a text that is given, the line of a lattice, the first line of a report on a merged machine, or the block of a formula
-- with its number. The lines of a marked report are comments.
pub data Item : Type 0 where
  Fixed : List ℕ → Item
  Described : LatticeValue → Item
  Head : Bool → Merge → Item
  Block : Bool → Merge → ℕ → List Kind → Item

-- the line of a lattice, with its height
pub record IsDescription (l : LatticeValue) (text : List ℕ) : Type 0 where
  pub height : ℕ
  pub is_height : IsHeight l.algebra.order height
  pub is : text ≡ lattice_text l height

-- the first line of a report, with the height of the machine's product
pub record IsHead (marked : Bool) (m : Merge) (text : List ℕ) : Type 0 where
  pub heights : List ℕ
  pub are_heights : AreHeights (parts_of m) heights
  pub is : text ≡ head_text marked m (sum heights)

-- the block of a formula, by what its nodes denote on the merged machine and by the rounds of its fixpoints
pub record IsBlock (marked : Bool) (m : Merge) (number : ℕ) (nodes : List Kind) (text : List ℕ) : Type 0 where
  pub table : RoundsTable
  pub tells : IsTableFor (merged_frame m) nodes table
  pub is : text ≡ block_text marked m number nodes table None

-- the text is one of the item
abbrev pub IsTextOf : Item → List ℕ → Type 0
IsTextOf (Fixed text) t = t ≡ text
IsTextOf (Described l) t = IsDescription l t
IsTextOf (Head marked m) t = IsHead marked m t
IsTextOf (Block marked m number nodes) t = IsBlock marked m number nodes t

-- the text is one of each item, one behind the other
pub data IsReply : List Item → List ℕ → Type 0 where
  none : IsReply [] []
  more : {item : Item} {items : List Item} (first rest : List ℕ) → IsTextOf item first → IsReply items rest → IsReply (item ∷ items) (first ++ rest)

-- a prefix of a text that lacks at least one byte of it
pub record IsProperPrefix (text prefix : List ℕ) : Type 0 where
  pub next : ℕ
  pub rest : List ℕ
  pub is : text ≡ prefix ++ next ∷ rest

-- The first items whole, but not all, and then nothing or a proper prefix of a text of the next item. Of an item of which nothing
-- stands there no text need exist.
pub data IsPart : List Item → List ℕ → Type 0 where
  nothing : {item : Item} {items : List Item} → IsPart (item ∷ items) []
  part : {item : Item} {items : List Item} {prefix : List ℕ} (text : List ℕ) → IsTextOf item text → IsProperPrefix text prefix → IsPart (item ∷ items) prefix
  whole : {item : Item} {items : List Item} (first rest : List ℕ) → IsTextOf item first → IsPart items rest → IsPart (item ∷ items) (first ++ rest)

-- such a part, or all items
abbrev pub IsPartOrReply : List Item → List ℕ → Type 0
IsPartOrReply items text = IsPart items text ⊎ IsReply items text

-- where bytes are told, those that were added have the property
abbrev pub Adds : (List ℕ → Type 0) → Option (List ℕ) → Option (List ℕ) → Type 0
Adds P None new = new ≡ None
Adds P (Some old) new = (text : List ℕ) × P text × (new ≡ Some (old ++ text))

-- what out gets of the items: a text of each; the first ones, but not all, and then a part of the next one at most; such a part,
-- or all
abbrev pub GetsAll : Sunk → Sunk → List Item → Type 0
GetsAll out out_after items = Adds (IsReply items) out.bytes out_after.bytes

abbrev pub GetsPart : Sunk → Sunk → List Item → Type 0
GetsPart out out_after items = Adds (IsPart items) out.bytes out_after.bytes

abbrev pub GetsPartOrAll : Sunk → Sunk → List Item → Type 0
GetsPartOrAll out out_after items = Adds (IsPartOrReply items) out.bytes out_after.bytes
