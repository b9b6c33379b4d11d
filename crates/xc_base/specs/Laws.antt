-- What follows from the definitions, as statements that public functions carry.
use Rattle.std.specs.Prelude.{◌≡◌, ◌≤◌, ℕ, true, List, length, None}
use Rattle.std.specs.List.{list_all}
use Rattle.xc_base.specs.Canonical.{canonical, numbered, is_line, is_short}
use Rattle.xc_base.specs.Lines.{text_rows}
use Rattle.xc_base.specs.Text.{text_fault}

-- a canonical text has its lines as its rows
abbrev pub CanonicalIsCut : Type 0
CanonicalIsCut = (lines : List (List (List ℕ))) → list_all is_line lines ≡ true → text_rows (canonical lines) ≡ numbered 1 lines

-- and no fault, where no line is too long and the text is within the limit
abbrev pub CanonicalIsSound : Type 0
CanonicalIsSound =
    (lines : List (List (List ℕ))) (limit : ℕ) → list_all is_line lines ≡ true → list_all is_short lines ≡ true
    → length (canonical lines) ≤ limit → text_fault limit (canonical lines) ≡ None
