-- The lines of a lattice's canonical file are lines, none of them too long.
use Rattle.std.proofs.Common.{◌≡◌, ℕ, ◌≤◌, true, not, ◌&&◌, List, [], ◌∷◌, ◌++◌, length, map, refl, arith}
use Rattle.std.specs.Prelude.{codes, nat_le}
use Rattle.std.specs.List.{list_any, list_all}
use Rattle.std.proofs.lemmas.Bool.{and_parts, and_from, leb-true}
use Rattle.xc_base.specs.Words.{is_word, is_name, is_path_byte}
use Rattle.xc_base.specs.Canonical.{is_line, is_short}
use Rattle.xc_base.proofs.CanonicalWords.{words_line, AreUpTo, short_line}
use Rattle.xc_lattice.specs.declared.statement.Statement.{Statement}
use Rattle.xc_lattice.specs.declared.statement.Statement.TheVariants.{Lattice, Elements, Below, Not}
use Rattle.xc_lattice.specs.LatticeFiles.{LatticeValue, spelling}
use Rattle.xc_lattice.specs.Drafts.{IsFact, AreFacts, IsReady}
use Rattle.xc_lattice.specs.Printed.{lattice_lines}
use Rattle.xc_lattice.proofs.PrintedAgain.{among_named, all_facts}

-- a line that is one, and short
pub record IsFine (tokens : List (List ℕ)) : Type 0 where
  pub line : is_line tokens ≡ true
  pub short : is_short tokens ≡ true

abbrev pub AreFine : List (List (List ℕ)) → Type 0
AreFine [] = Unit {0}
AreFine (tokens ∷ lines) = IsFine tokens × AreFine lines

-- a name is a word of at most 32 bytes
pub name_word : (name : List ℕ) → is_name name ≡ true → (is_word name ≡ true) × (length name ≤ 32)
name_word name h =
    let p = and_parts (is_word name && nat_le (length name) 32) (not (list_any is_path_byte name)) h in
    let q = and_parts (is_word name) (nat_le (length name) 32) p.0 in
    (q.0, leb-true (length name) 32 q.1)

names_words : (names : List (List ℕ)) → list_all is_name names ≡ true → (list_all is_word names ≡ true) × AreUpTo 32 names
names_words [] h = (refl, tt)
names_words (name ∷ names) h =
    let p = and_parts (is_name name) (list_all is_name names) h in
    let first = name_word name p.0 in
    let more = names_words names p.1 in
    (and_from _ _ first.0 more.0, (first.1, more.1))

-- a word of the file and names
fine_names : (head : List ℕ) (names : List (List ℕ)) → is_word head ≡ true → length head ≤ 32 → list_all is_name names ≡ true → length names ≤ 64 → IsFine (head ∷ names)
fine_names head names word low named few =
    let all = names_words names named in
    record {
      line = words_line (head ∷ names) (omega arith) (and_from _ _ word all.0);
      short = short_line 32 (head ∷ names) (low, all.1) (omega arith);
    }

fine_pair : (head a b : List ℕ) → is_word head ≡ true → length head ≤ 32 → is_name a ≡ true → is_name b ≡ true → IsFine (head ∷ a ∷ b ∷ [])
fine_pair head a b word low ha hb = fine_names head (a ∷ b ∷ []) word low (and_from _ _ ha (and_from _ _ hb refl)) (omega arith)

fine_fact : (names : List (List ℕ)) (before : List Statement) (s : Statement) → list_all is_name names ≡ true → IsFact names before s → IsFine (spelling s)
fine_fact names before (Lattice name) named h = absurd h
fine_fact names before (Elements others) named h = absurd h
fine_fact names before (Below a b) named h = fine_pair (codes "below") a b refl (omega arith) (among_named names a named h.0) (among_named names b named h.1)
fine_fact names before (Not a b) named h = fine_pair (codes "not") a b refl (omega arith) (among_named names a named h.0) (among_named names b named h.1)

fine_facts : (names : List (List ℕ)) (before more : List Statement) → list_all is_name names ≡ true → AreFacts names before more → AreFine (map spelling more)
fine_facts names before [] named h = tt
fine_facts names before (s ∷ more) named h = (fine_fact names before s named h.0, fine_facts names (before ++ s ∷ []) more named h.1)

fine_lines : (v : LatticeValue) → IsReady v → AreFine (lattice_lines v)
fine_lines v r = (
  fine_names (codes "lattice") (v.name ∷ []) refl (omega arith) (and_from _ _ r.titled refl) (omega arith),
  (
    fine_names (codes "elements") v.names refl (omega arith) r.names_are (omega (arith, r.few, r.named)),
    fine_facts v.names (Lattice v.name ∷ Elements v.names ∷ []) _ r.names_are (all_facts v r),
  ),
)

all_lines : (lines : List (List (List ℕ))) → AreFine lines → list_all is_line lines ≡ true
all_lines [] h = refl
all_lines (tokens ∷ lines) h = and_from _ _ h.0.line (all_lines lines h.1)

all_short : (lines : List (List (List ℕ))) → AreFine lines → list_all is_short lines ≡ true
all_short [] h = refl
all_short (tokens ∷ lines) h = and_from _ _ h.0.short (all_short lines h.1)

pub lattice_lines_are : (v : LatticeValue) → IsReady v → list_all is_line (lattice_lines v) ≡ true
lattice_lines_are v r = all_lines (lattice_lines v) (fine_lines v r)

pub lattice_lines_are_short : (v : LatticeValue) → IsReady v → list_all is_short (lattice_lines v) ≡ true
lattice_lines_are_short v r = all_short (lattice_lines v) (fine_lines v r)
