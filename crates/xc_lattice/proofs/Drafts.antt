-- The faultless statements of a whole file are its name, its elements and facts on these.
use Rattle.std.proofs.Common.{◌≡◌, ℕ, zero, suc, ◌<◌, ◌≤◌, Bool, true, false, ◌&&◌, not, List, [], ◌∷◌, ◌++◌, Some, None, length, get_or, nat_lt, nat_le, if◌then◌else◌, ◌⊎◌, inl, inr, refl, sym, subst, ap, arith}
use Rattle.std.specs.List.{list_all, Contains}
use Rattle.std.proofs.lemmas.Bool.{and_parts, leb-true}
use Rattle.xc_base.specs.Words.{is_name}
use Rattle.xc_base.specs.Formats.{Row, Excess, IsFaultless, AreStatements}
use Rattle.xc_base.specs.Formats.AreStatements.{none, next}
use Rattle.xc_base.specs.declared.fault.Part.TheVariants as parts
use Rattle.xc_base.specs.declared.fault.Counted.TheVariants as counted
use Rattle.xc_lattice.specs.declared.statement.Statement.{Statement}
use Rattle.xc_lattice.specs.declared.statement.Statement.TheVariants.{Lattice, Elements, Below, Not}
use Rattle.xc_lattice.specs.LatticeFiles.{has_names, element_excess, lattice_format, missing_part}
use Rattle.xc_base.specs.Names.{is_among}
use Rattle.xc_lattice.specs.Drafts.{IsFact, AreFacts, IsDraft}

not_true : false ≡ true → ⊥
not_true e = cc

some_is_not : {X : Type 0} (x : X) → Some x ≡ None → ⊥
some_is_not x e = cc

both_known : (a b : Bool) → not (a && b) ≡ false → (a ≡ true) × (b ≡ true)
both_known true true e = (refl, refl)
both_known true false e = absurd (not_true (sym e))
both_known false b e = absurd (not_true (sym e))

-- a faultless statement behind the name and the elements
fact_from : (name : List ℕ) (names : List (List ℕ)) (mid : List Statement) (tokens : List (List ℕ)) (s : Statement) → IsFaultless lattice_format (Lattice name ∷ Elements names ∷ mid) tokens s → IsFact names (Lattice name ∷ Elements names ∷ mid) s
fact_from name names mid tokens (Lattice other) h = not_true h.due.placed
fact_from name names mid tokens (Elements others) h = not_true h.due.placed
fact_from name names mid tokens (Below a b) h = both_known (is_among names a) (is_among names b) h.known
fact_from name names mid tokens (Not a b) h =
    let known = both_known (is_among names a) (is_among names b) h.known in (known.0, known.1, h.first)

facts_from : {before : List Statement} {rows : List Row} {more : List Statement} (name : List ℕ) (names : List (List ℕ)) (mid : List Statement)
    → AreStatements lattice_format before rows more → before ≡ Lattice name ∷ Elements names ∷ mid → AreFacts names before more
facts_from name names mid (none before) e = tt
facts_from name names mid (next before row rows s more first rest) e =
    let here : IsFact names before s =
    subst (λ (b : List Statement). IsFact names b s) (sym e)
    (fact_from name names mid row.tokens s (subst (λ (b : List Statement). IsFaultless lattice_format b row.tokens s) e first)) in
    (here, facts_from name names (mid ++ s ∷ []) rest (ap (λ b. b ++ s ∷ []) e))

-- the number of elements is from 2 to 64
passed : (b : Bool) (x : Excess) → (if b then None else Some x) ≡ None → b ≡ true
passed true x h = refl
passed false x h = absurd (some_is_not x h)

in_limits : (before : List Statement) (names : List (List ℕ)) → element_excess before (Elements names) ≡ None → (2 ≤ length names) × (length names ≤ 64)
in_limits before names h =
    let both = and_parts (nat_le 2 (length names)) (nat_le (length names) 64) (passed (nat_le 2 (length names) && nat_le (length names) 64) (record { what = counted.Elements; found = length names }) h) in
    (leb-true 2 (length names) both.0, leb-true (length names) 64 both.1)

-- the second row and those behind it, and the first row
elements_named : (names : List (List ℕ)) → has_names (Elements names) ≡ true → list_all is_name names ≡ true
elements_named names h = (and_parts (nat_lt 0 (length names)) (list_all is_name names) h).1

elements_draft : (name : List ℕ) (row : Row) (rows : List Row) (s : Statement) (more : List Statement)
    → is_name name ≡ true → IsFaultless lattice_format (Lattice name ∷ []) row.tokens s → AreStatements lattice_format (Lattice name ∷ s ∷ []) rows more → IsDraft (Lattice name ∷ s ∷ more)
elements_draft name row rows (Lattice other) more titled h rest = absurd (not_true h.due.placed)
elements_draft name row rows (Below a b) more titled h rest = absurd (not_true h.due.placed)
elements_draft name row rows (Not a b) more titled h rest = absurd (not_true h.due.placed)
elements_draft name row rows (Elements names) more titled h rest =
    let limits = in_limits (Lattice name ∷ []) names h.few in
    record {
      name = name;
      names = names;
      facts = more;
      parts = refl;
      titled = titled;
      some = limits.0;
      few = limits.1;
      different = h.first;
      named = elements_named names h.due.named;
      known = facts_from name names [] rest refl;
    }

second_draft : {before : List Statement} {rows : List Row} {more : List Statement} (name : List ℕ)
    → is_name name ≡ true → AreStatements lattice_format before rows more → before ≡ Lattice name ∷ [] → missing_part (Lattice name ∷ more) ≡ None → IsDraft (Lattice name ∷ more)
second_draft name titled (none before) e h = absurd (some_is_not parts.Elements h)
second_draft name titled (next before row rows s more first rest) e h =
    elements_draft name row rows s more titled
    (subst (λ (b : List Statement). IsFaultless lattice_format b row.tokens s) e first)
    (subst (λ (b : List Statement). AreStatements lattice_format (b ++ s ∷ []) rows more) e rest)

name_draft : (row : Row) (rows : List Row) (s : Statement) (more : List Statement)
    → IsFaultless lattice_format [] row.tokens s → AreStatements lattice_format (s ∷ []) rows more → missing_part (s ∷ more) ≡ None → IsDraft (s ∷ more)
name_draft row rows (Lattice name) more first rest h = second_draft name first.due.named rest refl h
name_draft row rows (Elements names) more first rest h = absurd (not_true first.due.placed)
name_draft row rows (Below a b) more first rest h = absurd (not_true first.due.placed)
name_draft row rows (Not a b) more first rest h = absurd (not_true first.due.placed)

first_draft : {before : List Statement} {rows : List Row} {all : List Statement}
    → AreStatements lattice_format before rows all → before ≡ [] → missing_part all ≡ None → IsDraft all
first_draft (none before) e h = absurd (some_is_not parts.Head h)
first_draft (next before row rows s more first rest) e h =
    name_draft row rows s more
    (subst (λ (b : List Statement). IsFaultless lattice_format b row.tokens s) e first)
    (subst (λ (b : List Statement). AreStatements lattice_format (b ++ s ∷ []) rows more) e rest) h

-- the statements of a whole file
pub IsDraft-from_whole : (rows : List Row) (statements : List Statement) → AreStatements lattice_format [] rows statements → missing_part statements ≡ None → IsDraft statements
IsDraft-from_whole rows statements h m = first_draft h refl m

-- An element of a list, by recursion.
abbrev pub Has : {X : Type 0} → List X → X → Type 0
Has [] x = ⊥
Has (y ∷ ys) x = (y ≡ x) ⊎ Has ys x

Has-from_place : {X : Type 0} (xs : List X) (x : X) (k : ℕ) → k < length xs → get_or xs k x ≡ x → Has xs x
Has-from_place [] x k within e = absurd (omega arith)
Has-from_place (y ∷ ys) x zero within e = inl e
Has-from_place (y ∷ ys) x (suc k) within e = inr (Has-from_place ys x k (omega arith) e)

pub Has-from_Contains : {X : Type 0} (xs : List X) (x : X) → Contains xs x → Has xs x
Has-from_Contains xs x h = Has-from_place xs x h.0 h.1 h.2

pub Contains-from_Has : {X : Type 0} (xs : List X) (x : X) → Has xs x → Contains xs x
Contains-from_Has [] x h = absurd h
Contains-from_Has (y ∷ ys) x (inl e) = (0, omega arith, e)
Contains-from_Has (y ∷ ys) x (inr h) =
    let rest = Contains-from_Has ys x h in (suc rest.0, omega (arith, rest.1), rest.2)
