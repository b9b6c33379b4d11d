-- The deciding function gives the statement that is due, where one is.
use Rattle.std.proofs.Common.{◌≡◌, ℕ, Bool, true, false, ◌&&◌, List, [], ◌∷◌, Some, None, length, nat_lt, if◌then◌else◌, codes, refl, ◌∙◌, subst, ap}
use Rattle.std.specs.List.{list_all}
use Rattle.std.specs.Str.{bytes_eq}
use Rattle.xc_base.proofs.Naming.{same_bytes}
use Rattle.std.proofs.lemmas.Bool.{and_parts}
use Rattle.xc_base.specs.Words.{is_name}
use Rattle.xc_base.specs.Deciding.{Decides}
use Rattle.xc_lattice.specs.declared.statement.Statement.{Statement}
use Rattle.xc_lattice.specs.declared.statement.Statement.TheVariants.{Lattice, Elements, Below, Not}
use Rattle.xc_lattice.specs.LatticeFiles.{IsDue, has_names, lattice_format}
use Rattle.xc_lattice.specs.Deciding.{given, head_line, elements_line, pair_line, law_line, decide}

none_is_not : {X : Type 0} (x : X) → None ≡ Some x → ⊥
none_is_not x e = cc

some_same : {X : Type 0} {x y : X} → Some x ≡ Some y → x ≡ y
some_same e = cc

given_some : (b : Bool) (s t : Statement) → given b s ≡ Some t → (b ≡ true) × (s ≡ t)
given_some true s t h = (refl, some_same h)
given_some false s t h = absurd (none_is_not t h)

head_due : (word name : List ℕ) → (bytes_eq word (codes "lattice") && is_name name) ≡ true → IsDue [] (word ∷ name ∷ []) (Lattice name)
head_due word name h =
    let parts = and_parts (bytes_eq word (codes "lattice")) (is_name name) h in
    record { spelled = ap (λ w. w ∷ name ∷ []) (same_bytes word (codes "lattice") parts.0); named = parts.1; placed = refl }

head_sound : (tokens : List (List ℕ)) (s : Statement) → head_line tokens ≡ Some s → IsDue [] tokens s
head_sound [] s h = absurd (none_is_not s h)
head_sound (word ∷ []) s h = absurd (none_is_not s h)
head_sound (word ∷ name ∷ []) s h =
    let parts = given_some (bytes_eq word (codes "lattice") && is_name name) (Lattice name) s h in
    subst (IsDue [] (word ∷ name ∷ [])) parts.1 (head_due word name parts.0)
head_sound (word ∷ name ∷ other ∷ more) s h = absurd (none_is_not s h)

elements_due : (before : Statement) (word : List ℕ) (names : List (List ℕ)) → (bytes_eq word (codes "elements") && (nat_lt 0 (length names) && list_all is_name names)) ≡ true → IsDue (before ∷ []) (word ∷ names) (Elements names)
elements_due before word names h =
    let parts = and_parts (bytes_eq word (codes "elements")) (nat_lt 0 (length names) && list_all is_name names) h in
    record { spelled = ap (λ w. w ∷ names) (same_bytes word (codes "elements") parts.0); named = parts.1; placed = refl }

elements_sound : (before : Statement) (tokens : List (List ℕ)) (s : Statement) → elements_line tokens ≡ Some s → IsDue (before ∷ []) tokens s
elements_sound before [] s h = absurd (none_is_not s h)
elements_sound before (word ∷ names) s h =
    let parts = given_some (bytes_eq word (codes "elements") && (nat_lt 0 (length names) && list_all is_name names)) (Elements names) s h in
    subst (IsDue (before ∷ []) (word ∷ names)) parts.1 (elements_due before word names parts.0)

-- the rows on two elements
module _ (s t : Statement) (more : List Statement) (word a b : List ℕ) (named : (is_name a && is_name b) ≡ true) where
  below_due : bytes_eq word (codes "below") ≡ true → IsDue (s ∷ t ∷ more) (word ∷ a ∷ b ∷ []) (Below a b)
  below_due h = record { spelled = ap (λ w. w ∷ a ∷ b ∷ []) (same_bytes word (codes "below") h); named = named; placed = refl }

  not_due : bytes_eq word (codes "not") ≡ true → IsDue (s ∷ t ∷ more) (word ∷ a ∷ b ∷ []) (Not a b)
  not_due h = record { spelled = ap (λ w. w ∷ a ∷ b ∷ []) (same_bytes word (codes "not") h); named = named; placed = refl }

  given_not : (r : Statement) → given (bytes_eq word (codes "not")) (Not a b) ≡ Some r → IsDue (s ∷ t ∷ more) (word ∷ a ∷ b ∷ []) r
  given_not r h =
      let parts = given_some (bytes_eq word (codes "not")) (Not a b) r h in
      subst (IsDue (s ∷ t ∷ more) (word ∷ a ∷ b ∷ [])) parts.1 (not_due parts.0)

  pair_sound : (x : Bool) (r : Statement) → bytes_eq word (codes "below") ≡ x → (if x then Some (Below a b) else given (bytes_eq word (codes "not")) (Not a b)) ≡ Some r → IsDue (s ∷ t ∷ more) (word ∷ a ∷ b ∷ []) r
  pair_sound true r e h = subst (IsDue (s ∷ t ∷ more) (word ∷ a ∷ b ∷ [])) (some_same h) (below_due e)
  pair_sound false r e h = given_not r h

named_sound : (s t : Statement) (more : List Statement) (word a b : List ℕ) (x : Bool) (r : Statement) → (is_name a && is_name b) ≡ x → (if x then pair_line word a b else None) ≡ Some r → IsDue (s ∷ t ∷ more) (word ∷ a ∷ b ∷ []) r
named_sound s t more word a b true r e h = pair_sound s t more word a b e (bytes_eq word (codes "below")) r refl h
named_sound s t more word a b false r e h = absurd (none_is_not r h)

law_sound : (s t : Statement) (more : List Statement) (tokens : List (List ℕ)) (r : Statement) → law_line tokens ≡ Some r → IsDue (s ∷ t ∷ more) tokens r
law_sound s t more [] r h = absurd (none_is_not r h)
law_sound s t more (word ∷ []) r h = absurd (none_is_not r h)
law_sound s t more (word ∷ a ∷ []) r h = absurd (none_is_not r h)
law_sound s t more (word ∷ a ∷ b ∷ []) r h = named_sound s t more word a b (is_name a && is_name b) r refl h
law_sound s t more (word ∷ a ∷ b ∷ c ∷ rest) r h = absurd (none_is_not r h)

decide_sound : (before : List Statement) (tokens : List (List ℕ)) (s : Statement) → decide before tokens ≡ Some s → IsDue before tokens s
unfolding decide
decide_sound [] tokens s h = head_sound tokens s h
decide_sound (x ∷ []) tokens s h = elements_sound x tokens s h
decide_sound (x ∷ y ∷ more) tokens s h = law_sound x y more tokens s h

-- a due statement is the one that is decided
not_true : false ≡ true → ⊥
not_true e = cc

head_given : (name : List ℕ) → is_name name ≡ true → head_line (codes "lattice" ∷ name ∷ []) ≡ Some (Lattice name)
head_given name h = rw h

elements_given : (names : List (List ℕ)) → has_names (Elements names) ≡ true → elements_line (codes "elements" ∷ names) ≡ Some (Elements names)
elements_given names h = rw h

below_given : (a b : List ℕ) → (is_name a && is_name b) ≡ true → law_line (codes "below" ∷ a ∷ b ∷ []) ≡ Some (Below a b)
below_given a b h = rw h

not_given : (a b : List ℕ) → (is_name a && is_name b) ≡ true → law_line (codes "not" ∷ a ∷ b ∷ []) ≡ Some (Not a b)
not_given a b h = rw h

decide_complete : (before : List Statement) (tokens : List (List ℕ)) (s : Statement) → IsDue before tokens s → decide before tokens ≡ Some s
unfolding decide
decide_complete [] tokens (Lattice name) h = ap head_line h.spelled ∙ head_given name h.named
decide_complete [] tokens (Elements names) h = absurd (not_true h.placed)
decide_complete [] tokens (Below a b) h = absurd (not_true h.placed)
decide_complete [] tokens (Not a b) h = absurd (not_true h.placed)
decide_complete (x ∷ []) tokens (Lattice name) h = absurd (not_true h.placed)
decide_complete (x ∷ []) tokens (Elements names) h = ap elements_line h.spelled ∙ elements_given names h.named
decide_complete (x ∷ []) tokens (Below a b) h = absurd (not_true h.placed)
decide_complete (x ∷ []) tokens (Not a b) h = absurd (not_true h.placed)
decide_complete (x ∷ y ∷ more) tokens (Lattice name) h = absurd (not_true h.placed)
decide_complete (x ∷ y ∷ more) tokens (Elements names) h = absurd (not_true h.placed)
decide_complete (x ∷ y ∷ more) tokens (Below a b) h = ap law_line h.spelled ∙ below_given a b h.named
decide_complete (x ∷ y ∷ more) tokens (Not a b) h = ap law_line h.spelled ∙ not_given a b h.named

pub decides : Decides lattice_format decide
decides = record { sound = decide_sound; complete = decide_complete }
