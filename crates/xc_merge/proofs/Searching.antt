-- Lists of faults, as they are defined and as the code comes to them.
use Rattle.std.proofs.Common.{◌≡◌, ℕ, Bool, true, false, not, cond, ◌||◌, List, [], ◌∷◌, ◌++◌, map, Some, None, refl, ◌∙◌, ap}
use Rattle.std.specs.List.{flat_map, filter, find}
use Rattle.std.specs.Str.{bytes_eq}
use Rattle.xc_base.specs.Names.{is_among}
use Rattle.xc_forms.specs.Variables.{names_of}
use Rattle.xc_expr.specs.Called.{is_called}
use Rattle.xc_forms.specs.declared.domain.Domain.{Domain}
use Rattle.xc_merge.specs.Faults.{missing, values_of, values_named}
use Rattle.xc_merge.specs.declared.fault.MergeFault.{MergeFault}

-- a word that is missing or not, and what is said of the others
one_missing : (f : List ℕ → MergeFault) (b : Bool) (word : List ℕ) (rest : List (List ℕ)) (more : List MergeFault) → map f rest ≡ more → map f (cond (not b) (word ∷ rest) rest) ≡ cond b [] (f word ∷ []) ++ more
one_missing f true word rest more e = e
one_missing f false word rest more e = ap (λ (faults : List MergeFault). f word ∷ faults) e

pub missing_items : {X : Type 0} (f : List ℕ → MergeFault) (names : List (List ℕ)) (word : X → List ℕ) (xs : List X) → map f (missing names (map word xs)) ≡ flat_map (λ (x : X). cond (is_among names (word x)) [] (f (word x) ∷ [])) xs
missing_items f names word [] = refl
missing_items {X} f names word (x ∷ xs) =
    one_missing f (is_among names (word x)) (word x) (missing names (map word xs)) (flat_map (λ (y : X). cond (is_among names (word y)) [] (f (word y) ∷ [])) xs) (missing_items f names word xs)

one_picked : {X : Type 0} (g : X → List MergeFault) (b : Bool) (x : X) (rest : List X) (more : List MergeFault) → flat_map g rest ≡ more → flat_map g (cond b (x ∷ rest) rest) ≡ cond b (g x) [] ++ more
one_picked g true x rest more e = ap (λ (faults : List MergeFault). g x ++ faults) e
one_picked g false x rest more e = e

-- what is said of the items that a test picks
pub picked_items : {X : Type 0} (g : X → List MergeFault) (p : X → Bool) (xs : List X) → flat_map g (filter p xs) ≡ flat_map (λ (x : X). cond (p x) (g x) []) xs
picked_items g p [] = refl
picked_items {X} g p (x ∷ xs) = one_picked g (p x) x (filter p xs) (flat_map (λ (y : X). cond (p y) (g y) []) xs) (picked_items g p xs)

one_mapped : {X : Type 0} (g : X → MergeFault) (b : Bool) (x : X) (rest : List X) (more : List MergeFault) → map g rest ≡ more → map g (cond b (x ∷ rest) rest) ≡ cond b (g x ∷ []) [] ++ more
one_mapped g true x rest more e = ap (λ (faults : List MergeFault). g x ∷ faults) e
one_mapped g false x rest more e = e

pub mapped_items : {X : Type 0} (g : X → MergeFault) (p : X → Bool) (xs : List X) → map g (filter p xs) ≡ flat_map (λ (x : X). cond (p x) (g x ∷ []) []) xs
mapped_items g p [] = refl
mapped_items {X} g p (x ∷ xs) = one_mapped g (p x) x (filter p xs) (flat_map (λ (y : X). cond (p y) (g y ∷ []) []) xs) (mapped_items g p xs)

one_refused : {X : Type 0} (g : X → MergeFault) (b : Bool) (x : X) (rest : List X) (more : List MergeFault) → map g rest ≡ more → map g (cond (not b) (x ∷ rest) rest) ≡ cond b [] (g x ∷ []) ++ more
one_refused g true x rest more e = e
one_refused g false x rest more e = ap (λ (faults : List MergeFault). g x ∷ faults) e

pub refused_items : {X : Type 0} (g : X → MergeFault) (p : X → Bool) (xs : List X) → map g (filter (λ (x : X). not (p x)) xs) ≡ flat_map (λ (x : X). cond (p x) [] (g x ∷ [])) xs
refused_items g p [] = refl
refused_items {X} g p (x ∷ xs) = one_refused g (p x) x (filter (λ (y : X). not (p y)) xs) (flat_map (λ (y : X). cond (p y) [] (g y ∷ [])) xs) (refused_items g p xs)

append_mapped : {X : Type 0} (f : X → MergeFault) (xs ys : List X) → map f (xs ++ ys) ≡ map f xs ++ map f ys
append_mapped f [] ys = refl
append_mapped f (x ∷ xs) ys = ap (λ (faults : List MergeFault). f x ∷ faults) (append_mapped f xs ys)

pub flat_mapped : {X Y : Type 0} (f : Y → MergeFault) (h : X → List Y) (xs : List X) → map f (flat_map h xs) ≡ flat_map (λ (x : X). map f (h x)) xs
flat_mapped f h [] = refl
flat_mapped f h (x ∷ xs) = append_mapped f (h x) (flat_map h xs) ∙ ap (λ (faults : List MergeFault). map f (h x) ++ faults) (flat_mapped f h xs)

append_one : (b : Bool) (x : List ℕ) (all front back : List (List ℕ)) → all ≡ front ++ back → cond (not b) (x ∷ all) all ≡ cond (not b) (x ∷ front) front ++ back
append_one true x all front back e = e
append_one false x all front back e = ap (λ (words : List (List ℕ)). x ∷ words) e

append_missing : (names xs ys : List (List ℕ)) → missing names (xs ++ ys) ≡ missing names xs ++ missing names ys
append_missing names [] ys = refl
append_missing names (x ∷ xs) ys = append_one (is_among names x) x (missing names (xs ++ ys)) (missing names xs) (missing names ys) (append_missing names xs ys)

pub missing_both : (f : List ℕ → MergeFault) (names xs ys : List (List ℕ)) → map f (missing names (xs ++ ys)) ≡ map f (missing names xs) ++ map f (missing names ys)
missing_both f names xs ys = ap (map f) (append_missing names xs ys) ∙ append_mapped f (missing names xs) (missing names ys)

-- a variable's name is among the names where the variable is found
one_called : (name : List ℕ) (d e : Domain) (more : List Domain) (b : Bool) → cond b (Some d) (find (is_called name) more) ≡ Some e → (find (is_called name) more ≡ Some e → is_among (names_of more) name ≡ true) → (b || is_among (names_of more) name) ≡ true
one_called name d e more true h k = refl
one_called name d e more false h k = k h

pub found_among : (vars : List Domain) (name : List ℕ) (d : Domain) → find (is_called name) vars ≡ Some d → is_among (names_of vars) name ≡ true
found_among [] name d h = cc
found_among (x ∷ vars) name d h = one_called name x d vars (bytes_eq name x.name) h (found_among vars name d)

one_lacking : (name : List ℕ) (d : Domain) (more : List Domain) (b : Bool) → cond b (Some d) (find (is_called name) more) ≡ None → (find (is_called name) more ≡ None → is_among (names_of more) name ≡ false) → (b || is_among (names_of more) name) ≡ false
one_lacking name d more true h k = cc
one_lacking name d more false h k = k h

pub lacking_among : (vars : List Domain) (name : List ℕ) → find (is_called name) vars ≡ None → is_among (names_of vars) name ≡ false
lacking_among [] name h = refl
lacking_among (x ∷ vars) name h = one_lacking name x vars (bytes_eq name x.name) h (lacking_among vars name)

pub named_values : (vars : List Domain) (name : List ℕ) (d : Domain) → find (is_called name) vars ≡ Some d → values_named vars name ≡ d.values
named_values vars name d h = ap values_of h
