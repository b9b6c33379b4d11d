-- A formula that is written out, as it is written: with names, which stand for it.
use Rattle.std.proofs.Common.{◌≡◌, ℕ, ◌<◌, Bool, true, false, not, ◌==◌, nat_le, if◌then◌else◌, List, [], ◌∷◌, length, Some, refl, sym, ap}
use Rattle.std.specs.List.{list_all, position}
use Rattle.std.specs.Str.{bytes_eq}
use Rattle.std.proofs.lemmas.Bool.{and_parts, not-true, lt-ltb, ltb-true, leb-true, eqb-true}
use Rattle.xc_theory.specs.Codes.{total, digits, AreDigits}
use Rattle.xc_theory.proofs.Codes.{digits_are_in_range, codes_of_digits}
use Rattle.xc_base.specs.Names.{has_twice, name_at}
use Rattle.xc_base.proofs.Naming.{place_of-name_at}
use Rattle.xc_formula.specs.Written.{Written, True, False, Name, Braces, Prefixed, Until}
use Rattle.xc_formula.specs.Written as written
use Rattle.xc_ctl.specs.Trees.{Signature, Tree, Const, Atom, Not, And, Or, Ex, Eu, Au, Eg, is_part, is_fit, sizes_of, digits_named, element_named}
use Rattle.xc_resolved.specs.Resolved.{resolved}
use Rattle.xc_formula_text.specs.Texts.{digit_names}
use Rattle.xc_ctl.specs.Trees.{is_tree_in}
use Rattle.xc_formula.specs.declared.prefix.Prefix.TheVariants.{Negation, SomeNext, SomeGlobally}
use Rattle.xc_formula.specs.declared.prefix.Paths.TheVariants.{SomePath, EveryPath}
use Rattle.xc_ctl.proofs.ElementCodes.{fit}

-- an element by its names
abbrev pub element_written : Signature → ℕ → Written
element_written n c = if c == n.top then True else if c == n.bottom then False else Braces (digit_names n.parts (digits (sizes_of n.parts) c))

abbrev pub written_of : Signature → Tree → Written
written_of n (Const c) = element_written n c
written_of n (Atom p) = Name (name_at n.props p)
written_of n (Not t) = Prefixed Negation (written_of n t)
written_of n (And s t) = written.And (written_of n s) (written_of n t)
written_of n (Or s t) = written.Or (written_of n s) (written_of n t)
written_of n (Ex t) = Prefixed SomeNext (written_of n t)
written_of n (Eu s t) = Until SomePath (written_of n s) (written_of n t)
written_of n (Au s t) = Until EveryPath (written_of n s) (written_of n t)
written_of n (Eg t) = Prefixed SomeGlobally (written_of n t)

-- the name at a place is found there
position_at : (names : List (List ℕ)) (i : ℕ) → has_twice names ≡ false → i < length names → position (bytes_eq (name_at names i)) names ≡ Some i
position_at names i h low = rw (place_of-name_at names i h low, lt-ltb i (length names) low)

-- no part has a name twice
part_once : (names : List (List ℕ)) → is_part names ≡ true → has_twice names ≡ false
part_once names h = not-true (has_twice names) (and_parts _ (not (has_twice names)) h).1

-- the names of digits name them
digits_back : (parts : List (List (List ℕ))) (row : List ℕ) → list_all is_part parts ≡ true → AreDigits (sizes_of parts) row → digits_named parts (digit_names parts row) ≡ Some row
digits_back [] [] h k = refl
digits_back [] (digit ∷ row) h k = absurd k
digits_back (names ∷ parts) [] h k = absurd k
digits_back (names ∷ parts) (digit ∷ row) h k =
    let p = and_parts (is_part names) (list_all is_part parts) h in
    rw (position_at names digit (part_once names p.0) k.0, digits_back parts row p.1 k.1)

element_back : (parts : List (List (List ℕ))) (c : ℕ) → list_all is_part parts ≡ true → c < total (sizes_of parts) → element_named parts (digit_names parts (digits (sizes_of parts) c)) ≡ Some c
element_back parts c h low =
    rw (digits_back parts (digits (sizes_of parts) c) h (digits_are_in_range (sizes_of parts) c low), codes_of_digits (sizes_of parts) c low)

-- what a signature that is fit has once
pub props_once : (n : Signature) → is_fit n ≡ true → has_twice n.props ≡ false
props_once n h =
    let a = and_parts _ _ h in
    let b = and_parts _ _ a.0 in
    let c = and_parts _ _ b.0 in
    let d = and_parts _ _ c.0 in
    let e = and_parts _ _ d.0 in
    let f = and_parts _ _ e.0 in
    let g = and_parts _ _ f.0 in
    let i = and_parts _ (not (has_twice n.props)) g.0 in
    not-true (has_twice n.props) i.1

pub some_part : (n : Signature) → is_fit n ≡ true → 0 < length n.parts
some_part n h =
    let a = and_parts _ _ h in
    let b = and_parts _ _ a.0 in
    let c = and_parts _ _ b.0 in
    let d = and_parts _ _ c.0 in
    let e = and_parts _ _ d.0 in
    let f = and_parts _ _ e.0 in
    let g = and_parts _ (nat_le 1 (length n.parts)) f.0 in
    leb-true 1 (length n.parts) g.1

-- by whether it is the top or the bottom
const_back : (n : Signature) (c : ℕ) (a b : Bool) → (c == n.top) ≡ a → (c == n.bottom) ≡ b → element_named n.parts (digit_names n.parts (digits (sizes_of n.parts) c)) ≡ Some c
    → resolved n (if a then True else if b then False else Braces (digit_names n.parts (digits (sizes_of n.parts) c))) ≡ Some (Const c)
const_back n c true b e f h = ap (λ (k : ℕ). Some (Const k)) (sym (eqb-true c n.top e))
const_back n c false true e f h = ap (λ (k : ℕ). Some (Const k)) (sym (eqb-true c n.bottom f))
const_back n c false false e f h = rw h refl

-- a formula as it is written stands for itself
pub written_back : (n : Signature) (t : Tree) → is_fit n ≡ true → is_tree_in (total (sizes_of n.parts)) (length n.props) t ≡ true → resolved n (written_of n t) ≡ Some t
written_back n (Const c) h k = const_back n c (c == n.top) (c == n.bottom) refl refl (element_back n.parts c (fit n h).parts (ltb-true c (total (sizes_of n.parts)) k))
written_back n (Atom p) h k = rw (position_at n.props p (props_once n h) (ltb-true p (length n.props) k)) refl
written_back n (Not t) h k = rw (written_back n t h k) refl
written_back n (And s t) h k = let p = and_parts _ _ k in rw (written_back n s h p.0, written_back n t h p.1) refl
written_back n (Or s t) h k = let p = and_parts _ _ k in rw (written_back n s h p.0, written_back n t h p.1) refl
written_back n (Ex t) h k = rw (written_back n t h k) refl
written_back n (Eu s t) h k = let p = and_parts _ _ k in rw (written_back n s h p.0, written_back n t h p.1) refl
written_back n (Au s t) h k = let p = and_parts _ _ k in rw (written_back n s h p.0, written_back n t h p.1) refl
written_back n (Eg t) h k = rw (written_back n t h k) refl
