-- The steps by which a formula that is written out is printed.
use Rattle.std.proofs.Common.{◌≡◌, ℕ, suc, ◌+◌, ◌-◌, ◌*◌, ◌/◌, ◌%◌, ◌<◌, ◌≤◌, Bool, true, false, nat_lt, if◌then◌else◌, List, [], ◌∷◌, ◌++◌, length, length-drop, drop, drop-cons, add-one, append_assoc, append-nil, codes, refl, sym, ◌∙◌, ap, subst, arith}
use Rattle.std.specs.List.{list_all}
use Rattle.std.proofs.lemmas.List.{drop_all, map-append}
use Rattle.std.proofs.lemmas.Nat.{div_below, mod_below}
use Rattle.xc_theory.specs.Codes.{total, digits}
use Rattle.xc_base.specs.Lines.{texts}
use Rattle.xc_base.specs.declared.lines.Lexeme.{Lexeme}
use Rattle.xc_base.specs.Names.{name_at}
use Rattle.xc_formula.specs.Written.{listed}
use Rattle.xc_formula_text.specs.Texts.{digit_names, bracketed}
use Rattle.xc_ctl.specs.Trees.{is_part, sizes_of}
use Rattle.xc_ctl.specs.Resolving.{part_at, total_from}
use Rattle.xc_formula_text.specs.Printing.{only_if, digits_from, element_braces}
use Rattle.xc_ctl.proofs.ElementCodes.{total_more, total_some}

-- one token more, and none
pub texts_more : (xs : List Lexeme) (x : Lexeme) → texts (xs ++ x ∷ []) ≡ texts xs ++ x.text.now ∷ []
texts_more xs x = map-append (λ (y : Lexeme). y.text.now) xs (x ∷ [])

-- no token more
pub none_more : (ts : List (List ℕ)) → ts ≡ ts ++ []
none_more ts = sym (append-nil ts)

-- the first digit is below the size of the first part, and the rest is a code of the others
pub digit_low : (parts : List (List (List ℕ))) (place rest weight : ℕ) → list_all is_part parts ≡ true → place < length parts → rest < total_from parts place → weight ≡ total_from parts (place + 1) → rest / weight < length (part_at parts place)
digit_low parts place rest weight h low r e =
    let some = total_some parts (place + 1) h in
    let bound : rest < length (part_at parts place) * total_from parts (place + 1) = subst (λ (n : ℕ). rest < n) (total_more parts place low) r in
    rw e (div_below rest (total_from parts (place + 1)) (length (part_at parts place)) some bound)

-- what is left is a code of the parts behind
pub rest_low : (parts : List (List (List ℕ))) (place rest weight : ℕ) → list_all is_part parts ≡ true → weight ≡ total_from parts (place + 1) → rest % weight < total_from parts (place + 1)
rest_low parts place rest weight h e = rw e (mod_below rest (total_from parts (place + 1)) (total_some parts (place + 1) h))

-- the parts from the first on are all
pub all_from : (parts : List (List (List ℕ))) (code : ℕ) → code < total (sizes_of parts) → code < total_from parts 0
unfolding total_from
all_from parts code h = h

-- names behind a name
some_left : (n : ℕ) → nat_lt 0 (suc n) ≡ true
some_left n = grind (arith)

-- a name, and a `,` where more follow
listed_first : (name : List ℕ) (parts : List (List (List ℕ))) (code : ℕ) (more : Bool) → more ≡ nat_lt 0 (length parts)
    → listed (name ∷ digit_names parts (digits (sizes_of parts) code)) ≡ (name ∷ only_if more (codes ",")) ++ listed (digit_names parts (digits (sizes_of parts) code))
listed_first name [] code more e = rw e refl
listed_first name (names ∷ parts) code more e = rw (e ∙ some_left (length parts)) refl

-- whether more follow
more_left : (parts : List (List (List ℕ))) (place : ℕ) → place < length parts → nat_lt (place + 1) (length parts) ≡ nat_lt 0 (length (drop (place + 1) parts))
more_left parts place h = rw (length-drop (place + 1) parts) (grind arith)

-- the name of the digit at a place, and those behind
pub digits_next : (parts : List (List (List ℕ))) (place rest weight : ℕ) → place < length parts → weight ≡ total_from parts (place + 1)
    → digits_from parts place rest ≡ (name_at (part_at parts place) (rest / weight) ∷ only_if (nat_lt (place + 1) (length parts)) (codes ",")) ++ digits_from parts (place + 1) (rest % weight)
unfolding digits_from total_from
digits_next parts place rest weight h e =
    let first : drop place parts ≡ part_at parts place ∷ drop (place + 1) parts = rw add-one (drop-cons parts place [] h) in
    rw e
    (ap (λ (ps : List (List (List ℕ))). listed (digit_names ps (digits (sizes_of ps) rest))) first
    ∙ listed_first (name_at (part_at parts place) (rest / total (sizes_of (drop (place + 1) parts)))) (drop (place + 1) parts) (rest % total (sizes_of (drop (place + 1) parts))) (nat_lt (place + 1) (length parts)) (more_left parts place h))

-- behind the last part there is none
pub digits_end : (parts : List (List (List ℕ))) (place rest : ℕ) → length parts ≤ place → digits_from parts place rest ≡ []
unfolding digits_from
digits_end parts place rest h = rw (drop_all place parts h) refl

-- all steps of the names of digits
pub ruleset digit_steps = (digit_low, rest_low, all_from, digits_next, digits_end, append_assoc, append-nil)

-- the digits in braces
pub braces_are : (parts : List (List (List ℕ))) (code : ℕ) (ts : List (List ℕ)) → ((ts ++ codes "{" ∷ []) ++ digits_from parts 0 code) ++ codes "}" ∷ [] ≡ ts ++ element_braces parts code
unfolding element_braces
braces_are parts code ts = append_assoc (ts ++ codes "{" ∷ []) (digits_from parts 0 code) (codes "}" ∷ []) ∙ append_assoc ts (codes "{" ∷ []) (digits_from parts 0 code ++ codes "}" ∷ [])

-- brackets
pub bracketed_is : (b : Bool) (ts : List (List ℕ)) → bracketed b ts ≡ (only_if b (codes "(") ++ ts) ++ only_if b (codes ")")
bracketed_is true ts = refl
bracketed_is false ts = sym (append-nil ts)

-- all steps of the tokens of a tree
pub ruleset tree_steps = (bracketed_is, append_assoc)
