-- A line gets no longer where a guard stands in it as it is printed.
use Rattle.std.proofs.Common.{◌≡◌, ℕ, ◌+◌, ◌≤◌, Bool, true, false, ◌&&◌, ◌||◌, if◌then◌else◌, List, [], ◌∷◌, ◌++◌, length, length-append, append_assoc, append-nil, codes, refl, sym, ◌∙◌, ap, subst, arith}
use Rattle.xc_base.specs.Canonical.{spaced}
use Rattle.xc_base.specs.Words.{is_word}
use Rattle.xc_expr_text.specs.LineParts.{IsNoLonger}
use Rattle.xc_expr_text.specs.Printing.{is_and, is_or, is_joined, bracketed, guard_tokens}
use Rattle.xc_expr.specs.Written.{Written, Level, Sum, Product, Basic, IsSpelled}
use Rattle.xc_expr.specs.Written.IsSpelled.{truth, falsity, equal, unequal, negated, enclosed, factor, and, summand, or}

-- the blank between two tokens
abbrev gap : List ℕ → List ℕ → List ℕ
gap token next = if is_word token && is_word next then 32 ∷ [] else []

gap_size : (b : Bool) → length {A = ℕ} (if b then 32 ∷ [] else []) ≤ 1
gap_size true = omega arith
gap_size false = omega arith

-- how long the text of a token and those behind it is
size_one : (token : List ℕ) → length (spaced (token ∷ [])) ≡ length token
unfolding spaced
size_one token = refl

size_more : (token next : List ℕ) (more : List (List ℕ)) → length (spaced (token ∷ next ∷ more)) ≡ length token + length (gap token next) + length (spaced (next ∷ more))
unfolding spaced
size_more token next more = omega (arith, length-append (token ++ gap token next) (spaced (next ∷ more)), length-append token (gap token next))

-- without one of them tokens are no longer
token_first : (lost : List ℕ) (rest : List (List ℕ)) → length (spaced rest) ≤ length (spaced (lost ∷ rest))
unfolding spaced
token_first lost [] = omega arith
token_first lost (next ∷ more) = omega (arith, size_more lost next more)

token_second : (token lost : List ℕ) (rest : List (List ℕ)) → 1 ≤ length lost → length (spaced (token ∷ rest)) ≤ length (spaced (token ∷ lost ∷ rest))
token_second token lost [] some = omega (arith, size_one token, size_more token lost [])
token_second token lost (next ∷ more) some =
    omega (arith, size_more token next more, size_more token lost (next ∷ more), size_more lost next more, gap_size (is_word token && is_word next))

without_token : (front : List (List ℕ)) (lost : List ℕ) (rest : List (List ℕ)) → 1 ≤ length lost → length (spaced (front ++ rest)) ≤ length (spaced (front ++ lost ∷ rest))
without_token [] lost rest some = token_first lost rest
without_token (token ∷ []) lost rest some = token_second token lost rest some
without_token (token ∷ next ∷ front) lost rest some =
    omega (arith, size_more token next (front ++ rest), size_more token next (front ++ lost ∷ rest), without_token (next ∷ front) lost rest some)

-- tokens are no longer than themselves, nor without one of them; and what is made of parts that are no longer is no longer
same : (tokens : List (List ℕ)) → IsNoLonger tokens tokens
same tokens = record { shorter = λ front rest. omega arith }

dropped : (lost : List ℕ) → 1 ≤ length lost → IsNoLonger (lost ∷ []) []
dropped lost some = record { shorter = λ front rest. without_token front lost rest some }

both_shorter : (left left' right right' : List (List ℕ)) → IsNoLonger left left' → IsNoLonger right right' → IsNoLonger (left ++ right) (left' ++ right')
both_shorter left left' right right' p q = record {
  shorter = λ front rest.
      let first = p.shorter front (right' ++ rest) in
      let second = q.shorter (front ++ left) rest in
      let a : front ++ ((left' ++ right') ++ rest) ≡ front ++ (left' ++ (right' ++ rest)) = ap (λ (t : List (List ℕ)). front ++ t) (append_assoc left' right' rest) in
      let b : (front ++ left) ++ (right' ++ rest) ≡ front ++ (left ++ (right' ++ rest)) = append_assoc front left (right' ++ rest) in
      let c : (front ++ left) ++ (right ++ rest) ≡ front ++ ((left ++ right) ++ rest) = append_assoc front left (right ++ rest) ∙ ap (λ (t : List (List ℕ)). front ++ t) (sym (append_assoc left right rest)) in
      omega (arith, first, second, ap (λ (t : List (List ℕ)). length (spaced t)) a, ap (λ (t : List (List ℕ)). length (spaced t)) b, ap (λ (t : List (List ℕ)). length (spaced t)) c);
}

then_shorter : (tokens middle others : List (List ℕ)) → IsNoLonger tokens middle → IsNoLonger middle others → IsNoLonger tokens others
then_shorter tokens middle others p q = record { shorter = λ front rest. omega (arith, p.shorter front rest, q.shorter front rest) }

-- brackets that are left out
inside : (tokens others : List (List ℕ)) → IsNoLonger tokens others → IsNoLonger (codes "(" ∷ tokens ++ codes ")" ∷ []) (codes "(" ∷ others ++ codes ")" ∷ [])
inside tokens others p =
    both_shorter (codes "(" ∷ []) (codes "(" ∷ []) (tokens ++ codes ")" ∷ []) (others ++ codes ")" ∷ []) (same (codes "(" ∷ [])) (both_shorter tokens others (codes ")" ∷ []) (codes ")" ∷ []) p (same (codes ")" ∷ [])))

unboxed : (tokens : List (List ℕ)) → IsNoLonger (codes "(" ∷ tokens ++ codes ")" ∷ []) tokens
unboxed tokens =
    subst (λ (t : List (List ℕ)). IsNoLonger (codes "(" ∷ tokens ++ codes ")" ∷ []) t) (append-nil tokens)
    (both_shorter (codes "(" ∷ []) [] (tokens ++ codes ")" ∷ []) (tokens ++ []) (dropped (codes "(") (omega arith)) (both_shorter tokens tokens (codes ")" ∷ []) [] (same tokens) (dropped (codes ")") (omega arith))))

-- the tokens of a print at each level
abbrev printed_at : Level → Written → List (List ℕ)
printed_at Sum g = guard_tokens g
printed_at Product g = bracketed (is_or g) (guard_tokens g)
printed_at Basic g = bracketed (is_joined g) (guard_tokens g)

box_kept : (b : Bool) (tokens others : List (List ℕ)) → IsNoLonger tokens others → IsNoLonger (codes "(" ∷ tokens ++ codes ")" ∷ []) (bracketed b others)
box_kept true tokens others p = inside tokens others p
box_kept false tokens others p = then_shorter (codes "(" ∷ tokens ++ codes ")" ∷ []) tokens others (unboxed tokens) p

in_product : (a o : Bool) (tokens others : List (List ℕ)) → IsNoLonger tokens (bracketed (a || o) others) → IsNoLonger tokens (bracketed o others)
in_product true true tokens others p = p
in_product true false tokens others p = then_shorter tokens (codes "(" ∷ others ++ codes ")" ∷ []) others p (unboxed others)
in_product false o tokens others p = p

in_sum : (o : Bool) (tokens others : List (List ℕ)) → IsNoLonger tokens (bracketed o others) → IsNoLonger tokens others
in_sum true tokens others p = then_shorter tokens (codes "(" ∷ others ++ codes ")" ∷ []) others p (unboxed others)
in_sum false tokens others p = p

pub spelled_longer : (l : Level) (d : ℕ) (tokens : List (List ℕ)) (g : Written) → IsSpelled l d tokens g → IsNoLonger tokens (printed_at l g)
spelled_longer _ _ _ _ (truth d) = same (codes "true" ∷ [])
spelled_longer _ _ _ _ (falsity d) = same (codes "false" ∷ [])
spelled_longer _ _ _ _ (equal d x w v n) = same (x ∷ codes "=" ∷ w ∷ [])
spelled_longer _ _ _ _ (unequal d x w v n) = same (x ∷ codes "!=" ∷ w ∷ [])
spelled_longer _ _ _ _ (negated d tokens g s) = both_shorter (codes "!" ∷ []) (codes "!" ∷ []) tokens (printed_at Basic g) (same (codes "!" ∷ [])) (spelled_longer Basic d tokens g s)
spelled_longer _ _ _ _ (enclosed d tokens g s) = box_kept (is_joined g) tokens (guard_tokens g) (spelled_longer Sum d tokens g s)
spelled_longer _ _ _ _ (factor d tokens g s) = in_product (is_and g) (is_or g) tokens (guard_tokens g) (spelled_longer Basic d tokens g s)
spelled_longer _ _ _ _ (and d left right g h s t) =
    both_shorter left (printed_at Product g) (codes "&" ∷ right) (codes "&" ∷ printed_at Basic h) (spelled_longer Product d left g s)
    (both_shorter (codes "&" ∷ []) (codes "&" ∷ []) right (printed_at Basic h) (same (codes "&" ∷ [])) (spelled_longer Basic d right h t))
spelled_longer _ _ _ _ (summand d tokens g s) = in_sum (is_or g) tokens (guard_tokens g) (spelled_longer Product d tokens g s)
spelled_longer _ _ _ _ (or d left right g h s t) =
    both_shorter left (guard_tokens g) (codes "|" ∷ right) (codes "|" ∷ printed_at Product h) (spelled_longer Sum d left g s)
    (both_shorter (codes "|" ∷ []) (codes "|" ∷ []) right (printed_at Product h) (same (codes "|" ∷ [])) (spelled_longer Product d right h t))
