-- A guard has no token `do`, so what stands behind a guard in a statement can be found by that word.
use Rattle.std.proofs.Common.{◌≡◌, ℕ, Bool, true, false, ◌||◌, List, [], ◌∷◌, ◌++◌, codes, refl, sym, ◌∙◌, ap, arith}
use Rattle.std.specs.Str.{bytes_eq}
use Rattle.std.proofs.lemmas.Bool.{false≢true}
use Rattle.std.proofs.lemmas.List.Folds.{list_any-append}
use Rattle.xc_base.specs.Names.{is_among}
use Rattle.xc_base.proofs.Naming.{same_bytes}
use Rattle.xc_expr.specs.Written.{Written, Level, IsSpelled}
use Rattle.xc_forms.specs.VariableNames.{is_variable_name, is_value_name}
use Rattle.xc_expr.specs.Written.IsSpelled.{truth, falsity, equal, unequal, negated, enclosed, factor, and, summand, or}

-- neither of two
either_false : (a b : Bool) → a ≡ false → b ≡ false → (a || b) ≡ false
either_false a b h k = grind arith

-- a name that passes a test is not a word that fails it
not_word : (test : List ℕ → Bool) (word x : List ℕ) → test word ≡ false → test x ≡ true → (b : Bool) → bytes_eq word x ≡ b → b ≡ false
not_word test word x f v true e = absurd (false≢true (sym f ∙ ap test (same_bytes word x e) ∙ v))
not_word test word x f v false e = refl

-- a name that passes a test that the word `do` fails
is_not_do : (test : List ℕ → Bool) (x : List ℕ) → test (codes "do") ≡ false → test x ≡ true → bytes_eq (codes "do") x ≡ false
is_not_do test x f v = not_word test (codes "do") x f v (bytes_eq (codes "do") x) refl

-- tokens and more tokens with no `do` among them
joined : (left right : List (List ℕ)) → is_among left (codes "do") ≡ false → is_among right (codes "do") ≡ false → is_among (left ++ right) (codes "do") ≡ false
joined left right h k = list_any-append (bytes_eq (codes "do")) left right ∙ either_false _ _ h k

-- a variable, a sign and an operand
compared : (x sign w : List ℕ) → bytes_eq (codes "do") sign ≡ false → is_variable_name x ≡ true → is_value_name w ≡ true → is_among (x ∷ sign ∷ w ∷ []) (codes "do") ≡ false
compared x sign w s v n =
    either_false _ _ (is_not_do is_variable_name x refl v) (either_false _ _ s (either_false _ _ (is_not_do is_value_name w refl n) refl))

-- the tokens of a guard
pub no_do : (l : Level) (d : ℕ) (tokens : List (List ℕ)) (g : Written) → IsSpelled l d tokens g → is_among tokens (codes "do") ≡ false
no_do _ _ _ _ (truth d) = refl
no_do _ _ _ _ (falsity d) = refl
no_do _ _ _ _ (equal d x w v n) = compared x (codes "=") w refl v n
no_do _ _ _ _ (unequal d x w v n) = compared x (codes "!=") w refl v n
no_do _ _ _ _ (negated d tokens g s) = no_do _ d tokens g s
no_do _ _ _ _ (enclosed d tokens g s) = joined tokens (codes ")" ∷ []) (no_do _ d tokens g s) refl
no_do _ _ _ _ (factor d tokens g s) = no_do _ d tokens g s
no_do _ _ _ _ (and d left right g h s t) = joined left (codes "&" ∷ right) (no_do _ d left g s) (no_do _ d right h t)
no_do _ _ _ _ (summand d tokens g s) = no_do _ d tokens g s
no_do _ _ _ _ (or d left right g h s t) = joined left (codes "|" ∷ right) (no_do _ d left g s) (no_do _ d right h t)
