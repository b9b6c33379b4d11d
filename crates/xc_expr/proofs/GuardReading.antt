-- What is read as a guard is spelled so, and what is spelled so is read: guards are spelled in their own grammar as in the
-- general one.
use Rattle.std.proofs.Common.{◌≡◌, ◌↔◌, ℕ, zero, suc, ◌≤◌, List, ◌∷◌, codes, Some, None, refl, sym, ◌∙◌, subst, arith}
use Rattle.std.proofs.lemmas.Bool.{false≢true}
use Rattle.std.proofs.lemmas.Option.{none-some, same_Some}
use Rattle.xc_base.proofs.Naming.{same_bytes}
use Rattle.xc_grammar.specs.Grammars.{IsSpelled}
use Rattle.xc_grammar.specs.Grammars.IsSpelled.{atom as leaf, prefixed, paired, enclosed as in_brackets, part, joined, implied}
use Rattle.xc_grammar.proofs.Trees.{tree_sound, tree_complete}
use Rattle.xc_expr.specs.Written.{Written, True, False, Equal, Unequal, Not, And, Or, Level, Sum, Product, Basic, depth_limit, IsGuard}
use Rattle.xc_expr.specs.Written as own
use Rattle.xc_expr.specs.Written.IsSpelled.{truth, falsity, equal, unequal, negated, enclosed, factor, and, summand, or}
use Rattle.xc_expr.specs.GuardReading.{IsAtom, guards, atom}
use Rattle.xc_expr.specs.GuardReading.IsAtom.{truth as is_truth, falsity as is_falsity, equal as is_equal, unequal as is_unequal}
use Rattle.xc_expr.specs.Reading.{guard_in}
use Rattle.xc_expr.proofs.Atoms.{guards_read}

-- how many operators may stand outside of brackets at a level, and the other way round
abbrev number : Level → ℕ
number Basic = 0
number Product = 1
number Sum = 2

abbrev level_of : ℕ → Level
level_of zero = Basic
level_of (suc zero) = Product
level_of (suc (suc n)) = Sum

-- what is spelled as a guard is spelled so in the general grammar
forth : (l : Level) (d : ℕ) (tokens : List (List ℕ)) (g : Written) → own.IsSpelled l d tokens g → IsSpelled guards (number l) d tokens g
forth _ _ _ _ (truth d) = leaf d _ _ is_truth
forth _ _ _ _ (falsity d) = leaf d _ _ is_falsity
forth _ _ _ _ (equal d x w v n) = leaf d _ _ (is_equal x w v n)
forth _ _ _ _ (unequal d x w v n) = leaf d _ _ (is_unequal x w v n)
forth _ _ _ _ (negated d tokens g s) = prefixed d (codes "!") tokens g refl (forth Basic d tokens g s)
forth _ _ _ _ (enclosed d tokens g s) = in_brackets d tokens g (forth Sum d tokens g s)
forth _ _ _ _ (factor d tokens g s) = part 0 d tokens g (forth Basic d tokens g s)
forth _ _ _ _ (and d left right g h s t) = joined 0 d left right g h (omega arith) (forth Product d left g s) (forth Basic d right h t)
forth _ _ _ _ (summand d tokens g s) = part 1 d tokens g (forth Product d tokens g s)
forth _ _ _ _ (or d left right g h s t) = joined 1 d left right g h (omega arith) (forth Sum d left g s) (forth Product d right h t)

-- and the other way round, first of guards with no guard in them
atom_back : (d : ℕ) (tokens : List (List ℕ)) (g : Written) → IsAtom tokens g → own.IsSpelled Basic d tokens g
atom_back d _ _ is_truth = truth d
atom_back d _ _ is_falsity = falsity d
atom_back d _ _ (is_equal x w v n) = equal d x w v n
atom_back d _ _ (is_unequal x w v n) = unequal d x w v n

back : (n d : ℕ) (tokens : List (List ℕ)) (g : Written) → n ≤ 2 → IsSpelled guards n d tokens g → own.IsSpelled (level_of n) d tokens g
back _ _ _ _ low (leaf d tokens g a) = atom_back d tokens g a
back _ _ _ _ low (prefixed d token tokens g h s) =
    subst (λ (t : List ℕ). own.IsSpelled Basic (suc d) (t ∷ tokens) (Not g)) (sym (same_bytes token (codes "!") h)) (negated d tokens g (back 0 d tokens g (omega arith) s))
back _ _ _ _ low (paired d token left right a b h s t) = absurd (false≢true h)
back _ _ _ _ low (in_brackets d tokens g s) = enclosed d tokens g (back 2 d tokens g (omega arith) s)
back _ _ _ _ low (part zero d tokens g s) = factor d tokens g (back 0 d tokens g (omega arith) s)
back _ _ _ _ low (part (suc zero) d tokens g s) = summand d tokens g (back 1 d tokens g (omega arith) s)
back _ _ _ _ low (part (suc (suc n)) d tokens g s) = absurd (omega arith)
back _ _ _ _ low (joined zero d left right g h less s t) = and d left right g h (back 1 d left g (omega arith) s) (back 0 d right h (omega arith) t)
back _ _ _ _ low (joined (suc zero) d left right g h less s t) = or d left right g h (back 2 d left g (omega arith) s) (back 1 d right h (omega arith) t)
back _ _ _ _ low (joined (suc (suc n)) d left right g h less s t) = absurd (omega arith)
back _ _ _ _ low (implied d left right a b h s t) = absurd (false≢true h)

-- what is spelled as a guard is read as that guard
pub guard_complete : (tokens : List (List ℕ)) (g : Written) → IsGuard tokens g → guard_in tokens ≡ Some g
unfolding guard_in
guard_complete tokens g s = tree_complete guards atom guards_read depth_limit tokens g (forth Sum depth_limit tokens g s)

-- what is read as a guard is spelled as that guard
pub guard_sound : (tokens : List (List ℕ)) (g : Written) → guard_in tokens ≡ Some g → IsGuard tokens g
unfolding guard_in
guard_sound tokens g e = back 2 depth_limit tokens g (omega arith) (tree_sound guards atom guards_read depth_limit tokens g e)

-- no tokens are two guards
pub guard_unique : (tokens : List (List ℕ)) (g h : Written) → IsGuard tokens g → IsGuard tokens h → g ≡ h
guard_unique tokens g h s t = same_Some _ _ (sym (guard_complete tokens g s) ∙ guard_complete tokens h t)

-- tokens of which no guard is read are spelled as none
pub no_guard : (tokens : List (List ℕ)) → guard_in tokens ≡ None → (g : Written) → IsGuard tokens g → ⊥
no_guard tokens e g s = none-some g (sym e ∙ guard_complete tokens g s)

-- tokens are the guard that is read, and no other
pub guard_read : (tokens : List (List ℕ)) (g : Written) → (guard_in tokens ≡ Some g) ↔ IsGuard tokens g
guard_read tokens g = (guard_sound tokens g, guard_complete tokens g)
