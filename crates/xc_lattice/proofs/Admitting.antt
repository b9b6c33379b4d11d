-- What is ready to be judged has negations in range, and the elements of a break have names.
use Rattle.std.proofs.Common.{◌≡◌, ℕ, ◌<◌, List, length, get_or, Option, sym, ◌∙◌, ap, subst, arith}
use Rattle.std.proofs.lemmas.List.{get_or_default}
use Rattle.xc_theory.specs.Lattices.{LatticeData, size, IsWellShaped}
use Rattle.xc_laws.specs.declared.breaks.Break.{Break}
use Rattle.xc_laws.specs.Breaks.{first_break}

pub negations_in_range : (l : LatticeData) → IsWellShaped l → (k : ℕ) (d : ℕ) → k < length l.negations → get_or l.negations k d < size l
negations_in_range l h k d within =
    subst (λ (x : ℕ). x < size l) (sym (get_or_default l.negations k d 0 within)) (h.in_range k (omega (arith, h.negations)))

-- what is found in equal negations
pub found_in : (l : LatticeData) (read : List ℕ) (found answer : Option Break) → read ≡ l.negations → found ≡ first_break (record { order = l.order; negations = read }) → found ≡ answer → first_break l ≡ answer
found_in l read found answer e h a = ap (λ (ns : List ℕ). first_break (record { order = l.order; negations = ns })) (sym e) ∙ sym h ∙ a
