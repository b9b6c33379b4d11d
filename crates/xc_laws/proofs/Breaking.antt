-- The first law that some tuple breaks.
use Rattle.std.proofs.Common.{◌≡◌, ◌≤◌, ◌+◌, ℕ, ◌<◌, List, length, get_or, drop, Option, Some, None, sym, ap, ◌∙◌}
use Rattle.std.proofs.lemmas.List.{at_drop_more, at_drop_all}
use Rattle.xc_theory.specs.Lattices.{LatticeData}
use Rattle.xc_laws.specs.Breaks.{laws, first_tuple, or_next, first_of, first_break}
use Rattle.xc_laws.specs.declared.breaks.Break.{Break}
use Rattle.xc_laws.specs.declared.law.Law.{Law}

-- a law that a tuple breaks, behind laws that none does
pub break_found : (l : LatticeData) (i : ℕ) (d : Law) (t : List ℕ) → i < length laws → first_of l (drop i laws) ≡ first_of l laws → Some t ≡ first_tuple l (get_or laws i d) → Some (record { law = get_or laws i d; elements = t }) ≡ first_break l
unfolding first_break
break_found l i d t within before here =
    let law : Law = get_or laws i d in
    let with_tuple : Option (List ℕ) → Option Break = λ o. or_next o law (first_of l (drop (i + 1) laws)) in
    ap with_tuple here ∙ sym (at_drop_more (first_of l) laws i d within) ∙ before

-- laws that no tuple breaks
pub break_none : (l : LatticeData) (i : ℕ) → length laws ≤ i → first_of l (drop i laws) ≡ first_of l laws → None ≡ first_break l
unfolding first_break
break_none l i past before = sym (at_drop_all (first_of l) laws i past) ∙ before
