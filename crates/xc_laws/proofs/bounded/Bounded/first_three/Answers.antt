use Rattle.std.proofs.Common.{option_map, ◌∙◌, ap, sym, arith, below_more}
use Rattle.xc_laws.specs.Tuples.{pair_of}
use Rattle.xc_laws.proofs.Finding.{tuples_found, tuples_none}
use Rattle.xc_laws.proofs.bounded.Bounded.first_three.Goals as goal

pub returns-in-Some : goal.returns-in-Some
returns-in-Some c = sym (tuples_found _ _ 2 _ _ c.loop-a.invariant (omega arith) (sym c.in-Some.ensures))

pub loop-a-preserved : goal.loop-a-preserved
loop-a-preserved c = below_more _ _ c.loop-a.invariant (sym c.second_and_third.ensures ∙ ap (option_map pair_of) c.in_default.is)

pub returns : goal.returns
returns c = sym (tuples_none _ _ 2 (λ a a_in. c.loop-a.invariant a (omega arith)))
