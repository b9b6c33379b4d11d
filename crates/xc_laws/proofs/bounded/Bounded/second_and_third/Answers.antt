use Rattle.std.proofs.Common.{◌∙◌, sym, arith, below_more}
use Rattle.xc_laws.proofs.Finding.{pairs_found, pairs_none}
use Rattle.xc_laws.proofs.bounded.Bounded.second_and_third.Goals as goal

pub returns-in-Some : goal.returns-in-Some
returns-in-Some c = sym (pairs_found _ _ _ _ c.loop-b.invariant (omega arith) (sym c.in-Some.ensures))

pub loop-b-preserved : goal.loop-b-preserved
loop-b-preserved c = below_more _ _ c.loop-b.invariant (sym c.third.ensures ∙ c.in_default.is)

pub returns : goal.returns
returns c = sym (pairs_none _ _ (λ b b_in. c.loop-b.invariant b (omega arith)))
