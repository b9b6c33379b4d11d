use Rattle.std.proofs.Common.{◌∙◌, sym, arith, below_more}
use Rattle.xc_laws.proofs.Finding.{pairs_found, pairs_none}
use Rattle.xc_laws.proofs.bounded.Bounded.first_two.Goals as goal

pub returns-in-Some : goal.returns-in-Some
returns-in-Some c = sym (pairs_found _ _ _ _ c.loop-a.invariant (omega arith) (sym c.in-Some.ensures))

pub loop-a-preserved : goal.loop-a-preserved
loop-a-preserved c = below_more _ _ c.loop-a.invariant (sym c.second.ensures ∙ c.in_default.is)

pub returns : goal.returns
returns c = sym (pairs_none _ _ (λ a a_in. c.loop-a.invariant a (omega arith)))
