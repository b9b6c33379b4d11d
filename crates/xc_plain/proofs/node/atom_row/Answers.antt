use Rattle.std.proofs.Common.{◌<◌, ℕ, sym, subst, arith}
use Rattle.xc_alg.specs.Products.{product}
use Rattle.xc_fixpoint.proofs.Lists.{values_pushed, values_in_list}
use Rattle.xc_plain.proofs.Joining.{row_pushed}
use Rattle.xc_plain.proofs.node.atom_row.Goals as goal

pub loop-state-preserved : goal.loop-state-preserved
loop-state-preserved g c =
    let here : c.loop-state.state < (g.M.Framed.frame c.args.model.now).states = omega (arith, c.states-state-end.ensures, c.loop-state-test.true) in
    record {
      range = row_pushed _ _ _ _ _ c.loop-state.invariant.range
          (subst (λ (x : ℕ). x < (product (g.M.Framed.frame c.args.model.now).parts).size) (sym c.atom.ensures) ((g.met.M.Framed.is_frame c.args.model.now).values _ _ c.requires here)) c.in_ok-push.ensures.ok;
      value = values_pushed _ _ _ _ _ c.loop-state.invariant.value c.atom.ensures c.in_ok-push.ensures.ok;
    }

pub returns-clause-value : goal.returns-clause-value
returns-clause-value g c = λ s low. values_in_list _ _ _ c.loop-state.invariant.value s (omega (arith, c.states-state-end.ensures, c.loop-state-test.false))
