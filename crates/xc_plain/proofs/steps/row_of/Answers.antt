use Rattle.std.proofs.Common.{◌*◌, ◌≤◌, length, refl, ap, arith}
use Rattle.xc_alg.specs.Products.{product}
use Rattle.xc_plain.proofs.Keeping.{row_of_each, row_of_few}
use Rattle.xc_plain.proofs.steps.row_of.Goals as goal

pub returns-then-len : goal.returns-then-len
returns-then-len g c = row_of_each (product (g.M.Framed.frame c.args.model.now).parts) _ _ _ c.in_ok-values.ensures.range c.in_ok-values.ensures.value

pub returns-else-len : goal.returns-else-len
returns-else-len g c =
    let small : 2 * length c.in_ok-few.few ≤ length c.as_slice.result.now = omega (arith, c.if-len.false, c.len.ensures, c.len-2.ensures, ap length c.as_slice.ensures) in
    row_of_few _ _ _ _ _ c.in_ok-values.values c.as_slice.result.now c.in_ok-few.few c.product.ensures c.as_slice.ensures refl c.in_ok-values.ensures.range c.in_ok-values.ensures.value c.in_ok-few.ensures.safe c.in_ok-few.ensures.told small
