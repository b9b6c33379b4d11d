use Rattle.xc_product.proofs.SomeHeights.{parts_have_heights}
use Rattle.xc_product.proofs.laws.lawful_parts_have_heights.Goals as goal

pub returns : goal.returns
returns c = parts_have_heights
