-- The bound of elements that is taken: the greatest lower one, or the least upper one.
use Rattle.std.specs.Prelude.{ℕ}
use Rattle.xc_alg.specs.Operations.{Operations}
use Rattle.xc_product.specs.declared.bounds.Bound.{Bound}
use Rattle.xc_product.specs.declared.bounds.Bound.TheVariants.{Meet, Join}

-- of two elements
abbrev pub bound_of : Bound → Operations → ℕ → ℕ → ℕ
bound_of Meet o a b = o.meet a b
bound_of Join o a b = o.join a b

-- of none
abbrev pub bound_of_none : Bound → Operations → ℕ
bound_of_none Meet o = o.top
bound_of_none Join o = o.bottom
