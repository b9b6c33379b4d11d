-- Which formula tokens are: a function that decides it.
use Rattle.std.specs.Prelude.{ℕ, List, Option}
use Rattle.xc_base.specs.Operators.{whole}
use Rattle.xc_formula.specs.Written.{Written, depth_limit}
use Rattle.xc_formula.specs.FormulaReading.{implication}

-- the formula that the tokens are, where they are one
unfoldable pub formula_in : List (List ℕ) → Option Written
formula_in tokens = whole (implication depth_limit tokens)
