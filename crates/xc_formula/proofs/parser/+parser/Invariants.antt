use Rattle.std.proofs.Common.{◌≡◌, ◌+◌, ◌*◌, length, codes}
use Rattle.xc_base.specs.Lines.{texts}
use Rattle.xc_base.specs.Operators.{chain}
use Rattle.xc_formula.specs.Written.{And, Or}
use Rattle.xc_formula.specs.FormulaReading.{written, basic, product, sum}
use Rattle.xc_formula.proofs.parser.+parser.Given as goal

-- no slice is so long that a formula at a smaller depth would count as much
abbrev pub decreases-under : goal.decreases-under
decreases-under l = 36893488147419103232 * l.depth + 7 + length l.rest.now

abbrev pub decreases-in_brackets : goal.decreases-in_brackets
decreases-in_brackets l = 36893488147419103232 * l.depth + 6 + length l.rest.now

abbrev pub decreases-until : goal.decreases-until
decreases-until l = 36893488147419103232 * l.depth + 5 + length l.tokens.now

abbrev pub decreases-deeper : goal.decreases-deeper
decreases-deeper l = 36893488147419103232 * l.depth + 8 + length l.tokens.now

abbrev pub decreases-nested : goal.decreases-nested
decreases-nested l = 36893488147419103232 * l.depth

abbrev pub decreases-basic : goal.decreases-basic
decreases-basic l = 36893488147419103232 * l.depth + 1

abbrev pub decreases-product : goal.decreases-product
decreases-product l = 36893488147419103232 * l.depth + 2

abbrev pub decreases-sum : goal.decreases-sum
decreases-sum l = 36893488147419103232 * l.depth + 3

abbrev pub decreases-implication : goal.decreases-implication
decreases-implication l = 36893488147419103232 * l.depth + 4 + length l.tokens.now

abbrev pub invariant-product-loop-more : goal.invariant-product-loop-more
invariant-product-loop-more l = chain (codes "&") And (basic l.depth) (written l.phrase) (texts l.rest) ≡ product l.depth (texts l.tokens)

abbrev pub decreases-product-loop-more : goal.decreases-product-loop-more
decreases-product-loop-more l = length l.rest

abbrev pub invariant-sum-loop-more : goal.invariant-sum-loop-more
invariant-sum-loop-more l = chain (codes "|") Or (product l.depth) (written l.phrase) (texts l.rest) ≡ sum l.depth (texts l.tokens)

abbrev pub decreases-sum-loop-more : goal.decreases-sum-loop-more
decreases-sum-loop-more l = length l.rest
