use Rattle.std.proofs.Common.{◌≡◌, length, codes}
use Rattle.xc_base.specs.Lines.{texts}
use Rattle.xc_base.specs.Operators.{chain}
use Rattle.xc_formula.specs.FormulaReading.{one_name, names, joined}
use Rattle.xc_formula.proofs.atom_parser.names.Given as goal

abbrev pub invariant-loop-more : goal.invariant-loop-more
invariant-loop-more l = chain (codes ",") joined one_name (texts l.names) (texts l.rest) ≡ names (texts l.tokens)

abbrev pub decreases-loop-more : goal.decreases-loop-more
decreases-loop-more l = length l.rest
