use Rattle.std.proofs.Common.{◌≡◌, Some, arith, rules}
use Rattle.std.proofs.lemmas.Grind.{common_steps}
use Rattle.xc_base.specs.Lines.{texts}
use Rattle.xc_formula.specs.FormulaReading.{written}
use Rattle.xc_formula.specs.Reading.{formula_in}
use Rattle.xc_ctl.specs.Formulas.{signature, tree_of}
use Rattle.xc_resolved.specs.Resolved.{resolved}
use Rattle.xc_base.proofs.SpacedTokens.{texts_count}
use Rattle.xc_formula_text.proofs.Ranges.{tree_in_range}
use Rattle.xc_resolved.proofs.Sizes.{formula_size}
use Rattle.xc_formula_text.proofs.rows.row_table.Goals as goal

pub tree_table-requires-clause-size : goal.tree_table-requires-clause-size
tree_table-requires-clause-size c =
    let read : formula_in (texts c.args.tokens.now) ≡ Some (written c.in-Some.phrase) = grind (arith, common_steps) in
    let known : resolved (signature c.args.vocabulary.now) (written c.in-Some.phrase) ≡ Some (tree_of c.in-Some-2.tree) = grind (arith, common_steps) in
    let small = formula_size (signature c.args.vocabulary.now) (texts c.args.tokens.now) (written c.in-Some.phrase) (tree_of c.in-Some-2.tree) read known in
    omega (arith, small, texts_count c.args.tokens.now)

pub tree_table-requires-clause-range : goal.tree_table-requires-clause-range
tree_table-requires-clause-range c =
    let known : resolved (signature c.args.vocabulary.now) (written c.in-Some.phrase) ≡ Some (tree_of c.in-Some-2.tree) = grind (arith, common_steps) in
    tree_in_range (signature c.args.vocabulary.now) (written c.in-Some.phrase) (tree_of c.in-Some-2.tree) (search rules) known
