use Rattle.std.proofs.Common.{length}
use Rattle.xc_alg.specs.Products.{product}
use Rattle.xc_merge.specs.Merges.{parts_of}
use Rattle.xc_machine.specs.Machines.{merge_of}
use Rattle.xc_ctl.specs.Formulas.{nodes_in}
use Rattle.xc_ctl.specs.Tables.{is_table_in}
use Rattle.xc_write.proofs.Writing.{passed}
use Rattle.xc_eval.specs.Checking.{blocks_of}
use Rattle.xc_eval.proofs.Reporting.{formula_passes, one_block_more, one_block_stops}
use Rattle.xc_eval.proofs.report.write_formulas.Goals as goal

pub write_formula-requires : goal.write_formula-requires
write_formula-requires g c =
    formula_passes (is_table_in (product (parts_of (merge_of c.args.engine.now.model.now))).size (length (merge_of c.args.engine.now.model.now).plan.props)) _ c.args.formulas.now.items c.loop-i.i c.formula-item.result
    c.as_slice-formula-items.ensures c.loop-i-test.true c.formula-item.is c.requires.within

pub returns-in_err-write_formula : goal.returns-in_err-write_formula
returns-in_err-write_formula g c =
    passed (blocks_of c.args.marked (merge_of c.args.engine.now.model.now) 1 (nodes_in c.args.formulas.now)) _ _ _ _ c.from_residual.ensures.1
    (one_block_stops c.args.marked (merge_of c.args.engine.now.model.now) _ c.args.formulas.now.items c.loop-i.i c.formula-item.result _ _ _ c.as_slice-formula-items.ensures c.loop-i-test.true c.formula-item.is c.loop-i.invariant _ c.in_err-write_formula.ensures)

pub loop-i-preserved : goal.loop-i-preserved
loop-i-preserved g c =
    one_block_more c.args.marked (merge_of c.args.engine.now.model.now) _ c.args.formulas.now.items c.loop-i.i c.formula-item.result _ _ _ c.as_slice-formula-items.ensures c.loop-i-test.true c.formula-item.is c.loop-i.invariant _ c.in_ok-write_formula.ensures
