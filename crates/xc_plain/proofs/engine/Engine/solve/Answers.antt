use Rattle.std.proofs.Common.{◌∙◌}
use Rattle.xc_plain.specs.Tables.{table_of}
use Rattle.xc_plain.proofs.Tabling.{solved_table, unique_told, few_told, ordered_in}
use Rattle.xc_plain.proofs.engine.Engine.solve.Goals as goal

pub returns-clause-table : goal.returns-clause-table
returns-clause-table g c =
    solved_table _ _ _ _ _ _ (c.as_slice-nodes.ensures ∙ c.nodes.ensures.nodes) c.requires c.in_ok-table.ensures.told c.in_ok-table.ensures.count c.states.ensures c.of.ensures

pub returns-clause-unique : goal.returns-clause-unique
returns-clause-unique g c = unique_told _ c.args.formula.now.nodes (table_of c.of.result) (g.met.M.Framed.is_frame c.args.self.now.model.now) (ordered_in c.args.formula.now.nodes c.nodes.ensures.table) (returns-clause-table g c)

pub returns-clause-few_rounds : goal.returns-clause-few_rounds
returns-clause-few_rounds g c = few_told _ c.args.formula.now.nodes (table_of c.of.result) (g.met.M.Framed.is_frame c.args.self.now.model.now) (ordered_in c.args.formula.now.nodes c.nodes.ensures.table) (returns-clause-table g c)
