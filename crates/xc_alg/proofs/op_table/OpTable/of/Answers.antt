use Rattle.xc_alg.proofs.Tables.{lattice_in-is, tables-of_told, tables-laws, tables-limited}
use Rattle.xc_alg.proofs.op_table.OpTable.of.Goals as goal

pub invariant_of-result-clause-tells : goal.invariant_of-result-clause-tells
invariant_of-result-clause-tells g c = tables-of_told c.requires.tables.0 c.args.n c.args.meet c.args.join c.args.neg c.requires.tables.1

pub invariant_of-result-clause-laws : goal.invariant_of-result-clause-laws
invariant_of-result-clause-laws g c = tables-laws c.requires.tables.0 c.args.n c.args.meet c.args.join c.args.neg c.requires.tables.1

pub invariant_of-result-clause-limited : goal.invariant_of-result-clause-limited
invariant_of-result-clause-limited g c =
    tables-limited c.requires.tables.0 c.args.n c.args.meet c.args.join c.args.neg g.row.N c.requires.tables.1 c.requires.fits c.requires.small

pub returns : goal.returns
returns g c = λ l h. lattice_in-is l c.args.n c.args.meet c.args.join c.args.neg h
