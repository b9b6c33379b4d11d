use Rattle.std.proofs.Common.{◌≡◌, ℕ, arith, subst}
use Rattle.xc_theory.specs.Lattices.{size}
use Rattle.xc_alg.specs.AnyTables.{lattice_in_any}
use Rattle.xc_product.specs.Heights.{OnRow}
use Rattle.xc_product.proofs.HeightSums.{row_none, row_all}
use Rattle.xc_product.proofs.heights.push_row.Goals as goal

pub loop-high-init : goal.loop-high-init
loop-high-init c = row_none (lattice_in_any c.args.table.now) c.args.low c.args.pairs.now c.requires.rows

pub returns : goal.returns
returns c =
    let all : c.loop-high.high ≡ size (lattice_in_any c.args.table.now) = omega arith in
    row_all (lattice_in_any c.args.table.now) c.args.low c.loop-high.pairs (subst (λ (columns : ℕ). OnRow (lattice_in_any c.args.table.now) c.args.low columns c.loop-high.pairs) all c.loop-high.invariant)
