use Rattle.std.proofs.Common.{ℕ, ◌<◌, [], unwrap_or, sym, ◌∙◌, subst, ap, arith}
use Rattle.xc_theory.specs.Bounds.{IsMeet}
use Rattle.xc_theory.specs.Lattices.{LatticeData, size}
use Rattle.xc_lattice.proofs.Ends.{top_is_greatest}
use Rattle.xc_lattice.proofs.lattice.Lattice.top.Goals as goal

pub returns-clause-greatest : goal.returns-clause-greatest
returns-clause-greatest c =
    let l : LatticeData = record { order = c.args.self.now.order; negations = c.args.self.now.negations } in
    let some : 0 < size l = omega (arith, c.args.self.now.some) in
    subst (λ (m : ℕ). IsMeet l.order [] m)
    (sym (c.unwrap_or.ensures ∙ ap (λ o. unwrap_or o 0) c.first_above_all.ensures))
    (top_is_greatest l c.args.self.now.lawful some)
