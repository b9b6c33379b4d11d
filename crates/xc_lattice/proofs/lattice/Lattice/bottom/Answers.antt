use Rattle.std.proofs.Common.{ℕ, ◌<◌, [], unwrap_or, sym, ◌∙◌, subst, ap, arith}
use Rattle.xc_theory.specs.Bounds.{IsJoin}
use Rattle.xc_theory.specs.Lattices.{LatticeData, size}
use Rattle.xc_lattice.proofs.Ends.{bottom_is_least}
use Rattle.xc_lattice.proofs.lattice.Lattice.bottom.Goals as goal

pub returns-clause-least : goal.returns-clause-least
returns-clause-least c =
    let l : LatticeData = record { order = c.args.self.now.order; negations = c.args.self.now.negations } in
    let some : 0 < size l = omega (arith, c.args.self.now.some) in
    subst (λ (m : ℕ). IsJoin l.order [] m)
    (sym (c.unwrap_or.ensures ∙ ap (λ o. unwrap_or o 0) c.first_below_all.ensures))
    (bottom_is_least l c.args.self.now.lawful some)
