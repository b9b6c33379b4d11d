use Rattle.std.proofs.Common.{◌≡◌, ◌<◌, ℕ, [], ◌∷◌, length, sym, subst, arith}
use Rattle.std.proofs.lemmas.Grind.{common_steps}
use Rattle.xc_theory.specs.Bounds.{join_of}
use Rattle.xc_theory.proofs.Bounds.{join_of_lt}
use Rattle.xc_laws.proofs.bounded.Bounded.join.Goals as goal

pub returns-clause-in_range : goal.returns-clause-in_range
returns-clause-in_range c =
    let table = c.args.self.now.order.now in
    let value : c.unwrap_or.result ≡ join_of table (c.args.a ∷ c.args.b ∷ []) = grind (arith, common_steps) in
    subst (λ (m : ℕ). m < length table) (sym value) (join_of_lt table (c.args.a ∷ c.args.b ∷ []) (omega arith))
