use Rattle.std.proofs.Common.{◌≡◌, ℕ, ◌<◌, get_or, length}
use Rattle.xc_product.specs.Parts.{weight}
use Rattle.xc_product.proofs.Turns.{from}
use Rattle.xc_product.proofs.weights.weights.Given as goal

abbrev pub invariant-loop-part : goal.invariant-loop-part
invariant-loop-part l = record {
  long : length l.weights ≡ 8;
  rest : l.rest ≡ (from l.tables l.part).size;
  weighted : (k : ℕ) → k < l.part → get_or l.weights k 0 ≡ weight l.tables k;
}
