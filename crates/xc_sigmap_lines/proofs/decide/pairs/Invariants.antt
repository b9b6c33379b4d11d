use Rattle.std.proofs.Common.{◌≡◌, ◌-◌, ◌++◌, drop, length, List}
use Rattle.std.specs.Option.{option_map}
use Rattle.xc_base.specs.Lines.{texts}
use Rattle.xc_sigmap_lines.specs.declared.statement.Pair.{Pair}
use Rattle.xc_sigmap_lines.specs.Deciding.{pairs_in}
use Rattle.xc_sigmap_lines.proofs.decide.pairs.Given as goal

abbrev pub invariant-loop-place : goal.invariant-loop-place
invariant-loop-place l = option_map (λ (more : List Pair). l.pairs ++ more) (pairs_in (drop l.place (texts l.tokens))) ≡ pairs_in (texts l.tokens)

abbrev pub decreases-loop-place : goal.decreases-loop-place
decreases-loop-place l = length l.tokens - l.place
