use Rattle.std.proofs.Common.{◌≡◌, ◌++◌, codes}
use Rattle.std.specs.List.{flat_map, range_with_len}
use Rattle.xc_gen.specs.Generated.{has_value}
use Rattle.xc_gen.proofs.pieces.push_lowest.Given as goal

abbrev pub invariant-loop-lower : goal.invariant-loop-lower
invariant-loop-lower l = l.text ≡ l.fn.text ++ flat_map (λ j. has_value j l.value ++ codes "&") (range_with_len 0 l.lower)
