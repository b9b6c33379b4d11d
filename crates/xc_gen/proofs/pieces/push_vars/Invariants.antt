use Rattle.std.proofs.Common.{◌≡◌, ◌++◌}
use Rattle.std.specs.List.{flat_map, range_with_len}
use Rattle.xc_gen.specs.Generated.{var_line}
use Rattle.xc_gen.proofs.pieces.push_vars.Given as goal

abbrev pub invariant-loop-bit : goal.invariant-loop-bit
invariant-loop-bit l = l.text ≡ l.fn.text ++ flat_map var_line (range_with_len 0 l.bit)
