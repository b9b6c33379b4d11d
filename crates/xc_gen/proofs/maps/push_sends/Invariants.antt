use Rattle.std.proofs.Common.{◌≡◌, ◌++◌}
use Rattle.std.specs.List.{flat_map, range_with_len}
use Rattle.xc_gen.specs.Generated.{send_line}
use Rattle.xc_gen.proofs.maps.push_sends.Given as goal

abbrev pub invariant-loop-bit : goal.invariant-loop-bit
invariant-loop-bit l = l.text ≡ l.fn.text ++ flat_map (send_line l.side) (range_with_len 0 l.bit)
