use Rattle.std.proofs.Common.{◌≡◌, ◌++◌}
use Rattle.std.specs.List.{flat_map, range_with_len}
use Rattle.xc_gen.specs.Generated.{command_line}
use Rattle.xc_gen.proofs.views.push_commands.Given as goal

abbrev pub invariant-loop-bit : goal.invariant-loop-bit
invariant-loop-bit l = l.text ≡ l.fn.text ++ flat_map (command_line l.side l.number) (range_with_len 0 l.bit)
