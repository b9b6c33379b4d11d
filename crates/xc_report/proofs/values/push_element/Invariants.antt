use Rattle.std.proofs.Common.{◌≡◌, ◌++◌}
use Rattle.std.specs.List.{flat_map, range_with_len}
use Rattle.xc_machine.specs.Machines.{merge_of}
use Rattle.xc_report.specs.Pieces.{digit_text}
use Rattle.xc_report.proofs.values.push_element.Given as goal

abbrev pub invariant-loop-part : goal.invariant-loop-part
invariant-loop-part l = l.text ≡ l.fn.text ++ flat_map (digit_text (merge_of l.machine) l.element) (range_with_len 0 l.part)
