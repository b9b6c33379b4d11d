use Rattle.std.proofs.Common.{◌≡◌, ◌++◌, map, drop}
use Rattle.std.specs.List.{filter_map}
use Rattle.xc_view.specs.ViewFiles.{command_in}
use Rattle.xc_view.specs.Parts.{command_value}
use Rattle.xc_view.specs.Drafts.{all_stated}
use Rattle.xc_view.proofs.gather.commands.Given as goal

abbrev pub invariant-loop-s : goal.invariant-loop-s
invariant-loop-s l =
    map command_value l.commands ++ filter_map (command_in l.vars) (all_stated (drop l.s-index l.statements)) ≡ filter_map (command_in l.vars) (all_stated l.statements)
