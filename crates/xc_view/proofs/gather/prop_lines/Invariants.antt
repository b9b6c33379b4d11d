use Rattle.std.proofs.Common.{◌≡◌, ◌++◌, map, drop}
use Rattle.std.specs.List.{filter_map}
use Rattle.xc_view.specs.ViewFiles.{prop_in}
use Rattle.xc_view.specs.Parts.{prop_value}
use Rattle.xc_view.specs.Drafts.{all_stated}
use Rattle.xc_view.proofs.gather.prop_lines.Given as goal

abbrev pub invariant-loop-s : goal.invariant-loop-s
invariant-loop-s l = map prop_value l.props ++ filter_map (prop_in l.vars) (all_stated (drop l.s-index l.statements)) ≡ filter_map (prop_in l.vars) (all_stated l.statements)
