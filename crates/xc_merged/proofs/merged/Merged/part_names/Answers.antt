use Rattle.std.proofs.Common.{map, ap, ◌∙◌}
use Rattle.xc_merged.specs.Gathering.{names_in}
use Rattle.xc_merged.proofs.Merging.{names_are}
use Rattle.xc_merged.proofs.merged.Merged.part_names.Goals as goal

pub returns : goal.returns
returns c = c.in_ok-names.ensures ∙ ap (map names_in) c.as_slice.ensures ∙ names_are c.args.self.now.sigmap c.args.self.now.views
