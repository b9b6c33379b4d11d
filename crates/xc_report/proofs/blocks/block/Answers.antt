use Rattle.xc_merge.specs.MergedFrames.{merged_frame}
use Rattle.xc_report.proofs.blocks.block.Goals as goal

pub push_formula-requires : goal.push_formula-requires
unfolding merged_frame
push_formula-requires g c = c.requires.in_range
