-- What a map with its viewpoints and their tables merges to.
use Rattle.xc_merge.specs.Merges.{Merge}
use Rattle.xc_merge.specs.Merging.{merge_in}
use Rattle.xc_merged.specs.declared.merged.Merged.{Merged}

abbrev pub merged_of : Merged → Merge
merged_of m = merge_in m.sigmap m.views
