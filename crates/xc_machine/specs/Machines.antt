-- What machines stand for.
use Rattle.xc_merge.specs.Merges.{Merge}
use Rattle.xc_merged.specs.Gathered.{merged_of}
use Rattle.xc_machine.specs.declared.machine.Machine.{Machine}

abbrev pub merge_of : Machine → Merge
merge_of m = merged_of m.merged
