use Rattle.std.proofs.Common.{◌≡◌, ◌-◌, length}
use Rattle.xc_merge.specs.Merging.{merge_in}
use Rattle.xc_merge.specs.Finding.{faults_from}
use Rattle.xc_merge.proofs.find.find_fault.Given as goal

abbrev pub invariant-loop-number : goal.invariant-loop-number
invariant-loop-number l = faults_from (merge_in l.sigmap l.views) l.number (length l.views - l.number) ≡ faults_from (merge_in l.sigmap l.views) 0 (length l.views)
