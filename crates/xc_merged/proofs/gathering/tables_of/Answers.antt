use Rattle.std.proofs.Common.{◌≡◌, ℕ, [], length, subst, arith}
use Rattle.xc_sigmap.specs.Maps.{value_of as map_of}
use Rattle.xc_merge.specs.Faults.{viewpoint_faults}
use Rattle.xc_merge.specs.Merges.{Viewpoint}
use Rattle.xc_merge.specs.Merging.{merge_in}
use Rattle.xc_merged.specs.Gathering.{AreTabled}
use Rattle.xc_merged.proofs.Faultless.{none_of_one}
use Rattle.xc_merged.proofs.Merging.{viewpoint_is, viewpoint_count, tabled_more}
use Rattle.xc_merged.proofs.gathering.tables_of.Goals as goal

pub tabulate-requires : goal.tabulate-requires
tabulate-requires c =
    subst (λ (p : Viewpoint). viewpoint_faults (map_of c.args.sigmap.now) c.loop-v.v p ≡ []) (viewpoint_is c.args.sigmap.now c.args.views.now c.loop-v.v c.get-pair.result.now (omega arith) c.get-pair.ensures)
    (none_of_one (merge_in c.args.sigmap.now c.args.views.now) c.loop-v.v c.requires (omega (arith, viewpoint_count c.args.sigmap.now c.args.views.now)))

pub loop-v-preserved : goal.loop-v-preserved
loop-v-preserved c =
    rw c.in_ok-push.ensures.ok (tabled_more c.args.sigmap.now c.args.views.now c.loop-v.v c.loop-v.tables c.get-pair.result.now c.in_ok-table.table (omega arith) c.get-pair.ensures c.loop-v.invariant c.in_ok-table.ensures)

pub returns : goal.returns
returns c =
    let all : c.loop-v.v ≡ length c.args.views.now = omega arith in
    subst (λ (n : ℕ). AreTabled c.args.sigmap.now c.args.views.now n c.loop-v.tables) all c.loop-v.invariant
