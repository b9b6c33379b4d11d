-- Each merged machine is a frame.
use Rattle.std.proofs.Common.{◌<◌, ℕ}
use Rattle.xc_alg.specs.Products.{product}
use Rattle.xc_ctl.specs.Frames.{IsFrame}
use Rattle.xc_merge.specs.MergedFrames.{merged_frame}
use Rattle.xc_merged.specs.Gathered.{merged_of}
use Rattle.xc_merged.specs.declared.merged.Merged.{Merged}
use Rattle.xc_machine.proofs.Encoding.{tables_at, tables_count}
use Rattle.xc_machine.proofs.Framing.{framed}
use Rattle.xc_merged.proofs.Seeing.{item}

pub merged_is_framed : (m : Merged) → IsFrame (merged_frame (merged_of m))
merged_is_framed m =
    framed m.sigmap m.views
    (λ v x k low e.
    let t = item m.tables v (tables_count m.sigmap m.views m.tables v m.one_table_each low) in
    (tables_at m.sigmap m.views m.tables v t.0 m.tabled low t.1).fixed_in k x e)

-- so the values of its steps and of its propositions are elements
pub steps_in : (m : Merged) (s t : ℕ) → s < (merged_frame (merged_of m)).states → t < (merged_frame (merged_of m)).states → (merged_frame (merged_of m)).relation s t < (product (merged_frame (merged_of m)).parts).size
steps_in m s t from to = (merged_is_framed m).steps s t from to

pub values_in : (m : Merged) (p s : ℕ) → p < (merged_frame (merged_of m)).props → s < (merged_frame (merged_of m)).states → (merged_frame (merged_of m)).prop p s < (product (merged_frame (merged_of m)).parts).size
values_in m p s prop state = (merged_is_framed m).values p s prop state
