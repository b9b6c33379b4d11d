-- Each merged machine is a frame: what the trait of frames wants of a machine.
use Rattle.std.proofs.Common.{subst}
use Rattle.std.specs.Prelude.{List}
use Rattle.xc_theory.specs.Lattices.{LatticeData}
use Rattle.xc_alg.specs.Products.{AreLawful}
use Rattle.xc_product.specs.Lawful.{lawful_parts}
use Rattle.xc_ctl.specs.Frames.{IsFrame}
use Rattle.xc_merge.specs.MergedFrames.{merged_frame}
use Rattle.xc_machine.specs.Machines.{merge_of}
use Rattle.xc_machine.specs.declared.machine.Machine.{Machine}

pub is_framed : (m : Machine) → IsFrame (merged_frame (merge_of m))
unfolding merged_frame
is_framed m = record { lawful = subst (λ (parts : List LatticeData). AreLawful parts) m.multiplied (lawful_parts m.product.tables); steps = m.steps; values = m.values }
