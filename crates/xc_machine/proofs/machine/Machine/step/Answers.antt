use Rattle.std.proofs.Common.{ℕ, List, take, ap, ◌∙◌}
use Rattle.xc_theory.specs.Codes.{code_of}
use Rattle.xc_theory.specs.Lattices.{LatticeData}
use Rattle.xc_alg.specs.Products.{sizes}
use Rattle.xc_merge.specs.Merges.{parts_of}
use Rattle.xc_merge.specs.MergedFrames.{merged_frame}
use Rattle.xc_machine.specs.Machines.{merge_of}
use Rattle.xc_machine.proofs.machine.Machine.step.Goals as goal

pub returns-clause-value : goal.returns-clause-value
unfolding merged_frame
returns-clause-value c =
    c.code.ensures.value
    ∙ ap (λ (parts : List LatticeData). code_of (sizes parts) (take c.len.result c.step_digits-digits.result)) c.args.self.now.multiplied
    ∙ ap (λ (n : ℕ). code_of (sizes (parts_of (merge_of c.args.self.now))) (take n c.step_digits-digits.result)) c.len.ensures
    ∙ ap (code_of (sizes (parts_of (merge_of c.args.self.now)))) c.step_digits-digits.ensures.values
