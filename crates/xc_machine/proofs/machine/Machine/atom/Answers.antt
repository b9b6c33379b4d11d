use Rattle.std.proofs.Common.{ℕ, List, take, ap, ◌∙◌}
use Rattle.xc_theory.specs.Codes.{code_of}
use Rattle.xc_theory.specs.Lattices.{LatticeData}
use Rattle.xc_alg.specs.Products.{sizes}
use Rattle.xc_merge.specs.Merges.{for_each, parts_of}
use Rattle.xc_merge.specs.MergedFrames.{merged_frame, prop_digit}
use Rattle.xc_sigmap.specs.Maps.{value_of as map_of}
use Rattle.xc_machine.specs.Machines.{merge_of}
use Rattle.xc_machine.proofs.machine.Machine.atom.Goals as goal

pub returns-clause-value : goal.returns-clause-value
unfolding merged_frame
returns-clause-value c =
    c.code.ensures.value
    ∙ ap (λ (parts : List LatticeData). code_of (sizes parts) (take c.len.result c.prop_digits-digits.result)) c.args.self.now.multiplied
    ∙ ap (λ (n : ℕ). code_of (sizes (parts_of (merge_of c.args.self.now))) (take n c.prop_digits-digits.result)) c.len.ensures
    ∙ ap (code_of (sizes (parts_of (merge_of c.args.self.now)))) c.prop_digits-digits.ensures.values
    ∙ ap (λ (k : ℕ). code_of (sizes (parts_of (merge_of c.args.self.now))) (for_each (merge_of c.args.self.now) (prop_digit (map_of c.args.self.now.merged.sigmap) k c.args.s))) c.from.ensures
