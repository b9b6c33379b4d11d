use Rattle.std.proofs.Common.{◌≤◌, ℕ, length, Some, ap, sym, ◌∙◌, arith}
use Rattle.xc_merge.specs.declared.fault.MergeFault.TheVariants.{Initial}
use Rattle.xc_merged.specs.Gathered.{merged_of}
use Rattle.xc_machine.proofs.Descending.{found_count, found_states}
use Rattle.xc_machine.proofs.Beginnings.{no_fault, no_initial, many_initial}
use Rattle.xc_machine.proofs.AsFrame.{steps_in, values_in}
use Rattle.xc_machine.proofs.machine.Machine.merge.Goals as goal

pub returns-then-found-eq0-clause-err : goal.returns-then-found-eq0-clause-err
returns-then-found-eq0-clause-err c = no_initial (merged_of c.args.merged) c.in_ok-found.found.count c.requires c.in_ok-product.ensures.limit (found_count (merged_of c.args.merged) c.in_ok-found.found c.in_ok-found.ensures) c.if-found-eq0.true

pub returns-then-found-gt4096-clause-err : goal.returns-then-found-gt4096-clause-err
returns-then-found-gt4096-clause-err c =
    many_initial (merged_of c.args.merged) c.in_ok-found.found.count c.requires c.in_ok-product.ensures.limit (found_count (merged_of c.args.merged) c.in_ok-found.found c.in_ok-found.ensures) c.if-found-gt4096.true ∙ ap (λ (n : ℕ). Some (Initial n)) (sym c.from.ensures)

pub invariant_of-result : goal.invariant_of-result
invariant_of-result c =
    let few : c.in_ok-found.found.count ≤ 4096 = omega arith in
    let listed = found_states (merged_of c.args.merged) c.in_ok-found.found c.in_ok-found.ensures few in
    record {
      multiplied = c.in_ok-product.ensures.ok;
      small = c.in_ok-product.ensures.limit;
      named = c.in_ok-parts.ensures;
      begins = listed;
      some = omega (arith, (found_count (merged_of c.args.merged) c.in_ok-found.found c.in_ok-found.ensures), ap length listed, c.if-found-eq0.false);
      few = omega (arith, (found_count (merged_of c.args.merged) c.in_ok-found.found c.in_ok-found.ensures), ap length listed);
      faultless = no_fault (merged_of c.args.merged) c.in_ok-found.found c.requires c.in_ok-product.ensures.limit c.in_ok-found.ensures c.if-found-eq0.false few;
      steps = steps_in c.args.merged;
      values = values_in c.args.merged;
    }
