use Rattle.std.proofs.Common.{◌<◌, ℕ, List, Some, None, length, get_or, sym, subst, arith}
use Rattle.xc_theory.specs.Lattices.{LatticeData, size}
use Rattle.xc_laws.proofs.Lawful.{lawful_from_no_break}
use Rattle.xc_lattice.proofs.BreakRange.{break_in_range}
use Rattle.xc_lattice.proofs.Admitting.{negations_in_range, found_in}
use Rattle.xc_lattice.proofs.admit.admit.Goals as goal

pub find_break-requires-clause-in_range : goal.find_break-requires-clause-in_range
find_break-requires-clause-in_range c =
    let l : LatticeData = record { order = c.args.draft.order; negations = c.args.draft.negations } in
    subst (λ (ns : List ℕ). (k : ℕ) (d : ℕ) → k < length ns → get_or ns k d < size l) (sym c.as_slice.ensures) (negations_in_range l c.requires.shape)

pub of-requires-clause-lawful : goal.of-requires-clause-lawful
of-requires-clause-lawful c =
    let l : LatticeData = record { order = c.args.draft.order; negations = c.args.draft.negations } in
    lawful_from_no_break l c.requires.shape c.requires.reflexive c.requires.transitive
    (found_in l c.as_slice.result.now c.in_ok-find_break.field-0 None c.as_slice.ensures c.in_ok-find_break.ensures c.in-None.is)

pub names_of-requires : goal.names_of-requires
names_of-requires c k d within =
    let l : LatticeData = record { order = c.args.draft.order; negations = c.args.draft.negations } in
    let found = found_in l c.as_slice.result.now c.in_ok-find_break.field-0 (Some c.in-Some.broken) c.as_slice.ensures c.in_ok-find_break.ensures c.in-Some.is in
    let low = break_in_range l c.in-Some.broken found k d within in
    omega (arith, low, c.requires.named)
