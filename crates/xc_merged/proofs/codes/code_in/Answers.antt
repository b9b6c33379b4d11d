use Rattle.std.proofs.Common.{◌+◌, ◌*◌, ◌<◌, ℕ, get_or, drop, ap, ◌∙◌, refl, arith}
use Rattle.xc_theory.specs.Codes.{total, code_of}
use Rattle.xc_theory.proofs.Codes.{codes_are_in_range}
use Rattle.xc_forms.specs.Variables.{sizes_of}
use Rattle.xc_moves.proofs.Moving.{sizes_length}
use Rattle.xc_merged.proofs.Coding.{code_turn, code_small, code_begins, code_ends}
use Rattle.xc_merged.proofs.Joining.{digits_count}
use Rattle.xc_merged.proofs.Sound.{size_at, states_few, rest_positive, value_few}
use Rattle.xc_merged.proofs.codes.code_in.Goals as goal

pub loop-x-init : goal.loop-x-init
loop-x-init c = code_begins (sizes_of c.args.vars.now) c.args.row.now

pub overflow_cast-code : goal.overflow_cast-code
overflow_cast-code c = omega (arith, c.len.ensures, value_few c.args.vars.now c.loop-x.x c.get.result.now c.requires.fit (omega arith) c.get.ensures)

pub overflow_mul-code : goal.overflow_mul-code
overflow_mul-code c =
    let small : c.loop-x.code * c.len.result + get_or c.args.row.now c.loop-x.x 0 < 1048577 =
    code_small _ _ _ (code_of (sizes_of c.args.vars.now) c.args.row.now) 1048577 (code_turn (sizes_of c.args.vars.now) c.args.row.now c.loop-x.x c.loop-x.code c.len.result (get_or c.args.row.now c.loop-x.x 0) (code_of (sizes_of c.args.vars.now) c.args.row.now) (omega (arith, sizes_length c.args.vars.now)) (omega (arith, digits_count c.args.vars.now c.args.row.now c.requires.row))
    (c.len.ensures ∙ size_at c.args.vars.now c.loop-x.x c.get.result.now (omega arith) c.get.ensures) refl c.loop-x.invariant) (rest_positive c.args.vars.now (c.loop-x.x + 1) c.requires.fit)
    (omega (arith, codes_are_in_range (sizes_of c.args.vars.now) c.args.row.now c.requires.row, states_few c.args.vars.now c.requires.fit)) in
    omega arith

pub overflow_add-code : goal.overflow_add-code
overflow_add-code c =
    let small : c.loop-x.code * c.len.result + get_or c.args.row.now c.loop-x.x 0 < 1048577 =
    code_small _ _ _ (code_of (sizes_of c.args.vars.now) c.args.row.now) 1048577 (code_turn (sizes_of c.args.vars.now) c.args.row.now c.loop-x.x c.loop-x.code c.len.result (get_or c.args.row.now c.loop-x.x 0) (code_of (sizes_of c.args.vars.now) c.args.row.now) (omega (arith, sizes_length c.args.vars.now)) (omega (arith, digits_count c.args.vars.now c.args.row.now c.requires.row))
    (c.len.ensures ∙ size_at c.args.vars.now c.loop-x.x c.get.result.now (omega arith) c.get.ensures) refl c.loop-x.invariant) (rest_positive c.args.vars.now (c.loop-x.x + 1) c.requires.fit)
    (omega (arith, codes_are_in_range (sizes_of c.args.vars.now) c.args.row.now c.requires.row, states_few c.args.vars.now c.requires.fit)) in
    omega (arith, c.from.ensures)

pub bounds-row-x : goal.bounds-row-x
bounds-row-x c = omega (arith, digits_count c.args.vars.now c.args.row.now c.requires.row)

pub loop-x-preserved : goal.loop-x-preserved
loop-x-preserved c =
    ap (λ (d : ℕ). (c.loop-x.code * c.len.result + d) * total (drop (c.loop-x.x + 1) (sizes_of c.args.vars.now)) + code_of (drop (c.loop-x.x + 1) (sizes_of c.args.vars.now)) (drop (c.loop-x.x + 1) c.args.row.now)) c.from.ensures
    ∙ (code_turn (sizes_of c.args.vars.now) c.args.row.now c.loop-x.x c.loop-x.code c.len.result (get_or c.args.row.now c.loop-x.x 0) (code_of (sizes_of c.args.vars.now) c.args.row.now) (omega (arith, sizes_length c.args.vars.now)) (omega (arith, digits_count c.args.vars.now c.args.row.now c.requires.row))
    (c.len.ensures ∙ size_at c.args.vars.now c.loop-x.x c.get.result.now (omega arith) c.get.ensures) refl c.loop-x.invariant)

pub returns-clause-code : goal.returns-clause-code
returns-clause-code c = code_ends (sizes_of c.args.vars.now) c.args.row.now c.loop-x.x c.loop-x.code (code_of (sizes_of c.args.vars.now) c.args.row.now) (omega (arith, sizes_length c.args.vars.now)) c.loop-x.invariant

pub returns-clause-below : goal.returns-clause-below
returns-clause-below c =
    omega (arith, code_ends (sizes_of c.args.vars.now) c.args.row.now c.loop-x.x c.loop-x.code (code_of (sizes_of c.args.vars.now) c.args.row.now) (omega (arith, sizes_length c.args.vars.now)) c.loop-x.invariant, codes_are_in_range (sizes_of c.args.vars.now) c.args.row.now c.requires.row)
