use Rattle.std.proofs.Common.{◌/◌, ℕ, true, false, List, length, get_or, take, ap, subst, ◌∙◌, arith}
use Rattle.xc_forms.specs.Variables.{sizes_of}
use Rattle.xc_forms.specs.declared.domain.Domain.{Domain}
use Rattle.xc_moves.proofs.Moving.{sizes_length}
use Rattle.xc_sigmap.specs.Maps.{value_of as map_of}
use Rattle.xc_machine.specs.Descent.{AreJudged}
use Rattle.xc_merged.specs.Gathered.{merged_of}
use Rattle.xc_machine.specs.declared.judgement.Judgement.{Judgement}
use Rattle.xc_machine.specs.declared.judgement.Judgement.TheVariants.{Holds, Fails}
use Rattle.xc_machine.proofs.Descending.{block_is}
use Rattle.xc_merged.proofs.Fronts.{size_next}
use Rattle.xc_merged.proofs.Merging.{viewpoint_count, state_digits, row_read}
use Rattle.xc_merged.proofs.Sound.{map_parts, size_at, size_some, size_few, rest_some}
use Rattle.xc_machine.proofs.initials.block_at.Goals as goal

pub places_of-places-requires-clause-fit : goal.places_of-places-requires-clause-fit
places_of-places-requires-clause-fit c = rw c.vars-vars.ensures (map_parts (map_of c.args.merged.now.sigmap) c.is_sound.ensures).fit

pub nonzero_rem-first : goal.nonzero_rem-first
nonzero_rem-first c = rw c.loop-depth.invariant (rest_some (map_of c.args.merged.now.sigmap) c.loop-depth.depth c.is_sound.ensures)

pub judge_all-requires : goal.judge_all-requires
judge_all-requires c = state_digits (map_of c.args.merged.now.sigmap) c.args.first (take c.len.result c.places_of-places.result) c.requires.first (row_read (map_of c.args.merged.now.sigmap) c.vars-vars.result.now c.places_of-places.result c.len.result c.args.first c.vars-vars.ensures c.len.ensures c.places_of-places.ensures)

pub returns-in-Holds : goal.returns-in-Holds
returns-in-Holds c =
    block_is (merged_of c.args.merged.now) c.vars-vars.result.now c.args.first c.loop-depth.size c.loop-depth.depth (length c.args.merged.now.views) (take c.len.result c.places_of-places.result) Holds true c.vars-vars.ensures c.requires.first c.if-first-size-eq0.true
    (omega (arith, ap length c.vars-vars.ensures, c.loop-depth-test.true, c.len-depth-end.ensures)) c.loop-depth.invariant
    (row_read (map_of c.args.merged.now.sigmap) c.vars-vars.result.now c.places_of-places.result c.len.result c.args.first c.vars-vars.ensures c.len.ensures c.places_of-places.ensures)
    (subst (λ (j : Judgement). AreJudged (merged_of c.args.merged.now) c.loop-depth.depth (take c.len.result c.places_of-places.result) (length c.args.merged.now.views) j) c.in-Holds.is c.judge_all.ensures)
    (viewpoint_count c.args.merged.now.sigmap c.args.merged.now.views) (λ b h. h)

pub returns-in-Fails : goal.returns-in-Fails
returns-in-Fails c =
    block_is (merged_of c.args.merged.now) c.vars-vars.result.now c.args.first c.loop-depth.size c.loop-depth.depth (length c.args.merged.now.views) (take c.len.result c.places_of-places.result) Fails false c.vars-vars.ensures c.requires.first c.if-first-size-eq0.true
    (omega (arith, ap length c.vars-vars.ensures, c.loop-depth-test.true, c.len-depth-end.ensures)) c.loop-depth.invariant
    (row_read (map_of c.args.merged.now.sigmap) c.vars-vars.result.now c.places_of-places.result c.len.result c.args.first c.vars-vars.ensures c.len.ensures c.places_of-places.ensures)
    (subst (λ (j : Judgement). AreJudged (merged_of c.args.merged.now) c.loop-depth.depth (take c.len.result c.places_of-places.result) (length c.args.merged.now.views) j) c.in-Fails.is c.judge_all.ensures)
    (viewpoint_count c.args.merged.now.sigmap c.args.merged.now.views) (λ b h. h)

pub overflow_cast-size : goal.overflow_cast-size
overflow_cast-size c = omega (arith, c.len-in-loop-depth.ensures, size_few (map_of c.args.merged.now.sigmap) c.loop-depth.depth c.get.result.now c.is_sound.ensures (omega (arith, ap length c.vars-vars.ensures, c.loop-depth-test.true, c.len-depth-end.ensures)) (c.get.ensures ∙ ap (λ (vars : List Domain). get_or vars c.loop-depth.depth c.get.result.now) c.vars-vars.ensures))

pub nonzero_div-size : goal.nonzero_div-size
nonzero_div-size c = omega (arith, c.len-in-loop-depth.ensures, size_some (map_of c.args.merged.now.sigmap) c.loop-depth.depth c.get.result.now c.is_sound.ensures (omega (arith, ap length c.vars-vars.ensures, c.loop-depth-test.true, c.len-depth-end.ensures)) (c.get.ensures ∙ ap (λ (vars : List Domain). get_or vars c.loop-depth.depth c.get.result.now) c.vars-vars.ensures))

pub loop-depth-preserved : goal.loop-depth-preserved
loop-depth-preserved c =
    ap (λ (n : ℕ). n / c.len-in-loop-depth.result) c.loop-depth.invariant
    ∙ size_next (sizes_of (map_of c.args.merged.now.sigmap).vars) c.loop-depth.depth c.len-in-loop-depth.result
    (c.len-in-loop-depth.ensures ∙ size_at (map_of c.args.merged.now.sigmap).vars c.loop-depth.depth c.get.result.now (omega (arith, ap length c.vars-vars.ensures, c.loop-depth-test.true, c.len-depth-end.ensures)) (c.get.ensures ∙ ap (λ (vars : List Domain). get_or vars c.loop-depth.depth c.get.result.now) c.vars-vars.ensures))
    (omega (arith, sizes_length (map_of c.args.merged.now.sigmap).vars, ap length c.vars-vars.ensures, c.loop-depth-test.true, c.len-depth-end.ensures))
    (omega (arith, c.len-in-loop-depth.ensures, size_some (map_of c.args.merged.now.sigmap) c.loop-depth.depth c.get.result.now c.is_sound.ensures (omega (arith, ap length c.vars-vars.ensures, c.loop-depth-test.true, c.len-depth-end.ensures)) (c.get.ensures ∙ ap (λ (vars : List Domain). get_or vars c.loop-depth.depth c.get.result.now) c.vars-vars.ensures)))
