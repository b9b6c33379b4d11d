use Rattle.std.proofs.Common.{ℕ, List, [], ◌∷◌, length, map, take, ap, sym, refl, ◌∙◌, arith}
use Rattle.std.proofs.lemmas.List.{length-map}
use Rattle.xc_forms.specs.declared.domain.Domain.{Domain}
use Rattle.xc_sigmap.specs.Maps.{value_of as map_of}
use Rattle.xc_view.specs.Parts.{command_value}
use Rattle.xc_view.specs.Views.{value_of as view_of}
use Rattle.xc_merge.specs.Merging.{viewpoint_of}
use Rattle.xc_merge.specs.MergedFrames.{step_digit}
use Rattle.xc_merged.proofs.Merging.{viewpoint_is, state_digits, seen_row, seen_count, seen_places, digits_pair, operations_size, weights_sized}
use Rattle.xc_merged.proofs.Sound.{sound_parts, guards_in, actions_in}
use Rattle.xc_theory.proofs.Codes.{digits_are_in_range}
use Rattle.xc_alg.specs.AnyTables.{lattice_in_any}
use Rattle.xc_alg.specs.Products.{product}
use Rattle.xc_forms.specs.Variables.{sizes_of}
use Rattle.xc_merge.specs.Projections.{row_seen}
use Rattle.xc_merge.specs.Pieces.{weight}
use Rattle.xc_merged.specs.Joins.{leads_to, joined_from}
use Rattle.xc_merged.proofs.Seeing.{seen_digits}
use Rattle.xc_merged.proofs.Stepping.{step_is, base_within}
use Rattle.xc_merged.proofs.merged.Merged.step_digit.Goals as goal

pub seen-first-requires-clause-row : goal.seen-first-requires-clause-row
seen-first-requires-clause-row c = state_digits (map_of c.args.self.now.sigmap) c.args.s c.args.from.now c.requires.s c.requires.from

pub seen-second-requires-clause-row : goal.seen-second-requires-clause-row
seen-second-requires-clause-row c = state_digits (map_of c.args.self.now.sigmap) c.args.t c.args.to.now c.requires.t c.requires.to

pub slice_bounds-here-end : goal.slice_bounds-here-end
slice_bounds-here-end c = seen_count c.args.self.now.sigmap c.args.self.now.views c.args.v c.get-pair.result.now c.args.from.now c.seen-first.result c.vars-vars.result.now c.len-count.result c.requires.v c.get-pair.ensures c.seen-first.ensures.seen c.vars-vars.ensures c.len-count.ensures

pub slice_bounds-there-end : goal.slice_bounds-there-end
slice_bounds-there-end c = seen_count c.args.self.now.sigmap c.args.self.now.views c.args.v c.get-pair.result.now c.args.to.now c.seen-second.result c.vars-vars.result.now c.len-count.result c.requires.v c.get-pair.ensures c.seen-second.ensures.seen c.vars-vars.ensures c.len-count.ensures

pub step_join-requires-clause-fit : goal.step_join-requires-clause-fit
step_join-requires-clause-fit c = rw c.vars-vars.ensures (sound_parts (view_of c.get-pair.result.now.0) c.is_sound.ensures).fit

pub step_join-requires-clause-guards : goal.step_join-requires-clause-guards
step_join-requires-clause-guards c =
    let is = ap (map command_value) c.as_slice-commands.ensures ∙ c.commands.ensures in
    rw c.vars-vars.ensures (guards_in (view_of c.get-pair.result.now.0) c.as_slice-commands.result.now (rw is (sound_parts (view_of c.get-pair.result.now.0) c.is_sound.ensures).commands))

pub step_join-requires-clause-actions : goal.step_join-requires-clause-actions
step_join-requires-clause-actions c =
    let is = ap (map command_value) c.as_slice-commands.ensures ∙ c.commands.ensures in
    rw c.vars-vars.ensures (actions_in (view_of c.get-pair.result.now.0) c.as_slice-commands.result.now (rw is (sound_parts (view_of c.get-pair.result.now.0) c.is_sound.ensures).commands))

pub step_join-requires-clause-count : goal.step_join-requires-clause-count
step_join-requires-clause-count c =
    let are = c.args.self.now.tabled c.args.v c.get-pair.result.now c.get-tables.result.now c.requires.v c.get-pair.ensures c.get-tables.ensures in
    let is = ap (map command_value) c.as_slice-commands.ensures ∙ c.commands.ensures in
    ap length (c.as_slice-weights.ensures ∙ are.weights) ∙ length-map (view_of c.get-pair.result.now.0).commands (weight (viewpoint_of c.get-pair.result.now)) ∙ ap length (sym is) ∙ length-map c.as_slice-commands.result.now command_value

pub step_join-requires-clause-weights : goal.step_join-requires-clause-weights
step_join-requires-clause-weights c =
    let are = c.args.self.now.tabled c.args.v c.get-pair.result.now c.get-tables.result.now c.requires.v c.get-pair.ensures c.get-tables.ensures in
    rw c.as_slice-weights.ensures (weights_sized (map_of c.args.self.now.sigmap) c.args.v (viewpoint_of c.get-pair.result.now) c.get-tables.result.now c.get-tables.result.now.weights are are.weights_in)

pub step_join-requires-clause-base : goal.step_join-requires-clause-base
step_join-requires-clause-base c =
    let are = c.args.self.now.tabled c.args.v c.get-pair.result.now c.get-tables.result.now c.requires.v c.get-pair.ensures c.get-tables.ensures in
    rw (operations_size (map_of c.args.self.now.sigmap) c.args.v (viewpoint_of c.get-pair.result.now) c.get-tables.result.now are, c.base-base.ensures) (base_within (map_of c.args.self.now.sigmap) c.args.v (viewpoint_of c.get-pair.result.now) c.get-tables.result.now _ are c.is_good.ensures)

pub step_join-requires-clause-from : goal.step_join-requires-clause-from
step_join-requires-clause-from c = seen_places c.args.self.now.sigmap c.args.self.now.views c.args.v c.get-pair.result.now c.args.from.now c.seen-first.result c.vars-vars.result.now c.len-count.result c.requires.v c.get-pair.ensures c.seen-first.ensures.seen c.vars-vars.ensures c.len-count.ensures (digits_pair c.args.self.now.sigmap c.args.self.now.views c.args.v c.get-pair.result.now c.args.from.now c.requires.v c.get-pair.ensures c.seen-first.ensures.digits)

pub step_join-requires-clause-to : goal.step_join-requires-clause-to
step_join-requires-clause-to c = seen_places c.args.self.now.sigmap c.args.self.now.views c.args.v c.get-pair.result.now c.args.to.now c.seen-second.result c.vars-vars.result.now c.len-count.result c.requires.v c.get-pair.ensures c.seen-second.ensures.seen c.vars-vars.ensures c.len-count.ensures (digits_pair c.args.self.now.sigmap c.args.self.now.views c.args.v c.get-pair.result.now c.args.to.now c.requires.v c.get-pair.ensures c.seen-second.ensures.digits)

pub step_join-requires-clause-small : goal.step_join-requires-clause-small
step_join-requires-clause-small c =
    let are = c.args.self.now.tabled c.args.v c.get-pair.result.now c.get-tables.result.now c.requires.v c.get-pair.ensures c.get-tables.ensures in
    omega (arith, operations_size (map_of c.args.self.now.sigmap) c.args.v (viewpoint_of c.get-pair.result.now) c.get-tables.result.now are, c.is_good.ensures.few)

pub returns-clause-digit : goal.returns-clause-digit
returns-clause-digit c =
    let are = c.args.self.now.tabled c.args.v c.get-pair.result.now c.get-tables.result.now c.requires.v c.get-pair.ensures c.get-tables.ensures in
    let is = ap (map command_value) c.as_slice-commands.ensures ∙ c.commands.ensures in
    c.step_join.ensures.sum
    ∙ ap (λ (ws : List ℕ). joined_from (product (lattice_in_any c.get-tables.result.now.operations ∷ [])) c.base-base.result ws (map (leads_to (sizes_of c.vars-vars.result.now) (take c.len-count.result c.seen-first.result) (take c.len-count.result c.seen-second.result)) c.as_slice-commands.result.now) 0) c.as_slice-weights.ensures
    ∙ ap (λ (vars : List Domain). joined_from (product (lattice_in_any c.get-tables.result.now.operations ∷ [])) c.base-base.result c.get-tables.result.now.weights (map (leads_to (sizes_of vars) (take c.len-count.result c.seen-first.result) (take c.len-count.result c.seen-second.result)) c.as_slice-commands.result.now) 0) c.vars-vars.ensures
    ∙ step_is (map_of c.args.self.now.sigmap) c.args.v (viewpoint_of c.get-pair.result.now) c.get-tables.result.now are c.is_good.ensures c.as_slice-commands.result.now c.args.s c.args.t (take c.len-count.result c.seen-first.result) (take c.len-count.result c.seen-second.result) c.base-base.result _ is
    (seen_digits (map_of c.args.self.now.sigmap) c.args.v (viewpoint_of c.get-pair.result.now) c.get-tables.result.now _ are (digits_are_in_range (sizes_of (map_of c.args.self.now.sigmap).vars) c.args.s c.requires.s))
    (seen_digits (map_of c.args.self.now.sigmap) c.args.v (viewpoint_of c.get-pair.result.now) c.get-tables.result.now _ are (digits_are_in_range (sizes_of (map_of c.args.self.now.sigmap).vars) c.args.t c.requires.t))
    (seen_row c.args.self.now.sigmap c.args.self.now.views c.args.v c.get-pair.result.now c.args.from.now c.seen-first.result c.vars-vars.result.now c.len-count.result c.requires.v c.get-pair.ensures c.seen-first.ensures.seen c.vars-vars.ensures c.len-count.ensures ∙ ap (row_seen (map_of c.args.self.now.sigmap) c.args.v (viewpoint_of c.get-pair.result.now)) c.requires.from)
    (seen_row c.args.self.now.sigmap c.args.self.now.views c.args.v c.get-pair.result.now c.args.to.now c.seen-second.result c.vars-vars.result.now c.len-count.result c.requires.v c.get-pair.ensures c.seen-second.ensures.seen c.vars-vars.ensures c.len-count.ensures ∙ ap (row_seen (map_of c.args.self.now.sigmap) c.args.v (viewpoint_of c.get-pair.result.now)) c.requires.to)
    refl c.base-base.ensures
    ∙ ap (step_digit (map_of c.args.self.now.sigmap) c.args.s c.args.t c.args.v) (sym (viewpoint_is c.args.self.now.sigmap c.args.self.now.views c.args.v c.get-pair.result.now c.requires.v c.get-pair.ensures))

pub returns-clause-below : goal.returns-clause-below
returns-clause-below c =
    let are = c.args.self.now.tabled c.args.v c.get-pair.result.now c.get-tables.result.now c.requires.v c.get-pair.ensures c.get-tables.ensures in
    rw (viewpoint_is c.args.self.now.sigmap c.args.self.now.views c.args.v c.get-pair.result.now c.requires.v c.get-pair.ensures, sym (operations_size (map_of c.args.self.now.sigmap) c.args.v (viewpoint_of c.get-pair.result.now) c.get-tables.result.now are)) c.step_join.ensures.below
