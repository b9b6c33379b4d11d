use Rattle.std.proofs.Common.{ℕ, List, [], ◌∷◌, length, map, take, ap, sym, ◌∙◌, arith}
use Rattle.std.proofs.lemmas.List.{length-map}
use Rattle.xc_sigmap.specs.Maps.{value_of as map_of}
use Rattle.xc_view.specs.Parts.{prop_value}
use Rattle.xc_view.specs.Views.{value_of as view_of}
use Rattle.xc_merge.specs.Merging.{viewpoint_of}
use Rattle.xc_merge.specs.MergedFrames.{prop_digit}
use Rattle.xc_merged.proofs.Merging.{viewpoint_is, state_digits, seen_row, seen_length, seen_count, operations_size, weights_sized}
use Rattle.xc_merged.proofs.Sound.{sound_parts, tests_in}
use Rattle.std.proofs.Common.{Bool}
use Rattle.xc_theory.proofs.Codes.{digits_are_in_range}
use Rattle.xc_alg.specs.AnyTables.{lattice_in_any}
use Rattle.xc_alg.specs.Products.{product}
use Rattle.xc_forms.specs.Variables.{sizes_of}
use Rattle.xc_view.specs.ViewFiles.{PropValue}
use Rattle.xc_merge.specs.Projections.{row_seen}
use Rattle.xc_merge.specs.Pieces.{mark, counts}
use Rattle.xc_merged.specs.Joins.{both, holds_there, joined_from}
use Rattle.xc_merged.proofs.Seeing.{seen_digits}
use Rattle.xc_merged.proofs.Stepping.{lines_is, fixed_value, bottom_within}
use Rattle.xc_merged.proofs.merged.Merged.prop_digit.Goals as goal

pub seen-places-requires-clause-row : goal.seen-places-requires-clause-row
seen-places-requires-clause-row c = state_digits (map_of c.args.self.now.sigmap) c.args.s c.args.row.now c.requires.s c.requires.row

pub get-telling-requires : goal.get-telling-requires
get-telling-requires c =
    let are = c.args.self.now.tabled c.args.v c.get-pair.result.now c.get-tables.result.now c.requires.v c.get-pair.ensures c.get-tables.ensures in
    omega (arith, are.tellings.count, c.requires.k)

pub slice_bounds-seen-end : goal.slice_bounds-seen-end
slice_bounds-seen-end c = seen_count c.args.self.now.sigmap c.args.self.now.views c.args.v c.get-pair.result.now c.args.row.now c.seen-places.result c.vars-vars.result.now c.len-count.result c.requires.v c.get-pair.ensures c.seen-places.ensures.seen c.vars-vars.ensures c.len-count.ensures

pub prop_join-requires-clause-tests : goal.prop_join-requires-clause-tests
prop_join-requires-clause-tests c =
    let is = ap (map prop_value) c.as_slice-lines.ensures ∙ c.props.ensures in
    rw c.vars-vars.ensures (tests_in (view_of c.get-pair.result.now.0) c.as_slice-lines.result.now (rw is (sound_parts (view_of c.get-pair.result.now.0) c.is_sound.ensures).lines))

pub prop_join-requires-clause-count : goal.prop_join-requires-clause-count
prop_join-requires-clause-count c =
    let are = c.args.self.now.tabled c.args.v c.get-pair.result.now c.get-tables.result.now c.requires.v c.get-pair.ensures c.get-tables.ensures in
    let is = ap (map prop_value) c.as_slice-lines.ensures ∙ c.props.ensures in
    ap length (c.as_slice-marks.ensures ∙ are.marks) ∙ length-map (view_of c.get-pair.result.now.0).props (mark (viewpoint_of c.get-pair.result.now)) ∙ ap length (sym is) ∙ length-map c.as_slice-lines.result.now prop_value

pub prop_join-requires-clause-counts : goal.prop_join-requires-clause-counts
prop_join-requires-clause-counts c =
    let are = c.args.self.now.tabled c.args.v c.get-pair.result.now c.get-tables.result.now c.requires.v c.get-pair.ensures c.get-tables.ensures in
    let tells = are.tellings.told c.args.k c.get-telling.result.now c.requires.k c.get-telling.ensures in
    let is = ap (map prop_value) c.as_slice-lines.ensures ∙ c.props.ensures in
    ap length (c.as_slice-counts.ensures ∙ tells.counts_are) ∙ length-map (view_of c.get-pair.result.now.0).props (λ (l : PropValue). counts (map_of c.args.self.now.sigmap) c.args.v l c.args.k) ∙ ap length (sym is) ∙ length-map c.as_slice-lines.result.now prop_value

pub prop_join-requires-clause-marks : goal.prop_join-requires-clause-marks
prop_join-requires-clause-marks c =
    let are = c.args.self.now.tabled c.args.v c.get-pair.result.now c.get-tables.result.now c.requires.v c.get-pair.ensures c.get-tables.ensures in
    rw c.as_slice-marks.ensures (weights_sized (map_of c.args.self.now.sigmap) c.args.v (viewpoint_of c.get-pair.result.now) c.get-tables.result.now c.get-tables.result.now.marks are are.marks_in)

pub prop_join-requires-clause-base : goal.prop_join-requires-clause-base
prop_join-requires-clause-base c =
    let are = c.args.self.now.tabled c.args.v c.get-pair.result.now c.get-tables.result.now c.requires.v c.get-pair.ensures c.get-tables.ensures in
    rw (operations_size (map_of c.args.self.now.sigmap) c.args.v (viewpoint_of c.get-pair.result.now) c.get-tables.result.now are) (bottom_within (map_of c.args.self.now.sigmap) c.args.v (viewpoint_of c.get-pair.result.now) c.get-tables.result.now are c.is_good.ensures)

pub prop_join-requires-clause-from : goal.prop_join-requires-clause-from
prop_join-requires-clause-from c = seen_length c.args.self.now.sigmap c.args.self.now.views c.args.v c.get-pair.result.now c.args.row.now c.seen-places.result c.vars-vars.result.now c.len-count.result c.requires.v c.get-pair.ensures c.seen-places.ensures.seen c.vars-vars.ensures c.len-count.ensures

pub prop_join-requires-clause-small : goal.prop_join-requires-clause-small
prop_join-requires-clause-small c =
    let are = c.args.self.now.tabled c.args.v c.get-pair.result.now c.get-tables.result.now c.requires.v c.get-pair.ensures c.get-tables.ensures in
    omega (arith, operations_size (map_of c.args.self.now.sigmap) c.args.v (viewpoint_of c.get-pair.result.now) c.get-tables.result.now are, c.is_good.ensures.few)

pub returns-in-Some-clause-digit : goal.returns-in-Some-clause-digit
returns-in-Some-clause-digit c =
    let are = c.args.self.now.tabled c.args.v c.get-pair.result.now c.get-tables.result.now c.requires.v c.get-pair.ensures c.get-tables.ensures in
    let tells = are.tellings.told c.args.k c.get-telling.result.now c.requires.k c.get-telling.ensures in
    fixed_value (map_of c.args.self.now.sigmap) c.args.v c.args.k c.args.s (viewpoint_of c.get-pair.result.now) c.get-telling.result.now c.in-Some.element tells c.in-Some.is ∙ ap (prop_digit (map_of c.args.self.now.sigmap) c.args.k c.args.s c.args.v) (sym (viewpoint_is c.args.self.now.sigmap c.args.self.now.views c.args.v c.get-pair.result.now c.requires.v c.get-pair.ensures))

pub returns-in-Some-clause-below : goal.returns-in-Some-clause-below
returns-in-Some-clause-below c =
    let are = c.args.self.now.tabled c.args.v c.get-pair.result.now c.get-tables.result.now c.requires.v c.get-pair.ensures c.get-tables.ensures in
    let tells = are.tellings.told c.args.k c.get-telling.result.now c.requires.k c.get-telling.ensures in
    rw (viewpoint_is c.args.self.now.sigmap c.args.self.now.views c.args.v c.get-pair.result.now c.requires.v c.get-pair.ensures) (are.fixed_in c.args.k c.in-Some.element (sym tells.fixed_is ∙ c.in-Some.is))

pub returns-in-None-clause-digit : goal.returns-in-None-clause-digit
returns-in-None-clause-digit c =
    let are = c.args.self.now.tabled c.args.v c.get-pair.result.now c.get-tables.result.now c.requires.v c.get-pair.ensures c.get-tables.ensures in
    let tells = are.tellings.told c.args.k c.get-telling.result.now c.requires.k c.get-telling.ensures in
    let is = ap (map prop_value) c.as_slice-lines.ensures ∙ c.props.ensures in
    c.prop_join.ensures.sum
    ∙ ap (λ (ws : List ℕ). joined_from (product (lattice_in_any c.get-tables.result.now.operations ∷ [])) c.get-tables.result.now.bottom ws (both c.as_slice-counts.result.now (map (holds_there (take c.len-count.result c.seen-places.result)) c.as_slice-lines.result.now)) 0) c.as_slice-marks.ensures
    ∙ ap (λ (row : List Bool). joined_from (product (lattice_in_any c.get-tables.result.now.operations ∷ [])) c.get-tables.result.now.bottom c.get-tables.result.now.marks (both row (map (holds_there (take c.len-count.result c.seen-places.result)) c.as_slice-lines.result.now)) 0) c.as_slice-counts.ensures
    ∙ lines_is (map_of c.args.self.now.sigmap) c.args.v (viewpoint_of c.get-pair.result.now) c.get-tables.result.now are c.is_good.ensures c.as_slice-lines.result.now c.args.k c.args.s (take c.len-count.result c.seen-places.result) c.get-telling.result.now is
    (seen_digits (map_of c.args.self.now.sigmap) c.args.v (viewpoint_of c.get-pair.result.now) c.get-tables.result.now _ are (digits_are_in_range (sizes_of (map_of c.args.self.now.sigmap).vars) c.args.s c.requires.s))
    (seen_row c.args.self.now.sigmap c.args.self.now.views c.args.v c.get-pair.result.now c.args.row.now c.seen-places.result c.vars-vars.result.now c.len-count.result c.requires.v c.get-pair.ensures c.seen-places.ensures.seen c.vars-vars.ensures c.len-count.ensures ∙ ap (row_seen (map_of c.args.self.now.sigmap) c.args.v (viewpoint_of c.get-pair.result.now)) c.requires.row) tells c.in-None.is
    ∙ ap (prop_digit (map_of c.args.self.now.sigmap) c.args.k c.args.s c.args.v) (sym (viewpoint_is c.args.self.now.sigmap c.args.self.now.views c.args.v c.get-pair.result.now c.requires.v c.get-pair.ensures))

pub returns-in-None-clause-below : goal.returns-in-None-clause-below
returns-in-None-clause-below c =
    let are = c.args.self.now.tabled c.args.v c.get-pair.result.now c.get-tables.result.now c.requires.v c.get-pair.ensures c.get-tables.ensures in
    rw ((viewpoint_is c.args.self.now.sigmap c.args.self.now.views c.args.v c.get-pair.result.now c.requires.v c.get-pair.ensures), sym (operations_size (map_of c.args.self.now.sigmap) c.args.v (viewpoint_of c.get-pair.result.now) c.get-tables.result.now are)) c.prop_join.ensures.below
