use Rattle.std.proofs.Common.{List, take, ap, sym, ◌∙◌}
use Rattle.xc_theory.specs.Codes.{code_of}
use Rattle.xc_forms.specs.Variables.{sizes_of}
use Rattle.xc_forms.specs.declared.domain.Domain.{Domain}
use Rattle.xc_sigmap.specs.Maps.{value_of as map_of}
use Rattle.xc_view.specs.Views.{value_of as view_of}
use Rattle.xc_merge.specs.Merges.{Viewpoint}
use Rattle.xc_merge.specs.Merging.{viewpoint_of}
use Rattle.xc_merge.specs.Projections.{projection, row_seen}
use Rattle.xc_merged.proofs.Merging.{viewpoint_is, state_digits, row_read, seen_row, seen_count, seen_places, digits_pair}
use Rattle.xc_merged.proofs.Sound.{sound_parts, map_parts}
use Rattle.xc_merged.proofs.merged.Merged.project.Goals as goal

pub places_of-full-requires-clause-fit : goal.places_of-full-requires-clause-fit
places_of-full-requires-clause-fit c = rw c.vars-held.ensures (map_parts (map_of c.args.self.now.sigmap) c.is_sound.ensures).fit

pub seen-places-requires-clause-row : goal.seen-places-requires-clause-row
seen-places-requires-clause-row c = state_digits (map_of c.args.self.now.sigmap) c.args.s (take c.len.result c.places_of-full.result) c.requires.s (row_read (map_of c.args.self.now.sigmap) c.vars-held.result.now c.places_of-full.result c.len.result c.args.s c.vars-held.ensures c.len.ensures c.places_of-full.ensures)

pub slice_bounds-seen-end : goal.slice_bounds-seen-end
slice_bounds-seen-end c = seen_count c.args.self.now.sigmap c.args.self.now.views c.args.v c.get-pair.result.now (take c.len.result c.places_of-full.result) c.seen-places.result c.vars-vars.result.now c.len-count.result c.requires.v c.get-pair.ensures c.seen-places.ensures.seen c.vars-vars.ensures c.len-count.ensures

pub code_in-requires-clause-fit : goal.code_in-requires-clause-fit
code_in-requires-clause-fit c = rw c.vars-vars.ensures (sound_parts (view_of c.get-pair.result.now.0) c.is_sound-2.ensures).fit

pub code_in-requires-clause-row : goal.code_in-requires-clause-row
code_in-requires-clause-row c = seen_places c.args.self.now.sigmap c.args.self.now.views c.args.v c.get-pair.result.now (take c.len.result c.places_of-full.result) c.seen-places.result c.vars-vars.result.now c.len-count.result c.requires.v c.get-pair.ensures c.seen-places.ensures.seen c.vars-vars.ensures c.len-count.ensures (digits_pair c.args.self.now.sigmap c.args.self.now.views c.args.v c.get-pair.result.now (take c.len.result c.places_of-full.result) c.requires.v c.get-pair.ensures c.seen-places.ensures.digits)

pub returns-clause-value : goal.returns-clause-value
returns-clause-value c =
    c.code_in.ensures.code
    ∙ ap (λ (vars : List Domain). code_of (sizes_of vars) (take c.len-count.result c.seen-places.result)) c.vars-vars.ensures
    ∙ ap (code_of (sizes_of (view_of c.get-pair.result.now.0).vars)) (seen_row c.args.self.now.sigmap c.args.self.now.views c.args.v c.get-pair.result.now (take c.len.result c.places_of-full.result) c.seen-places.result c.vars-vars.result.now c.len-count.result c.requires.v c.get-pair.ensures c.seen-places.ensures.seen c.vars-vars.ensures c.len-count.ensures ∙ ap (row_seen (map_of c.args.self.now.sigmap) c.args.v (viewpoint_of c.get-pair.result.now)) (row_read (map_of c.args.self.now.sigmap) c.vars-held.result.now c.places_of-full.result c.len.result c.args.s c.vars-held.ensures c.len.ensures c.places_of-full.ensures))
    ∙ ap (λ (p : Viewpoint). projection (map_of c.args.self.now.sigmap) c.args.v p c.args.s) (sym (viewpoint_is c.args.self.now.sigmap c.args.self.now.views c.args.v c.get-pair.result.now c.requires.v c.get-pair.ensures))

pub returns-clause-below : goal.returns-clause-below
returns-clause-below c = rw ((viewpoint_is c.args.self.now.sigmap c.args.self.now.views c.args.v c.get-pair.result.now c.requires.v c.get-pair.ensures), sym c.vars-vars.ensures) c.code_in.ensures.below
