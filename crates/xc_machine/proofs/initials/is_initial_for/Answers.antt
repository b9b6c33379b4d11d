use Rattle.std.proofs.Common.{take, ap, sym, ◌∙◌}
use Rattle.xc_expr.specs.Tests.{Test, holds_at}
use Rattle.xc_sigmap.specs.Maps.{value_of as map_of}
use Rattle.xc_view.specs.Views.{value_of as view_of}
use Rattle.xc_merge.specs.Merging.{viewpoint_of}
use Rattle.xc_merge.specs.MergedFrames.{is_initial_for}
use Rattle.xc_merged.proofs.Merging.{viewpoint_is, state_digits, seen_row, seen_length, seen_count, digits_pair, initial_for_is}
use Rattle.xc_merged.proofs.Sound.{sound_parts}
use Rattle.xc_machine.proofs.initials.is_initial_for.Goals as goal

pub seen-places-requires-clause-row : goal.seen-places-requires-clause-row
seen-places-requires-clause-row c = state_digits (map_of c.args.merged.now.sigmap) c.args.s c.args.row.now c.requires.s c.requires.row

pub slice_bounds-seen-end : goal.slice_bounds-seen-end
slice_bounds-seen-end c = seen_count c.args.merged.now.sigmap c.args.merged.now.views c.args.v c.get-pair.result.now c.args.row.now c.seen-places.result c.vars-vars.result.now c.len-count.result c.requires.v c.get-pair.ensures c.seen-places.ensures.seen c.vars-vars.ensures c.len-count.ensures

pub holds_in-requires-clause-guard : goal.holds_in-requires-clause-guard
holds_in-requires-clause-guard c = rw (c.vars-vars.ensures, c.init.ensures) (sound_parts (view_of c.get-pair.result.now.0) c.is_sound.ensures).begins

pub holds_in-requires-clause-places : goal.holds_in-requires-clause-places
holds_in-requires-clause-places c = seen_length c.args.merged.now.sigmap c.args.merged.now.views c.args.v c.get-pair.result.now c.args.row.now c.seen-places.result c.vars-vars.result.now c.len-count.result c.requires.v c.get-pair.ensures c.seen-places.ensures.seen c.vars-vars.ensures c.len-count.ensures

pub returns : goal.returns
returns c =
    c.holds_in.ensures ∙ ap (λ (g : Test). holds_at g (take c.len-count.result c.seen-places.result)) c.init.ensures
    ∙ ap (holds_at (view_of c.get-pair.result.now.0).init) (seen_row c.args.merged.now.sigmap c.args.merged.now.views c.args.v c.get-pair.result.now c.args.row.now c.seen-places.result c.vars-vars.result.now c.len-count.result c.requires.v c.get-pair.ensures c.seen-places.ensures.seen c.vars-vars.ensures c.len-count.ensures)
    ∙ initial_for_is (map_of c.args.merged.now.sigmap) c.args.v c.args.s (viewpoint_of c.get-pair.result.now) c.args.row.now c.requires.row
    (digits_pair c.args.merged.now.sigmap c.args.merged.now.views c.args.v c.get-pair.result.now c.args.row.now c.requires.v c.get-pair.ensures c.seen-places.ensures.digits)
    ∙ ap (is_initial_for (map_of c.args.merged.now.sigmap) c.args.s c.args.v) (sym (viewpoint_is c.args.merged.now.sigmap c.args.merged.now.views c.args.v c.get-pair.result.now c.requires.v c.get-pair.ensures))
