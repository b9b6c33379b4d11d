use Rattle.std.proofs.Common.{◌≡◌, ℕ, length, take, ap, sym, ◌∙◌, arith}
use Rattle.xc_sigmap.specs.Maps.{value_of as map_of}
use Rattle.xc_view.specs.Views.{value_of as view_of}
use Rattle.xc_merge.specs.Merging.{viewpoint_of}
use Rattle.xc_merged.proofs.Merging.{viewpoint_is, seen_row, seen_length, seen_count}
use Rattle.xc_merged.proofs.Sound.{sound_parts}
use Rattle.xc_merged.proofs.Seeing.{vars_few, seen_digits}
use Rattle.xc_machine.proofs.Descending.{judged_is, known-length}
use Rattle.xc_theory.proofs.Codes.{digits_are_in_range}
use Rattle.xc_forms.specs.Variables.{sizes_of}
use Rattle.xc_machine.proofs.initials.judge_for.Goals as goal

pub known-read-requires : goal.known-read-requires
known-read-requires c =
    let are = c.args.merged.now.tabled c.args.v c.get-pair.result.now c.get-tables.result.now c.requires.v c.get-pair.ensures c.get-tables.ensures in
    omega (arith, are.feeds.count, vars_few (view_of c.get-pair.result.now.0).vars (sound_parts (view_of c.get-pair.result.now.0) c.is_sound.ensures).fit)

pub slice_bounds-seen-end : goal.slice_bounds-seen-end
slice_bounds-seen-end c = seen_count c.args.merged.now.sigmap c.args.merged.now.views c.args.v c.get-pair.result.now c.args.row.now c.seen-places.result c.vars-vars.result.now c.len-count.result c.requires.v c.get-pair.ensures c.seen-places.ensures.seen c.vars-vars.ensures c.len-count.ensures

pub slice_bounds-known-end : goal.slice_bounds-known-end
slice_bounds-known-end c =
    let are = c.args.merged.now.tabled c.args.v c.get-pair.result.now c.get-tables.result.now c.requires.v c.get-pair.ensures c.get-tables.ensures in
    let count : c.len-count.result ≡ length c.get-tables.result.now.feeds = c.len-count.ensures ∙ ap length c.vars-vars.ensures ∙ sym are.feeds.count in
    sym (known-length c.get-tables.result.now.feeds c.args.depth c.known-read.result c.len-count.result count c.known-read.ensures)

pub judge-requires-clause-guard : goal.judge-requires-clause-guard
judge-requires-clause-guard c = rw (c.vars-vars.ensures, c.init.ensures) (sound_parts (view_of c.get-pair.result.now.0) c.is_sound.ensures).begins

pub judge-requires-clause-places : goal.judge-requires-clause-places
judge-requires-clause-places c = seen_length c.args.merged.now.sigmap c.args.merged.now.views c.args.v c.get-pair.result.now c.args.row.now c.seen-places.result c.vars-vars.result.now c.len-count.result c.requires.v c.get-pair.ensures c.seen-places.ensures.seen c.vars-vars.ensures c.len-count.ensures

pub judge-requires-clause-known : goal.judge-requires-clause-known
judge-requires-clause-known c =
    let are = c.args.merged.now.tabled c.args.v c.get-pair.result.now c.get-tables.result.now c.requires.v c.get-pair.ensures c.get-tables.ensures in
    let count : c.len-count.result ≡ length c.get-tables.result.now.feeds = c.len-count.ensures ∙ ap length c.vars-vars.ensures ∙ sym are.feeds.count in
    known-length c.get-tables.result.now.feeds c.args.depth c.known-read.result c.len-count.result count c.known-read.ensures ∙ c.len-count.ensures

pub returns : goal.returns
returns c =
    let are = c.args.merged.now.tabled c.args.v c.get-pair.result.now c.get-tables.result.now c.requires.v c.get-pair.ensures c.get-tables.ensures in
    let count : c.len-count.result ≡ length c.get-tables.result.now.feeds = c.len-count.ensures ∙ ap length c.vars-vars.ensures ∙ sym are.feeds.count in
    record {
      right = λ s low shares.
          rw (viewpoint_is c.args.merged.now.sigmap c.args.merged.now.views c.args.v c.get-pair.result.now c.requires.v c.get-pair.ensures, c.judge.ensures, c.init.ensures)
          (judged_is (map_of c.args.merged.now.sigmap) c.args.v (viewpoint_of c.get-pair.result.now) c.get-tables.result.now c.args.row.now c.args.depth are c.requires.row s _ _ shares
          (seen_digits (map_of c.args.merged.now.sigmap) c.args.v (viewpoint_of c.get-pair.result.now) c.get-tables.result.now _ are (digits_are_in_range (sizes_of (map_of c.args.merged.now.sigmap).vars) s low))
          (seen_row c.args.merged.now.sigmap c.args.merged.now.views c.args.v c.get-pair.result.now c.args.row.now c.seen-places.result c.vars-vars.result.now c.len-count.result c.requires.v c.get-pair.ensures c.seen-places.ensures.seen c.vars-vars.ensures c.len-count.ensures)
          (ap (λ (n : ℕ). take n c.known-read.result) count ∙ c.known-read.ensures));
    }
