use Rattle.std.proofs.Common.{◌≡◌, ℕ, length, take, ap, sym, subst, ◌∙◌, arith}
use Rattle.xc_theory.specs.Codes.{AreDigits}
use Rattle.xc_forms.specs.Variables.{sizes_of}
use Rattle.xc_sigmap.specs.Maps.{value_of as map_of}
use Rattle.xc_view.specs.Views.{value_of as view_of}
use Rattle.xc_merge.specs.Merges.{Viewpoint}
use Rattle.xc_merge.specs.Merging.{viewpoint_of}
use Rattle.xc_merge.specs.Projections.{row_seen}
use Rattle.xc_merged.proofs.Merging.{viewpoint_is}
use Rattle.xc_merged.proofs.Seeing.{readable, seen_is, seen_digits, vars_few}
use Rattle.xc_merged.proofs.Sound.{sound_parts, map_parts}
use Rattle.xc_merged.proofs.merged.Merged.seen.Goals as goal

pub places_seen-requires-clause-few : goal.places_seen-requires-clause-few
places_seen-requires-clause-few c =
    let are = c.args.self.now.tabled c.args.v c.get-pair.result.now c.get-tables.result.now c.requires.v c.get-pair.ensures c.get-tables.ensures in
    omega (arith, are.feeds.count, vars_few (view_of c.get-pair.result.now.0).vars (sound_parts (view_of c.get-pair.result.now.0) c.is_sound-2.ensures).fit)

pub places_seen-requires-clause-readable : goal.places_seen-requires-clause-readable
places_seen-requires-clause-readable c =
    let are = c.args.self.now.tabled c.args.v c.get-pair.result.now c.get-tables.result.now c.requires.v c.get-pair.ensures c.get-tables.ensures in
    readable (map_of c.args.self.now.sigmap) c.args.v (viewpoint_of c.get-pair.result.now) c.get-tables.result.now c.args.row.now are c.requires.row (map_parts (map_of c.args.self.now.sigmap) c.is_sound.ensures).fit

pub returns-clause-seen : goal.returns-clause-seen
returns-clause-seen c =
    let are = c.args.self.now.tabled c.args.v c.get-pair.result.now c.get-tables.result.now c.requires.v c.get-pair.ensures c.get-tables.ensures in
    subst (λ (p : Viewpoint). take (length p.view.vars) c.places_seen.result ≡ row_seen (map_of c.args.self.now.sigmap) c.args.v p c.args.row.now)
    (sym (viewpoint_is c.args.self.now.sigmap c.args.self.now.views c.args.v c.get-pair.result.now c.requires.v c.get-pair.ensures))
    (ap (λ (n : ℕ). take n c.places_seen.result) (sym are.feeds.count) ∙ c.places_seen.ensures ∙ seen_is (map_of c.args.self.now.sigmap) c.args.v (viewpoint_of c.get-pair.result.now) c.get-tables.result.now c.args.row.now are c.requires.row)

pub returns-clause-digits : goal.returns-clause-digits
returns-clause-digits c =
    let are = c.args.self.now.tabled c.args.v c.get-pair.result.now c.get-tables.result.now c.requires.v c.get-pair.ensures c.get-tables.ensures in
    subst (λ (p : Viewpoint). AreDigits (sizes_of p.view.vars) (row_seen (map_of c.args.self.now.sigmap) c.args.v p c.args.row.now))
    (sym (viewpoint_is c.args.self.now.sigmap c.args.self.now.views c.args.v c.get-pair.result.now c.requires.v c.get-pair.ensures))
    (seen_digits (map_of c.args.self.now.sigmap) c.args.v (viewpoint_of c.get-pair.result.now) c.get-tables.result.now c.args.row.now are c.requires.row)
