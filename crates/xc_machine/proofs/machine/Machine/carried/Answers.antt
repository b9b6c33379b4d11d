use Rattle.std.proofs.Common.{ℕ, get_or, ap, ◌∙◌, arith}
use Rattle.xc_sigmap.specs.Maps.{value_of as map_of}
use Rattle.xc_merge.specs.Merges.{viewpoint_at}
use Rattle.xc_machine.specs.Machines.{merge_of}
use Rattle.xc_machine.proofs.Encoding.{tables_at, feed_at, tables_count}
use Rattle.xc_merged.proofs.Seeing.{values_few}
use Rattle.xc_merged.proofs.Sound.{map_parts}
use Rattle.xc_machine.proofs.machine.Machine.carried.Goals as goal

pub get-tables-requires : goal.get-tables-requires
get-tables-requires c = rw c.from-number.ensures (tables_count c.args.self.now.merged.sigmap c.args.self.now.merged.views c.args.self.now.merged.tables c.args.v c.args.self.now.merged.one_table_each c.requires.viewpoint)

pub get-feed-requires : goal.get-feed-requires
get-feed-requires c = omega (arith, (tables_at c.args.self.now.merged.sigmap c.args.self.now.merged.views c.args.self.now.merged.tables c.args.v c.get-tables.result.now c.args.self.now.merged.tabled c.requires.viewpoint (c.get-tables.ensures ∙ ap (λ (n : ℕ). get_or c.args.self.now.merged.tables n c.get-tables.result.now) c.from-number.ensures)).feeds.count, c.requires.variable, c.from-place.ensures)

pub bounds-feed-value : goal.bounds-feed-value
bounds-feed-value c = omega (arith, c.requires.value, values_few (map_of c.args.self.now.merged.sigmap).vars _ (map_parts (map_of c.args.self.now.merged.sigmap) c.is_sound.ensures).fit (feed_at (map_of c.args.self.now.merged.sigmap) c.args.v (viewpoint_at (merge_of c.args.self.now) c.args.v) c.get-tables.result.now c.args.x c.get-feed.result.now (tables_at c.args.self.now.merged.sigmap c.args.self.now.merged.views c.args.self.now.merged.tables c.args.v c.get-tables.result.now c.args.self.now.merged.tabled c.requires.viewpoint (c.get-tables.ensures ∙ ap (λ (n : ℕ). get_or c.args.self.now.merged.tables n c.get-tables.result.now) c.from-number.ensures)) c.requires.variable (c.get-feed.ensures ∙ ap (λ (n : ℕ). get_or c.get-tables.result.now.feeds n c.get-feed.result.now) c.from-place.ensures)).source_in, c.from-value.ensures)

pub returns-clause-place : goal.returns-clause-place
returns-clause-place c = ap (λ (n : ℕ). get_or c.get-feed.result.now.places n 0) c.from-value.ensures ∙ (feed_at (map_of c.args.self.now.merged.sigmap) c.args.v (viewpoint_at (merge_of c.args.self.now) c.args.v) c.get-tables.result.now c.args.x c.get-feed.result.now (tables_at c.args.self.now.merged.sigmap c.args.self.now.merged.views c.args.self.now.merged.tables c.args.v c.get-tables.result.now c.args.self.now.merged.tabled c.requires.viewpoint (c.get-tables.ensures ∙ ap (λ (n : ℕ). get_or c.args.self.now.merged.tables n c.get-tables.result.now) c.from-number.ensures)) c.requires.variable (c.get-feed.ensures ∙ ap (λ (n : ℕ). get_or c.get-tables.result.now.feeds n c.get-feed.result.now) c.from-place.ensures)).places c.args.m c.requires.value

pub returns-clause-within : goal.returns-clause-within
returns-clause-within c = rw (ap (λ (n : ℕ). get_or c.get-feed.result.now.places n 0) c.from-value.ensures ∙ (feed_at (map_of c.args.self.now.merged.sigmap) c.args.v (viewpoint_at (merge_of c.args.self.now) c.args.v) c.get-tables.result.now c.args.x c.get-feed.result.now (tables_at c.args.self.now.merged.sigmap c.args.self.now.merged.views c.args.self.now.merged.tables c.args.v c.get-tables.result.now c.args.self.now.merged.tabled c.requires.viewpoint (c.get-tables.ensures ∙ ap (λ (n : ℕ). get_or c.args.self.now.merged.tables n c.get-tables.result.now) c.from-number.ensures)) c.requires.variable (c.get-feed.ensures ∙ ap (λ (n : ℕ). get_or c.get-tables.result.now.feeds n c.get-feed.result.now) c.from-place.ensures)).places c.args.m c.requires.value) ((feed_at (map_of c.args.self.now.merged.sigmap) c.args.v (viewpoint_at (merge_of c.args.self.now) c.args.v) c.get-tables.result.now c.args.x c.get-feed.result.now (tables_at c.args.self.now.merged.sigmap c.args.self.now.merged.views c.args.self.now.merged.tables c.args.v c.get-tables.result.now c.args.self.now.merged.tabled c.requires.viewpoint (c.get-tables.ensures ∙ ap (λ (n : ℕ). get_or c.args.self.now.merged.tables n c.get-tables.result.now) c.from-number.ensures)) c.requires.variable (c.get-feed.ensures ∙ ap (λ (n : ℕ). get_or c.get-tables.result.now.feeds n c.get-feed.result.now) c.from-place.ensures)).places_in c.args.m c.requires.value)
