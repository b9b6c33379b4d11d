use Rattle.std.proofs.Common.{ℕ, get_or, ap, ◌∙◌, arith}
use Rattle.xc_sigmap.specs.Maps.{value_of as map_of}
use Rattle.xc_merge.specs.Merges.{viewpoint_at}
use Rattle.xc_machine.specs.Machines.{merge_of}
use Rattle.xc_machine.proofs.Encoding.{tables_at, feed_at, tables_count}
use Rattle.xc_machine.proofs.machine.Machine.source.Goals as goal

pub get-tables-requires : goal.get-tables-requires
get-tables-requires c = rw c.from-number.ensures (tables_count c.args.self.now.merged.sigmap c.args.self.now.merged.views c.args.self.now.merged.tables c.args.v c.args.self.now.merged.one_table_each c.requires.viewpoint)

pub get-feed-requires : goal.get-feed-requires
get-feed-requires c = omega (arith, (tables_at c.args.self.now.merged.sigmap c.args.self.now.merged.views c.args.self.now.merged.tables c.args.v c.get-tables.result.now c.args.self.now.merged.tabled c.requires.viewpoint (c.get-tables.ensures ∙ ap (λ (n : ℕ). get_or c.args.self.now.merged.tables n c.get-tables.result.now) c.from-number.ensures)).feeds.count, c.requires.variable, c.from-place.ensures)

pub returns-clause-source : goal.returns-clause-source
returns-clause-source c = (feed_at (map_of c.args.self.now.merged.sigmap) c.args.v (viewpoint_at (merge_of c.args.self.now) c.args.v) c.get-tables.result.now c.args.x c.get-feed.result.now (tables_at c.args.self.now.merged.sigmap c.args.self.now.merged.views c.args.self.now.merged.tables c.args.v c.get-tables.result.now c.args.self.now.merged.tabled c.requires.viewpoint (c.get-tables.ensures ∙ ap (λ (n : ℕ). get_or c.args.self.now.merged.tables n c.get-tables.result.now) c.from-number.ensures)) c.requires.variable (c.get-feed.ensures ∙ ap (λ (n : ℕ). get_or c.get-tables.result.now.feeds n c.get-feed.result.now) c.from-place.ensures)).source_is

pub returns-clause-within : goal.returns-clause-within
returns-clause-within c = rw (feed_at (map_of c.args.self.now.merged.sigmap) c.args.v (viewpoint_at (merge_of c.args.self.now) c.args.v) c.get-tables.result.now c.args.x c.get-feed.result.now (tables_at c.args.self.now.merged.sigmap c.args.self.now.merged.views c.args.self.now.merged.tables c.args.v c.get-tables.result.now c.args.self.now.merged.tabled c.requires.viewpoint (c.get-tables.ensures ∙ ap (λ (n : ℕ). get_or c.args.self.now.merged.tables n c.get-tables.result.now) c.from-number.ensures)) c.requires.variable (c.get-feed.ensures ∙ ap (λ (n : ℕ). get_or c.get-tables.result.now.feeds n c.get-feed.result.now) c.from-place.ensures)).source_is (feed_at (map_of c.args.self.now.merged.sigmap) c.args.v (viewpoint_at (merge_of c.args.self.now) c.args.v) c.get-tables.result.now c.args.x c.get-feed.result.now (tables_at c.args.self.now.merged.sigmap c.args.self.now.merged.views c.args.self.now.merged.tables c.args.v c.get-tables.result.now c.args.self.now.merged.tabled c.requires.viewpoint (c.get-tables.ensures ∙ ap (λ (n : ℕ). get_or c.args.self.now.merged.tables n c.get-tables.result.now) c.from-number.ensures)) c.requires.variable (c.get-feed.ensures ∙ ap (λ (n : ℕ). get_or c.get-tables.result.now.feeds n c.get-feed.result.now) c.from-place.ensures)).source_in
