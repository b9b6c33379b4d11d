use Rattle.std.proofs.Common.{ℕ, get_or, ap, ◌∙◌, arith}
use Rattle.xc_sigmap.specs.Maps.{value_of as map_of}
use Rattle.xc_merge.specs.Merges.{viewpoint_at}
use Rattle.xc_machine.specs.Machines.{merge_of}
use Rattle.xc_machine.proofs.Encoding.{tables_at, count_at, counts-length, tables_count}
use Rattle.xc_machine.proofs.machine.Machine.counts.Goals as goal

pub get-tables-requires : goal.get-tables-requires
get-tables-requires c = rw c.from-number.ensures (tables_count c.args.self.now.merged.sigmap c.args.self.now.merged.views c.args.self.now.merged.tables c.args.v c.args.self.now.merged.one_table_each c.requires.viewpoint)

pub get-telling-requires : goal.get-telling-requires
get-telling-requires c = omega (arith, (tables_at c.args.self.now.merged.sigmap c.args.self.now.merged.views c.args.self.now.merged.tables c.args.v c.get-tables.result.now c.args.self.now.merged.tabled c.requires.viewpoint (c.get-tables.ensures ∙ ap (λ (n : ℕ). get_or c.args.self.now.merged.tables n c.get-tables.result.now) c.from-number.ensures)).tellings.count, c.requires.prop, c.from-prop.ensures)

pub get-requires : goal.get-requires
get-requires c = omega (arith, counts-length (map_of c.args.self.now.merged.sigmap) c.args.v (viewpoint_at (merge_of c.args.self.now) c.args.v) c.args.p c.get-telling.result.now ((tables_at c.args.self.now.merged.sigmap c.args.self.now.merged.views c.args.self.now.merged.tables c.args.v c.get-tables.result.now c.args.self.now.merged.tabled c.requires.viewpoint (c.get-tables.ensures ∙ ap (λ (n : ℕ). get_or c.args.self.now.merged.tables n c.get-tables.result.now) c.from-number.ensures)).tellings.told c.args.p c.get-telling.result.now c.requires.prop (c.get-telling.ensures ∙ ap (λ (n : ℕ). get_or c.get-tables.result.now.tellings n c.get-telling.result.now) c.from-prop.ensures)), c.requires.line, c.from-place.ensures)

pub returns : goal.returns
returns c = count_at (map_of c.args.self.now.merged.sigmap) c.args.v (viewpoint_at (merge_of c.args.self.now) c.args.v) c.args.p c.args.l c.get-telling.result.now c.get.result.now ((tables_at c.args.self.now.merged.sigmap c.args.self.now.merged.views c.args.self.now.merged.tables c.args.v c.get-tables.result.now c.args.self.now.merged.tabled c.requires.viewpoint (c.get-tables.ensures ∙ ap (λ (n : ℕ). get_or c.args.self.now.merged.tables n c.get-tables.result.now) c.from-number.ensures)).tellings.told c.args.p c.get-telling.result.now c.requires.prop (c.get-telling.ensures ∙ ap (λ (n : ℕ). get_or c.get-tables.result.now.tellings n c.get-telling.result.now) c.from-prop.ensures)) c.requires.line (c.get.ensures ∙ ap (λ (n : ℕ). get_or c.get-telling.result.now.counts n c.get.result.now) c.from-place.ensures)
