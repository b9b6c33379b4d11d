use Rattle.std.proofs.Common.{ℕ, get_or, ap, ◌∙◌, arith}
use Rattle.xc_sigmap.specs.Maps.{value_of as map_of}
use Rattle.xc_merge.specs.Merges.{viewpoint_at}
use Rattle.xc_machine.specs.Machines.{merge_of}
use Rattle.xc_machine.proofs.Encoding.{tables_at, good_at, tables_count}
use Rattle.xc_merged.proofs.Merging.{viewpoint_count}
use Rattle.xc_merged.proofs.Stepping.{stutter_within}
use Rattle.xc_machine.proofs.machine.Machine.stutter.Goals as goal

pub get-tables-requires : goal.get-tables-requires
get-tables-requires c = rw c.from-number.ensures (tables_count c.args.self.now.merged.sigmap c.args.self.now.merged.views c.args.self.now.merged.tables c.args.v c.args.self.now.merged.one_table_each c.requires)

pub get-pair-requires : goal.get-pair-requires
get-pair-requires c = omega (arith, viewpoint_count c.args.self.now.merged.sigmap c.args.self.now.merged.views, c.requires, c.from-number.ensures)

pub returns-clause-element : goal.returns-clause-element
returns-clause-element c = (tables_at c.args.self.now.merged.sigmap c.args.self.now.merged.views c.args.self.now.merged.tables c.args.v c.get-tables.result.now c.args.self.now.merged.tabled c.requires (c.get-tables.ensures ∙ ap (λ (n : ℕ). get_or c.args.self.now.merged.tables n c.get-tables.result.now) c.from-number.ensures)).stutter_is

pub returns-clause-within : goal.returns-clause-within
returns-clause-within c = stutter_within (map_of c.args.self.now.merged.sigmap) c.args.v (viewpoint_at (merge_of c.args.self.now) c.args.v) c.get-tables.result.now (tables_at c.args.self.now.merged.sigmap c.args.self.now.merged.views c.args.self.now.merged.tables c.args.v c.get-tables.result.now c.args.self.now.merged.tabled c.requires (c.get-tables.ensures ∙ ap (λ (n : ℕ). get_or c.args.self.now.merged.tables n c.get-tables.result.now) c.from-number.ensures)) (good_at c.args.self.now.merged.sigmap c.args.self.now.merged.views c.args.v c.get-pair.result.now c.requires (c.get-pair.ensures ∙ ap (λ (n : ℕ). get_or c.args.self.now.merged.views n c.get-pair.result.now) c.from-number.ensures) c.is_good.ensures)
