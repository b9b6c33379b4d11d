use Rattle.std.proofs.Common.{ℕ, length, get_or, ap, ◌∙◌, arith}
use Rattle.std.proofs.lemmas.List.{length-map}
use Rattle.xc_sigmap.specs.Maps.{value_of as map_of}
use Rattle.xc_merge.specs.Merges.{viewpoint_at}
use Rattle.xc_merge.specs.Pieces.{weight}
use Rattle.xc_machine.specs.Machines.{merge_of}
use Rattle.xc_machine.proofs.Encoding.{tables_at, weight_at, weight_below, tables_count}
use Rattle.xc_machine.proofs.machine.Machine.weight.Goals as goal

pub get-tables-requires : goal.get-tables-requires
get-tables-requires c = rw c.from-number.ensures (tables_count c.args.self.now.merged.sigmap c.args.self.now.merged.views c.args.self.now.merged.tables c.args.v c.args.self.now.merged.one_table_each c.requires.viewpoint)

pub get-requires : goal.get-requires
get-requires c = omega (arith, ap length (tables_at c.args.self.now.merged.sigmap c.args.self.now.merged.views c.args.self.now.merged.tables c.args.v c.get-tables.result.now c.args.self.now.merged.tabled c.requires.viewpoint (c.get-tables.ensures ∙ ap (λ (n : ℕ). get_or c.args.self.now.merged.tables n c.get-tables.result.now) c.from-number.ensures)).weights, length-map (viewpoint_at (merge_of c.args.self.now) c.args.v).view.commands (weight (viewpoint_at (merge_of c.args.self.now) c.args.v)), c.requires.command, c.from-place.ensures)

pub returns-clause-element : goal.returns-clause-element
returns-clause-element c = weight_at (map_of c.args.self.now.merged.sigmap) c.args.v (viewpoint_at (merge_of c.args.self.now) c.args.v) c.get-tables.result.now c.args.c c.get.result.now (tables_at c.args.self.now.merged.sigmap c.args.self.now.merged.views c.args.self.now.merged.tables c.args.v c.get-tables.result.now c.args.self.now.merged.tabled c.requires.viewpoint (c.get-tables.ensures ∙ ap (λ (n : ℕ). get_or c.args.self.now.merged.tables n c.get-tables.result.now) c.from-number.ensures)) c.requires.command (c.get.ensures ∙ ap (λ (n : ℕ). get_or c.get-tables.result.now.weights n c.get.result.now) c.from-place.ensures)

pub returns-clause-within : goal.returns-clause-within
returns-clause-within c = weight_below (map_of c.args.self.now.merged.sigmap) c.args.v (viewpoint_at (merge_of c.args.self.now) c.args.v) c.get-tables.result.now c.args.c c.get.result.now (tables_at c.args.self.now.merged.sigmap c.args.self.now.merged.views c.args.self.now.merged.tables c.args.v c.get-tables.result.now c.args.self.now.merged.tabled c.requires.viewpoint (c.get-tables.ensures ∙ ap (λ (n : ℕ). get_or c.args.self.now.merged.tables n c.get-tables.result.now) c.from-number.ensures)) c.requires.command (c.get.ensures ∙ ap (λ (n : ℕ). get_or c.get-tables.result.now.weights n c.get.result.now) c.from-place.ensures)
