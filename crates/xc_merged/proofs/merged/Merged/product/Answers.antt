use Rattle.std.proofs.Common.{◌≤◌, List, length, map, ap, subst, ◌∙◌, arith}
use Rattle.std.proofs.lemmas.List.{length-map}
use Rattle.xc_theory.specs.Codes.{total}
use Rattle.xc_theory.specs.Lattices.{LatticeData}
use Rattle.xc_alg.specs.AnyTables.{lattice_in_any}
use Rattle.xc_alg.specs.Products.{sizes}
use Rattle.xc_sigmap.specs.Maps.{value_of as map_of}
use Rattle.xc_merged.specs.Gathered.{merged_of}
use Rattle.xc_merged.specs.Gathering.{operations}
use Rattle.xc_merged.proofs.Merging.{operations_are, too_large}
use Rattle.xc_merged.proofs.Sound.{map_parts}
use Rattle.xc_merged.proofs.merged.Merged.product.Goals as goal

pub of-requires-clause-few : goal.of-requires-clause-few
of-requires-clause-few c =
    omega (arith, length-map c.in_ok-list.list lattice_in_any, ap length c.in_ok-list.ensures, length-map c.as_slice.result.now operations, ap length c.as_slice.ensures, c.args.self.now.one_table_each, c.args.self.now.one_each, (map_parts (map_of c.args.self.now.sigmap) c.is_sound.ensures).few)

pub returns-in-Ok-clause-ok : goal.returns-in-Ok-clause-ok
returns-in-Ok-clause-ok c = c.in-Ok.ensures.ok.0 ∙ (c.in_ok-list.ensures ∙ ap (map operations) c.as_slice.ensures ∙ operations_are c.args.self.now.sigmap c.args.self.now.views c.args.self.now.tables (record { count = c.args.self.now.one_table_each; tabled = λ v pair t low. c.args.self.now.tabled v pair t low }))

pub returns-in-Ok-clause-limit : goal.returns-in-Ok-clause-limit
returns-in-Ok-clause-limit c = subst (λ (parts : List LatticeData). total (sizes parts) ≤ 4096) (c.in_ok-list.ensures ∙ ap (map operations) c.as_slice.ensures ∙ operations_are c.args.self.now.sigmap c.args.self.now.views c.args.self.now.tables (record { count = c.args.self.now.one_table_each; tabled = λ v pair t low. c.args.self.now.tabled v pair t low })) c.in-Ok.ensures.ok.1

pub returns-in-Err-TooLarge-clause-err : goal.returns-in-Err-TooLarge-clause-err
returns-in-Err-TooLarge-clause-err c =
    let told = rw c.in-Err-TooLarge.field-0-is at c.in-Err-TooLarge.ensures.err in
    too_large (merged_of c.args.self.now) c.in-Err-TooLarge.size c.requires (told.0 ∙ ap (λ (parts : List LatticeData). total (sizes parts)) (c.in_ok-list.ensures ∙ ap (map operations) c.as_slice.ensures ∙ operations_are c.args.self.now.sigmap c.args.self.now.views c.args.self.now.tables (record { count = c.args.self.now.one_table_each; tabled = λ v pair t low. c.args.self.now.tabled v pair t low }))) told.1
