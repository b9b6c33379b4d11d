use Rattle.xc_gen.proofs.Lattices.{names_its_lattice}
use Rattle.xc_gen.proofs.UsedViews.{uses_both_views}
use Rattle.xc_gen.proofs.laws.generated_files_name_each_other.Goals as goal

pub returns-clause-uses : goal.returns-clause-uses
returns-clause-uses c = uses_both_views

pub returns-clause-lattices : goal.returns-clause-lattices
returns-clause-lattices c = names_its_lattice
