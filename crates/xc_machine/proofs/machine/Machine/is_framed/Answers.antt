use Rattle.xc_machine.proofs.AsFrame.{merged_is_framed}
use Rattle.xc_machine.proofs.Framing.{lattices_good, views_sound}
use Rattle.xc_machine.proofs.machine.Machine.is_framed.Goals as goal

pub returns-clause-frame : goal.returns-clause-frame
returns-clause-frame c = merged_is_framed c.args.self.now.merged

pub returns-clause-views : goal.returns-clause-views
returns-clause-views c = λ v low. views_sound c.args.self.now.merged.sigmap c.args.self.now.merged.views v low

pub returns-clause-lattices : goal.returns-clause-lattices
returns-clause-lattices c = λ v low. lattices_good c.args.self.now.merged.sigmap c.args.self.now.merged.views v low
