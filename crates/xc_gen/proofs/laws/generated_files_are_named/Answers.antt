use Rattle.std.proofs.Common.{refl}
use Rattle.xc_gen.proofs.Names.{are_named}
use Rattle.xc_gen.proofs.laws.generated_files_are_named.Goals as goal

pub returns-clause-named : goal.returns-clause-named
returns-clause-named c = are_named

pub returns-clause-steady : goal.returns-clause-steady
returns-clause-steady c number size = refl
