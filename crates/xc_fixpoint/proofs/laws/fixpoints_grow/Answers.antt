use Rattle.std.proofs.Common.{true, false}
use Rattle.xc_fixpoint.proofs.Fixpoints.{extremal_comes_before}
use Rattle.xc_fixpoint.proofs.laws.fixpoints_grow.Goals as goal

pub returns-clause-least : goal.returns-clause-least
returns-clause-least c = λ o laws n step monotone larger f g below hf hg. extremal_comes_before o laws true n step monotone larger f g below hf hg

pub returns-clause-greatest : goal.returns-clause-greatest
returns-clause-greatest c = λ o laws n step monotone smaller f g below hf hg. extremal_comes_before o laws false n step monotone smaller g f below hg hf
