use Rattle.xc_base.proofs.CanonicalTexts.{canonical_is_cut, canonical_is_sound}
use Rattle.xc_base.proofs.spacing.canonical_texts_are_cut.Goals as goal

pub returns-clause-cut : goal.returns-clause-cut
returns-clause-cut c = canonical_is_cut

pub returns-clause-sound : goal.returns-clause-sound
returns-clause-sound c = canonical_is_sound
