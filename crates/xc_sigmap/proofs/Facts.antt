-- What holds of a small map: a wrong definition does not check here.
use Rattle.std.proofs.Common.{◌≡◌, true, refl}
use Rattle.xc_sigmap_lines.specs.MapFiles.{map_of}
use Rattle.xc_sigmap_lines.proofs.Facts.{house}
use Rattle.xc_sigmap.specs.Sound.{is_sound}

pub sound : is_sound (map_of house) ≡ true
sound = refl
