-- The canonical text of a small map: a wrong definition does not check here.
use Rattle.std.proofs.Common.{◌≡◌, refl}
use Rattle.xc_sigmap_lines.specs.MapFiles.{map_of}
use Rattle.xc_sigmap_lines.proofs.Facts.{house}
use Rattle.xc_sigmap_text.specs.Printing.{statements_in}

-- the statements of the house's canonical text are its own
pub printed : statements_in (map_of house) ≡ house
printed = refl
