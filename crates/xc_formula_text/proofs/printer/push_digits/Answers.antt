use Rattle.std.proofs.Common.{refl}
use Rattle.xc_formula_text.proofs.Printing.{all_from}
use Rattle.xc_formula_text.proofs.printer.push_digits.Goals as goal

pub loop-place-init : goal.loop-place-init
loop-place-init c = record { low = all_from c.args.parts.now c.args.code c.requires.code; known = refl }
