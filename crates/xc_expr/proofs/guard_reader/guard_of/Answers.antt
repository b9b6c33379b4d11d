use Rattle.std.proofs.Common.{◌≡◌, None, arith}
use Rattle.std.proofs.lemmas.Grind.{common_steps}
use Rattle.xc_base.specs.Lines.{texts}
use Rattle.xc_expr.specs.Reading.{guard_in}
use Rattle.xc_expr.proofs.GuardReading.{no_guard}
use Rattle.xc_expr.proofs.guard_reader.guard_of.Goals as goal

pub returns-in_default-clause-err : goal.returns-in_default-clause-err
returns-in_default-clause-err c =
    let read : guard_in (texts c.args.tokens.now) ≡ None = grind (arith, common_steps) in
    no_guard (texts c.args.tokens.now) read
