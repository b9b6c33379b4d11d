use Rattle.std.proofs.Common.{◌≡◌, ◌++◌, drop}
use Rattle.xc_sigmap_lines.specs.declared.statement.Statement.TheVariants.{Use}
use Rattle.xc_sigmap_text.specs.Written.{written}
use Rattle.xc_sigmap_text.proofs.lines.push_uses.Given as goal

abbrev pub invariant-loop-declared : goal.invariant-loop-declared
invariant-loop-declared l = l.text ++ written Use (drop l.declared-index l.uses) ≡ l.fn.text ++ written Use l.uses
