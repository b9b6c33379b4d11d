use Rattle.std.proofs.Common.{◌≡◌, ◌++◌, drop}
use Rattle.xc_forms.specs.VariableLines.{var_tokens}
use Rattle.xc_forms.specs.PrintedLines.{printed}
use Rattle.xc_forms.proofs.print.push_vars.Given as goal

abbrev pub invariant-loop-domain : goal.invariant-loop-domain
invariant-loop-domain l = l.text ++ printed var_tokens (drop l.domain-index l.vars) ≡ l.fn.text ++ printed var_tokens l.vars
