use Rattle.std.proofs.Common.{◌≡◌, ◌+◌, ◌*◌, drop}
use Rattle.xc_theory.specs.Codes.{total, code_of}
use Rattle.xc_forms.specs.Variables.{sizes_of}
use Rattle.xc_merged.proofs.codes.code_in.Given as goal

abbrev pub invariant-loop-x : goal.invariant-loop-x
invariant-loop-x l = l.code * total (drop l.x (sizes_of l.vars)) + code_of (drop l.x (sizes_of l.vars)) (drop l.x l.row) ≡ code_of (sizes_of l.vars) l.row
