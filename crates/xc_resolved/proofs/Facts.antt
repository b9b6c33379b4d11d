-- Formulas written out at small cases that are known from outside: a wrong definition does not check here.
use Rattle.std.proofs.Common.{◌≡◌, Some, None, codes, refl}
use Rattle.xc_ctl.specs.Trees.{Const, Atom, Not, Or, Ex, Eu, Au, Eg}
use Rattle.xc_ctl.proofs.Facts.{p, pair}
use Rattle.xc_formula.specs.Written as written
use Rattle.xc_formula.specs.declared.prefix.Prefix.TheVariants.{AllNext, SomeFinally, AllFinally, SomeGlobally, AllGlobally}
use Rattle.xc_formula.specs.declared.prefix.Paths.TheVariants.{EveryPath}
use Rattle.xc_resolved.specs.Resolved.{resolved}

-- what stands for abbreviations: `AX p` is `!EX!p`, and `p -> p` is `!p | p`
pub written_out : (resolved pair (written.Prefixed AllNext (written.Name p)) ≡ Some (Not (Ex (Not (Atom 0))))) × (resolved pair (written.Implies (written.Name p) written.False) ≡ Some (Or (Not (Atom 0)) (Const 0)))
    × (resolved pair written.True ≡ Some (Const 5)) × (resolved pair (written.Name (codes "q")) ≡ None)
written_out = (refl, refl, refl, refl)

-- `EF p` is `E[true U p]`, `AF p` is `A[true U p]`, and `AG p` is `!E[true U !p]`
pub paths_written_out : (resolved pair (written.Prefixed SomeFinally (written.Name p)) ≡ Some (Eu (Const 5) (Atom 0))) × (resolved pair (written.Prefixed AllFinally (written.Name p)) ≡ Some (Au (Const 5) (Atom 0)))
    × (resolved pair (written.Prefixed AllGlobally (written.Name p)) ≡ Some (Not (Eu (Const 5) (Not (Atom 0))))) × (resolved pair (written.Prefixed SomeGlobally (written.Name p)) ≡ Some (Eg (Atom 0)))
    × (resolved pair (written.Until EveryPath (written.Name p) written.False) ≡ Some (Au (Atom 0) (Const 0)))
paths_written_out = (refl, refl, refl, refl, refl)
