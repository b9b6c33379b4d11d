-- Printed texts and limits at small cases that are known from outside: a wrong definition does not check here.
use Rattle.std.proofs.Common.{◌≡◌, [], ◌∷◌, Some, None, codes, refl}
use Rattle.xc_base.specs.Canonical.{spaced}
use Rattle.xc_base.specs.declared.fault.Part.TheVariants as parts
use Rattle.xc_base.specs.declared.fault.Counted.TheVariants as counted
use Rattle.xc_ctl.specs.Trees.{Const, Atom, Not, And, Or, Ex, Eu, Au, Eg}
use Rattle.xc_ctl.proofs.Facts.{pair}
use Rattle.xc_formula.specs.Written as written
use Rattle.xc_formula_text.specs.Texts.{text_of}
use Rattle.xc_formula_text.specs.FormulaFiles.{tree_excess, missing_part}

-- printed texts: brackets where `|` stands under `&`, under `!`, and on the right of its own operator
pub printed : (text_of pair (And (Const 4) (Not (Atom 0))) ≡ codes "{T,M}&!p") × (text_of pair (Or (Not (Atom 0)) (Not (Ex (Not (Atom 0))))) ≡ codes "!p|!EX!p")
    × (text_of pair (And (Or (Atom 0) (Atom 0)) (Atom 0)) ≡ codes "(p|p)&p") × (text_of pair (Or (Atom 0) (Or (Atom 0) (Atom 0))) ≡ codes "p|(p|p)") × (text_of pair (Or (Or (Atom 0) (Atom 0)) (Atom 0)) ≡ codes "p|p|p")
    × (text_of pair (Not (And (Atom 0) (Const 0))) ≡ codes "!(p&false)") × (text_of pair (Ex (Const 5)) ≡ codes "EX true")
unfolding spaced
printed = (refl, refl, refl, refl, refl, refl, refl)

-- and no brackets in those of paths
pub paths_printed : (text_of pair (Not (Eu (Const 5) (Not (Atom 0)))) ≡ codes "!E[true U!p]") × (text_of pair (Eg (Not (Atom 0))) ≡ codes "EG!p") × (text_of pair (Eg (Or (Atom 0) (Atom 0))) ≡ codes "EG(p|p)")
    × (text_of pair (Au (Or (Atom 0) (Atom 0)) (And (Atom 0) (Eg (Atom 0)))) ≡ codes "A[p|p U p&EG p]")
unfolding spaced
paths_printed = (refl, refl, refl, refl)

-- the limits: 64 formulas, and what a file with none lacks
pub limits : (tree_excess pair 63 (Some (Atom 0)) ≡ None) × (tree_excess pair 64 (Some (Atom 0)) ≡ Some (record { what = counted.Formulas; found = 65 })) × (missing_part [] ≡ Some parts.Formula) × (missing_part (written.True ∷ []) ≡ None)
unfolding spaced
limits = (refl, refl, refl, refl)
