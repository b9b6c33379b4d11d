-- Formulas at small cases that are known from outside: a wrong definition does not check here.
use Rattle.std.proofs.Common.{◌≡◌, ℕ, true, false, [], ◌∷◌, Some, None, codes, refl}
use Rattle.xc_base.specs.Operators.{chained, chain as chain_on, chain_up_to}
use Rattle.xc_ctl.proofs.Facts.{M, T, p}
use Rattle.xc_formula.specs.Written as written
use Rattle.xc_formula.specs.Written.{is_prop_name, IsFormula}
use Rattle.xc_formula.specs.Written.IsSpelled.{truth, factor, summand, conclusion, prefixed, until}
use Rattle.xc_formula.specs.FormulaReading as reading
use Rattle.xc_formula.specs.FormulaReading.{names, one_name, atom, implications, implications_up_to, basic, nested, sum, implication}
use Rattle.xc_formula.specs.Reading.{formula_in}
use Rattle.xc_formula.specs.declared.prefix.Prefix.TheVariants.{Negation, SomeNext, AllNext, SomeFinally, AllFinally, SomeGlobally, AllGlobally}
use Rattle.xc_formula.specs.declared.prefix.Paths.TheVariants.{SomePath, EveryPath}

-- the reserved words are no propositions
pub prop_names : (is_prop_name p ≡ true) × (is_prop_name (codes "EX") ≡ false) × (is_prop_name (codes "U") ≡ false) × (is_prop_name (codes "EU") ≡ true) × (is_prop_name (codes "true") ≡ false)
prop_names = (refl, refl, refl, refl, refl)

-- `p->p->p` groups to the right, `p|p&p` as one expects, `!EX p` from the operator on
pub grouped : (formula_in (p ∷ codes "->" ∷ p ∷ codes "->" ∷ p ∷ []) ≡ Some (written.Implies (written.Name p) (written.Implies (written.Name p) (written.Name p))))
    × (formula_in (p ∷ codes "|" ∷ p ∷ codes "&" ∷ p ∷ []) ≡ Some (written.Or (written.Name p) (written.And (written.Name p) (written.Name p))))
    × (formula_in (codes "!" ∷ codes "EX" ∷ p ∷ codes "&" ∷ p ∷ []) ≡ Some (written.And (written.Prefixed Negation (written.Prefixed SomeNext (written.Name p))) (written.Name p)))
    × (formula_in (codes "{" ∷ T ∷ codes "," ∷ M ∷ codes "}" ∷ []) ≡ Some (written.Braces (T ∷ M ∷ [])))
unfolding formula_in implication implications implications_up_to sum reading.product reading.until basic nested atom names one_name chained chain_on chain_up_to
grouped = (refl, refl, refl, refl)

pub no_formulas : (formula_in [] ≡ None) × (formula_in (p ∷ p ∷ []) ≡ None) × (formula_in (codes "EX" ∷ []) ≡ None) × (formula_in (codes "{" ∷ codes "}" ∷ []) ≡ None) × (formula_in (p ∷ codes "->" ∷ []) ≡ None)
unfolding formula_in implication implications implications_up_to sum reading.product reading.until basic nested atom names one_name chained chain_on chain_up_to
no_formulas = (refl, refl, refl, refl, refl)

-- the formulas of paths: `AG EF p` from the operators on, `A[p->p U EG p]` with whole formulas in its brackets
pub of_paths : (formula_in (codes "AG" ∷ codes "EF" ∷ p ∷ []) ≡ Some (written.Prefixed AllGlobally (written.Prefixed SomeFinally (written.Name p))))
    × (formula_in (codes "AF" ∷ p ∷ codes "&" ∷ p ∷ []) ≡ Some (written.And (written.Prefixed AllFinally (written.Name p)) (written.Name p)))
    × (formula_in (codes "E" ∷ codes "[" ∷ p ∷ codes "U" ∷ codes "true" ∷ codes "]" ∷ []) ≡ Some (written.Until SomePath (written.Name p) written.True))
    × (formula_in (codes "A" ∷ codes "[" ∷ p ∷ codes "->" ∷ p ∷ codes "U" ∷ codes "EG" ∷ p ∷ codes "]" ∷ []) ≡ Some (written.Until EveryPath (written.Implies (written.Name p) (written.Name p)) (written.Prefixed SomeGlobally (written.Name p))))
unfolding formula_in implication implications implications_up_to sum reading.product reading.until basic nested atom names one_name chained chain_on chain_up_to
of_paths = (refl, refl, refl, refl)

pub no_paths : (formula_in (codes "E" ∷ p ∷ []) ≡ None) × (formula_in (codes "E" ∷ codes "[" ∷ p ∷ codes "]" ∷ []) ≡ None) × (formula_in (codes "A" ∷ codes "[" ∷ p ∷ codes "U" ∷ p ∷ []) ≡ None)
    × (formula_in (codes "EF" ∷ codes "[" ∷ p ∷ codes "U" ∷ p ∷ codes "]" ∷ []) ≡ None)
unfolding formula_in implication implications implications_up_to sum reading.product reading.until basic nested atom names one_name chained chain_on chain_up_to
no_paths = (refl, refl, refl, refl)

-- `AX true` and `E[true U true]`, by the grammar itself
whole_truth : (d : ℕ) → written.IsSpelled written.Implication d (codes "true" ∷ []) written.True
whole_truth d = conclusion d _ _ (summand d _ _ (factor d _ _ (truth d)))

pub spelled : IsFormula (codes "AX" ∷ codes "true" ∷ []) (written.Prefixed AllNext written.True) × IsFormula (codes "E" ∷ codes "[" ∷ codes "true" ∷ codes "U" ∷ codes "true" ∷ codes "]" ∷ []) (written.Until SomePath written.True written.True)
spelled = (
  conclusion 512 _ _ (summand 512 _ _ (factor 512 _ _ (prefixed 511 AllNext _ _ (truth 511)))),
  conclusion 512 _ _ (summand 512 _ _ (factor 512 _ _ (until 511 SomePath (codes "true" ∷ []) (codes "true" ∷ []) _ _ (whole_truth 511) (whole_truth 511)))),
)
