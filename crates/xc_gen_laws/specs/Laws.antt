-- What holds of all generated files, as statements that a public function carries.
use Rattle.std.specs.Prelude.{◌≡◌, ℕ, true, List, None}
use Rattle.xc_base.specs.Formats.{IsAccepted}
use Rattle.xc_base.specs.Lines.{text_rows}
use Rattle.xc_formula_text.specs.FormulaFiles.{formula_format}
use Rattle.xc_ctl.specs.declared.kind.Kind.{Kind}
use Rattle.xc_merge.specs.Faults.{merge_fault}
use Rattle.xc_gen.specs.Generated.{formulas_text, is_size}
use Rattle.xc_gen_laws.specs.Readings.{AreClean, Reading, merged, signature_of}

-- no text has a fault
abbrev pub GeneratedTextsAreClean : Type 0
GeneratedTextsAreClean = (number size : ℕ) → is_size size ≡ true → AreClean number size

-- lattices, views and map are accepted
abbrev pub GeneratedFilesAreAccepted : Type 0
GeneratedFilesAreAccepted = (number size : ℕ) → is_size size ≡ true → Reading number size

-- whatever they are read as, the viewpoints merge without a fault
abbrev pub GeneratedViewpointsMerge : Type 0
GeneratedViewpointsMerge = (number size : ℕ) → is_size size ≡ true → (r : Reading number size) → merge_fault (merged r.plan r.left r.right) ≡ None

-- and the formulas are accepted over them
abbrev pub GeneratedFormulasAreAccepted : Type 0
GeneratedFormulasAreAccepted =
    (number size : ℕ) → is_size size ≡ true → (r : Reading number size)
    → (formulas : List (List Kind)) × IsAccepted (formula_format (signature_of (merged r.plan r.left r.right))) (text_rows formulas_text) formulas
