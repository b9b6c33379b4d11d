-- Files of formulas, one on each line, and what they say: the table of each formula.
use Rattle.std.specs.Prelude.{ℕ, ◌+◌, false, nat_lt, if◌then◌else◌, List, [], ◌∷◌, length, map, Option, Some, None, ◌≡◌}
use Rattle.std.specs.Option.{is_none}
use Rattle.xc_base.specs.Formats.{Format, Excess, Row, IsFirstFault}
use Rattle.xc_base.specs.declared.fault.Part.{Part}
use Rattle.xc_base.specs.declared.fault.Part.TheVariants as parts
use Rattle.xc_base.specs.declared.fault.Counted.TheVariants as counted
use Rattle.xc_base.specs.declared.fault.Stop.{Stop}
use Rattle.xc_base.specs.declared.fault.Stop.TheVariants.{File, Memory}
use Rattle.xc_formula.specs.Written.{Written, IsFormula}
use Rattle.xc_ctl.specs.Trees.{Signature, Tree}
use Rattle.xc_resolved.specs.Resolved.{resolved}
use Rattle.xc_formula_text.specs.Texts.{text_of}
use Rattle.xc_ctl.specs.Tables.{size_of, nodes_of}
use Rattle.xc_ctl.specs.declared.kind.Kind.{Kind}

-- the limits: nodes of a formula, bytes of its printed text, formulas of a file
abbrev pub node_limit : ℕ
node_limit = 256

abbrev pub text_limit : ℕ
text_limit = 4000

abbrev pub formula_limit : ℕ
formula_limit = 64

-- too many nodes, then a text that is too long, then too many formulas
abbrev pub tree_excess : Signature → ℕ → Option Tree → Option Excess
tree_excess n before None = None
tree_excess n before (Some tree) =
    if nat_lt node_limit (size_of tree) then Some (record { what = counted.Nodes; found = size_of tree }) else
    if nat_lt text_limit (length (text_of n tree)) then Some (record { what = counted.Text; found = length (text_of n tree) }) else
    if nat_lt before formula_limit then None else Some (record { what = counted.Formulas; found = before + 1 })

abbrev pub missing_part : List Written → Option Part
missing_part [] = Some parts.Formula
missing_part (f ∷ more) = None

-- the table of a formula
abbrev pub table_in : Option Tree → List Kind
table_in None = []
table_in (Some tree) = nodes_of tree

abbrev pub tables_of : Signature → List Written → List (List Kind)
tables_of n formulas = map (λ f. table_in (resolved n f)) formulas

abbrev pub formula_format : Signature → Format Written (List (List Kind))
formula_format n =
    record {
      Due = λ before tokens f. IsFormula tokens f;
      repeated = λ before f. false;
      unknown = λ before f. is_none (resolved n f);
      count = λ before f. tree_excess n (length before) (resolved n f);
      missing = missing_part;
      Says = λ formulas tables. tables ≡ tables_of n formulas;
    }

-- why the reader of a file with these rows stops
abbrev pub IsStop : Signature → List Row → Stop → Type 0
IsStop n rows (File fault) = IsFirstFault (formula_format n) rows fault
IsStop n rows Memory = Unit {0}
