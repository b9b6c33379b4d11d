-- What holds of faultless statements, read one after another.
-- Words for the steps of the code: public clauses do not rest on them.
use Rattle.std.specs.Prelude.{◌≡◌, ◌≤◌, ℕ, Bool, true, false, ◌&&◌, not, List, [], ◌∷◌, length, Result, Ok, Err}
use Rattle.std.specs.List.{list_any, list_all}
use Rattle.xc_base.specs.Names.{is_among, has_twice}
use Rattle.xc_base.specs.declared.fault.FileFault.{FileFault}
use Rattle.xc_base.specs.declared.fault.Stop.{Stop}
use Rattle.xc_base.specs.declared.fault.Stop.TheVariants.{File, Memory}
use Rattle.xc_forms.specs.Variables.{names_of}
use Rattle.xc_forms.specs.declared.domain.Domain.{Domain}
use Rattle.xc_forms.specs.FaultlessLines.{AreSized}
use Rattle.xc_sigmap_lines.specs.declared.parts.Use as viewpoints
use Rattle.xc_sigmap_lines.specs.declared.statement.Statement.{Statement}
use Rattle.xc_sigmap_lines.specs.declared.statement.Statement.TheVariants.{Map, Use, Var, Prop, Send, Tell, Stutter}
use Rattle.xc_sigmap_lines.specs.MapFiles.{is_map, is_late, last_of, has_names, uses_of, vars_of, props_of, use_names, carried_names, values_named, says_again, use_limit, prop_limit}
use Rattle.xc_sigmap.specs.Sound.{has_two}

-- the first is the name
abbrev pub begins : List Statement → Bool
begins [] = true
begins (s ∷ more) = is_map s

-- whether the last of them says what a viewpoint sends or tells, or its stutter value
abbrev pub ends_late : List Statement → Bool
ends_late [] = false
ends_late (s ∷ more) = is_late (last_of s more)

-- what a statement names is there
abbrev pub is_known : List viewpoints.Use → List Domain → List (List ℕ) → Statement → Bool
is_known uses vars props (Map name) = true
is_known uses vars props (Use u) = true
is_known uses vars props (Var d) = true
is_known uses vars props (Prop name) = true
is_known uses vars props (Send viewpoint variable source pairs) =
    is_among (use_names uses) viewpoint && is_among (names_of vars) source && list_all (is_among (values_named vars source)) (carried_names pairs) && not (has_twice (carried_names pairs))
is_known uses vars props (Tell viewpoint prop told) = is_among (use_names uses) viewpoint && is_among props prop
is_known uses vars props (Stutter viewpoint value) = is_among (use_names uses) viewpoint

-- what holds of faultless statements, one after another from the first on
pub record IsFair (statements : List Statement) : Type 0 where
  pub starts : begins statements ≡ true
  pub named : list_all has_names statements ≡ true
  pub used : has_twice (use_names (uses_of statements)) ≡ false
  pub few_uses : length (uses_of statements) ≤ use_limit
  pub sized : AreSized (vars_of statements)
  pub declared : has_twice (props_of statements) ≡ false
  pub few_props : length (props_of statements) ≤ prop_limit
  pub known : list_all (is_known (uses_of statements) (vars_of statements) (props_of statements)) statements ≡ true
  pub once : has_two says_again statements ≡ false
  pub late : list_any is_late statements ≡ ends_late statements

-- what a reader gives is that, seen as `show` says, where memory is there
abbrev pub GivesAs : {T U : Type 0} → (T → U) → Result T Stop → Result U FileFault → Type 0
GivesAs show (Ok t) outcome = outcome ≡ Ok (show t)
GivesAs show (Err (File fault)) outcome = outcome ≡ Err fault
GivesAs show (Err Memory) outcome = Unit {0}
