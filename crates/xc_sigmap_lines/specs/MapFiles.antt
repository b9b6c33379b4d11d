-- Map files: their statements, and what they say.
use Rattle.std.specs.Prelude.{◌≡◌, ℕ, ◌+◌, Bool, true, false, ◌&&◌, ◌||◌, not, nat_lt, if◌then◌else◌, List, [], ◌∷◌, length, map, Option, Some, None, codes}
use Rattle.std.specs.List.{list_any, list_all, filter_map}
use Rattle.std.specs.Str.{bytes_eq}
use Rattle.xc_base.specs.Words.{is_name, is_file_word}
use Rattle.xc_base.specs.Names.{is_among, has_twice, place_of}
use Rattle.xc_base.specs.Formats.{Format, Excess}
use Rattle.xc_base.specs.declared.fault.Part.{Part}
use Rattle.xc_base.specs.declared.fault.Part.TheVariants as parts
use Rattle.xc_base.specs.declared.fault.Counted.TheVariants as counted
use Rattle.xc_forms.specs.Variables.{names_of, sizes_of, values_at}
use Rattle.xc_forms.specs.declared.domain.Domain.{Domain}
use Rattle.xc_forms.specs.VariableLines.{var_tokens, is_var_line, is_var_again, var_excess, line_excess}
use Rattle.xc_sigmap_lines.specs.declared.parts.Use as viewpoints
use Rattle.xc_sigmap_lines.specs.declared.parts.Carry.{Carry}
use Rattle.xc_sigmap_lines.specs.declared.parts.SendLine.{SendLine}
use Rattle.xc_sigmap_lines.specs.declared.parts.Told.{Told}
use Rattle.xc_sigmap_lines.specs.declared.parts.Told.TheVariants.{Named, Constant}
use Rattle.xc_sigmap_lines.specs.declared.parts.Tell as tellings
use Rattle.xc_sigmap_lines.specs.declared.parts.Stutter as stutters
use Rattle.xc_sigmap_lines.specs.declared.statement.Pair.{Pair}
use Rattle.xc_sigmap_lines.specs.declared.statement.Statement.{Statement}
use Rattle.xc_sigmap_lines.specs.declared.statement.Statement.TheVariants.{Map, Use, Var, Prop, Send, Tell, Stutter}

-- the words of formulas, which no proposition has as its name
abbrev pub formula_words : List (List ℕ)
formula_words =
    codes "true" ∷ codes "false" ∷ codes "EX" ∷ codes "AX" ∷ codes "EF" ∷ codes "AF" ∷ codes "EG" ∷ codes "AG" ∷ codes "E" ∷ codes "A" ∷ codes "U" ∷ []

abbrev pub is_prop_name : List ℕ → Bool
is_prop_name text = is_name text && not (is_among formula_words text)

-- `m=v` for each pair
abbrev pub pair_tokens : List Pair → List (List ℕ)
pair_tokens [] = []
pair_tokens (p ∷ more) = p.from ∷ codes "=" ∷ p.to ∷ pair_tokens more

-- a proposition's name alone, or a value behind `as`
abbrev pub told_tokens : Told → List (List ℕ)
told_tokens (Named name) = name ∷ []
told_tokens (Constant value) = codes "as" ∷ value ∷ []

-- the tokens of a statement
abbrev pub spelling : Statement → List (List ℕ)
spelling (Map name) = codes "map" ∷ name ∷ []
spelling (Use u) = codes "use" ∷ u.name ∷ u.file ∷ []
spelling (Var d) = var_tokens d
spelling (Prop name) = codes "prop" ∷ name ∷ []
spelling (Send viewpoint variable source pairs) = codes "send" ∷ viewpoint ∷ variable ∷ source ∷ pair_tokens pairs
spelling (Tell viewpoint prop told) = codes "tell" ∷ viewpoint ∷ prop ∷ told_tokens told
spelling (Stutter viewpoint value) = codes "stutter" ∷ viewpoint ∷ value ∷ []

abbrev pub is_named_pair : Pair → Bool
is_named_pair p = is_name p.from && is_name p.to

abbrev pub told_word : Told → List ℕ
told_word (Named name) = name
told_word (Constant value) = value

-- whether it has words of their kinds where it wants them, one value or more of a variable
abbrev pub has_names : Statement → Bool
has_names (Map name) = is_name name
has_names (Use u) = is_name u.name && is_file_word u.file
has_names (Var d) = is_var_line d
has_names (Prop name) = is_prop_name name
has_names (Send viewpoint variable source pairs) = is_name viewpoint && is_name variable && is_name source && list_all is_named_pair pairs
has_names (Tell viewpoint prop told) = is_name viewpoint && is_name prop && is_name (told_word told)
has_names (Stutter viewpoint value) = is_name viewpoint && is_name value

abbrev pub is_map : Statement → Bool
is_map (Map name) = true
is_map _ = false

abbrev pub is_use : Statement → Bool
is_use (Use u) = true
is_use _ = false

abbrev pub is_var : Statement → Bool
is_var (Var d) = true
is_var _ = false

abbrev pub is_prop : Statement → Bool
is_prop (Prop name) = true
is_prop _ = false

-- whether a statement says what a viewpoint sends or tells, or its stutter value
abbrev pub is_late : Statement → Bool
is_late (Map name) = false
is_late (Use u) = false
is_late (Var d) = false
is_late (Prop name) = false
is_late (Send viewpoint variable source pairs) = true
is_late (Tell viewpoint prop told) = true
is_late (Stutter viewpoint value) = true

-- What may stand behind a statement: viewpoints behind the name, then variables, then propositions, if any, and then all else in
-- any order.
abbrev pub may_follow : Statement → Statement → Bool
may_follow (Map name) s = is_use s
may_follow (Use u) s = is_use s || is_var s
may_follow (Var d) s = is_var s || is_prop s || is_late s
may_follow (Prop name) s = is_prop s || is_late s
may_follow (Send viewpoint variable source pairs) s = is_late s
may_follow (Tell viewpoint prop told) s = is_late s
may_follow (Stutter viewpoint value) s = is_late s

-- the last of a statement and those behind it
abbrev pub last_of : Statement → List Statement → Statement
last_of s [] = s
last_of s (t ∷ more) = last_of t more

-- the map's name comes first
abbrev pub is_due : List Statement → Statement → Bool
is_due [] s = is_map s
is_due (t ∷ more) s = may_follow (last_of t more) s

pub record IsDue (before : List Statement) (tokens : List (List ℕ)) (s : Statement) : Type 0 where
  pub spelled : tokens ≡ spelling s
  pub named : has_names s ≡ true
  pub placed : is_due before s ≡ true

-- the viewpoints, the variables and the propositions of the statements, in order
abbrev pub use_in : Statement → Option viewpoints.Use
use_in (Use u) = Some u
use_in _ = None

abbrev pub var_in : Statement → Option Domain
var_in (Var d) = Some d
var_in _ = None

abbrev pub prop_in : Statement → Option (List ℕ)
prop_in (Prop name) = Some name
prop_in _ = None

abbrev pub uses_of : List Statement → List viewpoints.Use
uses_of statements = filter_map use_in statements

abbrev pub vars_of : List Statement → List Domain
vars_of statements = filter_map var_in statements

abbrev pub props_of : List Statement → List (List ℕ)
props_of statements = filter_map prop_in statements

abbrev pub use_names : List viewpoints.Use → List (List ℕ)
use_names uses = map (λ (u : viewpoints.Use). u.name) uses

-- the values that pairs carry
abbrev pub carried_names : List Pair → List (List ℕ)
carried_names pairs = map (λ (p : Pair). p.from) pairs

-- whether the first says what the second said: where a viewpoint reads its variable from, what it tells of a proposition, and
-- its stutter value are each said once
abbrev pub says_again : Statement → Statement → Bool
says_again (Send viewpoint variable source pairs) (Send other its from_ carried) = bytes_eq viewpoint other && bytes_eq variable its
says_again (Tell viewpoint prop told) (Tell other its tells) = bytes_eq viewpoint other && bytes_eq prop its
says_again (Stutter viewpoint value) (Stutter other its) = bytes_eq viewpoint other
says_again _ _ = false

-- what was declared before, a value twice in a variable or in pairs, or what was said before
abbrev pub is_repeated : List Statement → Statement → Bool
is_repeated before (Map name) = false
is_repeated before (Use u) = is_among (use_names (uses_of before)) u.name
is_repeated before (Var d) = is_var_again (vars_of before) d
is_repeated before (Prop name) = is_among (props_of before) name
is_repeated before (Send viewpoint variable source pairs) = list_any (says_again (Send viewpoint variable source pairs)) before || has_twice (carried_names pairs)
is_repeated before (Tell viewpoint prop told) = list_any (says_again (Tell viewpoint prop told)) before
is_repeated before (Stutter viewpoint value) = list_any (says_again (Stutter viewpoint value)) before

-- whether there is a viewpoint of the name
abbrev pub has_use : List Statement → List ℕ → Bool
has_use before name = is_among (use_names (uses_of before)) name

-- the values of the variable of a name
abbrev pub values_named : List Domain → List ℕ → List (List ℕ)
values_named vars name = values_at vars (place_of (names_of vars) name)

-- whether there is a variable of the name, with all the values that pairs carry
abbrev pub has_source : List Statement → List ℕ → List Pair → Bool
has_source before source pairs = is_among (names_of (vars_of before)) source && list_all (is_among (values_named (vars_of before) source)) (carried_names pairs)

-- a viewpoint that is not used, a variable, a value of it or a proposition that is not declared
abbrev pub is_unknown : List Statement → Statement → Bool
is_unknown before (Map name) = false
is_unknown before (Use u) = false
is_unknown before (Var d) = false
is_unknown before (Prop name) = false
is_unknown before (Send viewpoint variable source pairs) = not (has_use before viewpoint && has_source before source pairs)
is_unknown before (Tell viewpoint prop told) = not (has_use before viewpoint && is_among (props_of before) prop)
is_unknown before (Stutter viewpoint value) = not (has_use before viewpoint)

-- how many viewpoints and how many propositions a map may have
abbrev pub use_limit : ℕ
use_limit = 8

abbrev pub prop_limit : ℕ
prop_limit = 256

abbrev pub excess_of : List Statement → Statement → Option Excess
excess_of before (Map name) = None
excess_of before (Use u) = line_excess use_limit (length (uses_of before)) (record { what = counted.Uses; found = length (uses_of before) + 1 })
excess_of before (Var d) = var_excess (sizes_of (vars_of before)) (length d.values)
excess_of before (Prop name) = line_excess prop_limit (length (props_of before)) (record { what = counted.Props; found = length (props_of before) + 1 })
excess_of before (Send viewpoint variable source pairs) = None
excess_of before (Tell viewpoint prop told) = None
excess_of before (Stutter viewpoint value) = None

-- the name, then a viewpoint, then a variable
abbrev pub later_part : List Statement → Option Part
later_part statements =
    if not (nat_lt 0 (length (uses_of statements))) then Some parts.Uses else
    if not (nat_lt 0 (length (vars_of statements))) then Some parts.Var else None

abbrev pub missing_part : List Statement → Option Part
missing_part [] = Some parts.Head
missing_part (s ∷ more) = later_part (s ∷ more)

-- What a map file says. A viewpoint, a variable of the map, its values and its propositions are named by their places; what a
-- viewpoint has of its own stays a word, since the file does not say what there is.
pub record MapValue : Type 0 where
  pub name : List ℕ
  pub uses : List viewpoints.Use
  pub vars : List Domain
  pub props : List (List ℕ)
  pub sends : List SendLine
  pub tells : List tellings.Tell
  pub stutters : List stutters.Stutter

-- the name in the first statement that gives one
abbrev pub first_name : List Statement → List ℕ
first_name [] = []
first_name (Map name ∷ more) = name
first_name (s ∷ more) = first_name more

-- what a pair carries, of a variable with these values
abbrev pub carry : List (List ℕ) → Pair → Carry
carry values p = record { value = place_of values p.from; word = p.to }

-- what each statement says of what viewpoints send, of what they tell and of their stutter values, in order
abbrev pub sends_of : List viewpoints.Use → List Domain → List Statement → List SendLine
sends_of uses vars [] = []
sends_of uses vars (Send viewpoint variable source pairs ∷ more) =
    record { viewpoint = place_of (use_names uses) viewpoint; variable = variable; from = place_of (names_of vars) source; pairs = map (carry (values_named vars source)) pairs }
    ∷ sends_of uses vars more
sends_of uses vars (s ∷ more) = sends_of uses vars more

abbrev pub tells_of : List viewpoints.Use → List (List ℕ) → List Statement → List tellings.Tell
tells_of uses props [] = []
tells_of uses props (Tell viewpoint prop told ∷ more) = record { viewpoint = place_of (use_names uses) viewpoint; prop = place_of props prop; told = told } ∷ tells_of uses props more
tells_of uses props (s ∷ more) = tells_of uses props more

abbrev pub stutters_of : List viewpoints.Use → List Statement → List stutters.Stutter
stutters_of uses [] = []
stutters_of uses (Stutter viewpoint value ∷ more) = record { viewpoint = place_of (use_names uses) viewpoint; value = value } ∷ stutters_of uses more
stutters_of uses (s ∷ more) = stutters_of uses more

-- what the statements of a file say
abbrev pub map_of : List Statement → MapValue
map_of statements =
    record {
      name = first_name statements;
      uses = uses_of statements;
      vars = vars_of statements;
      props = props_of statements;
      sends = sends_of (uses_of statements) (vars_of statements) statements;
      tells = tells_of (uses_of statements) (props_of statements) statements;
      stutters = stutters_of (uses_of statements) statements;
    }

abbrev pub map_format : Format Statement MapValue
map_format = record { Due = IsDue; repeated = is_repeated; unknown = is_unknown; count = excess_of; missing = missing_part; Says = λ statements v. v ≡ map_of statements }
