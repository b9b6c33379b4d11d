-- Viewpoint files and what views mean at small cases whose values are known from outside: a wrong definition does not check here.
use Rattle.std.proofs.Common.{◌≡◌, ℕ, Bool, true, false, List, [], ◌∷◌, ◌++◌, replicate, Some, None, Err, codes, refl}
use Rattle.xc_theory.specs.Bounds.{first_join}
use Rattle.xc_base.specs.Deciding.{line_of, statements_of, file_of, statement_fault}
use Rattle.xc_base.specs.Formats.{Row}
use Rattle.xc_base.specs.declared.fault.FileFault.TheVariants.{NoStatement, Repeated, Unknown, Count, Missing}
use Rattle.xc_base.specs.declared.fault.Part.TheVariants as parts
use Rattle.xc_base.specs.declared.fault.Counted.TheVariants as counted
use Rattle.xc_base.specs.Operators.{chained, chain, chain_up_to}
use Rattle.xc_grammar.specs.Reading.{level_by, whole_by, basic, whole_at, tree_in}
use Rattle.xc_expr.specs.GuardReading.{atom}
use Rattle.xc_expr.specs.ActionReading.{assignment_in, assignments_in}
use Rattle.xc_expr.specs.Reading.{guard_in, action_in}
use Rattle.xc_expr.specs.Tests as tests
use Rattle.xc_expr.specs.declared.assign.Assign.TheVariants as assigns
use Rattle.xc_forms.specs.VariableLines.{var_excess}
use Rattle.xc_view.specs.ViewFiles.{ViewValue, missing_part, view_format}
use Rattle.xc_view_lines.specs.ViewLines.{View, Lattice, Var}
use Rattle.xc_view.specs.Deciding.{decide}
use Rattle.xc_view_lines.specs.LineReading.{line, word_line, command_parts}
use Rattle.xc_view.specs.Printing.{view_lines}
use Rattle.xc_view.specs.Writable.{is_writable}
use Rattle.xc_view.specs.Meaning.{step_words, prop_words, step_value, prop_value_at, is_initial}

abbrev o : List ℕ
o = codes "0"

abbrev i : List ℕ
i = codes "1"

abbrev M : List ℕ
M = codes "M"

abbrev T : List ℕ
T = codes "T"

abbrev x : List ℕ
x = codes "x"

-- Bob: from 0 to 1 with M, from 1 to 0 with T, and p where x is 1
abbrev bob : ViewValue
bob =
    record {
      name = codes "bob";
      lattice = codes "chain.lat";
      vars = record { name = x; values = o ∷ i ∷ [] } ∷ [];
      init = tests.Is 0 0;
      props = record { name = codes "p"; value = T; guard = tests.Is 0 1 } ∷ [];
      commands = record { name = codes "go"; value = M; guard = tests.Is 0 0; action = assigns.Value 0 1 ∷ [] } ∷ record { name = codes "back"; value = T; guard = tests.Is 0 1; action = assigns.Value 0 0 ∷ [] } ∷ [];
    }

-- F below M below T
abbrev chain_order : List (List Bool)
chain_order = (true ∷ true ∷ true ∷ []) ∷ (false ∷ true ∷ true ∷ []) ∷ (false ∷ false ∷ true ∷ []) ∷ []

abbrev names : List (List ℕ)
names = codes "F" ∷ M ∷ T ∷ []

-- the steps and the proposition of Bob, by their words and by their elements
pub words_of_bob : (step_words bob 0 1 ≡ M ∷ []) × (step_words bob 1 0 ≡ T ∷ []) × (step_words bob 0 0 ≡ []) × (prop_words bob (codes "p") 1 ≡ T ∷ []) × (prop_words bob (codes "q") 1 ≡ [])
words_of_bob = (refl, refl, refl, refl, refl)

pub values_of_bob : (step_value chain_order names bob 0 1 ≡ 1) × (step_value chain_order names bob 1 0 ≡ 2) × (step_value chain_order names bob 1 1 ≡ 0) × (prop_value_at chain_order names bob (codes "p") 1 ≡ 2) × (prop_value_at chain_order names bob (codes "p") 0 ≡ 0)
unfolding first_join
values_of_bob = (refl, refl, refl, refl, refl)

pub initial_of_bob : (is_initial bob 0 ≡ true) × (is_initial bob 1 ≡ false)
initial_of_bob = (refl, refl)

-- of two commands that lead the values are joined: with a second one of T from 0 to 1 the step is T
pub joined : step_value chain_order names (record bob { commands = record { name = codes "go"; value = M; guard = tests.True; action = assigns.Any 0 ∷ [] } ∷ record { name = codes "run"; value = T; guard = tests.Is 0 0; action = assigns.Value 0 1 ∷ [] } ∷ [] }) 0 1 ≡ 2
unfolding first_join
joined = refl

-- the rows of a file, numbered from 1 on
abbrev head : List Row
head =
    record { number = 1; tokens = codes "view" ∷ codes "bob" ∷ [] } ∷ record { number = 2; tokens = codes "lattice" ∷ codes "chain.lat" ∷ [] }
    ∷ record { number = 3; tokens = codes "var" ∷ x ∷ o ∷ i ∷ [] } ∷ []

abbrev with_line : List (List ℕ) → List Row
with_line tokens = head ++ record { number = 4; tokens = tokens } ∷ []

-- what the fourth line may be refused for: no statement, said again, unknown, and repeated before unknown
pub fourth_lines : (file_of view_format decide (with_line (codes "init" ∷ x ∷ [])) ≡ Err (NoStatement 4)) × (file_of view_format decide (with_line (codes "var" ∷ x ∷ o ∷ i ∷ [])) ≡ Err (Repeated 4))
    × (file_of view_format decide (with_line (codes "init" ∷ x ∷ codes "=" ∷ codes "2" ∷ [])) ≡ Err (Unknown 4)) × (file_of view_format decide (with_line (codes "view" ∷ x ∷ [])) ≡ Err (NoStatement 4))
    × (file_of view_format decide (with_line (codes "command" ∷ codes "c" ∷ codes "with" ∷ T ∷ codes "when" ∷ codes "true" ∷ codes "do" ∷ x ∷ codes ":=" ∷ codes "y" ∷ codes ";" ∷ x ∷ codes ":=" ∷ o ∷ [])) ≡ Err (Repeated 4))
    × (file_of view_format decide (with_line (codes "var" ∷ codes "y" ∷ o ∷ [])) ≡ Err (Count 4 counted.Values 1)) × (file_of view_format decide head ≡ Err (Missing parts.Init))
unfolding file_of statements_of line_of statement_fault decide line word_line command_parts guard_in tree_in whole_at whole_by level_by basic atom action_in assignments_in assignment_in chained chain chain_up_to
fourth_lines = (refl, refl, refl, refl, refl, refl, refl)

-- the limits: a 257th line, values from 2 to 16, and states before none of these
pub limits : (var_excess [] 1 ≡ Some (record { what = counted.Values; found = 1 })) × (var_excess [] 16 ≡ None) × (var_excess [] 17 ≡ Some (record { what = counted.Values; found = 17 }))
    × (var_excess (replicate 19 2) 2 ≡ None) × (var_excess (replicate 20 2) 2 ≡ Some (record { what = counted.States; found = 2097152 }))
limits = (refl, refl, refl, refl, refl)

-- what a file lacks, in its order
pub lacking : (missing_part [] ≡ Some parts.Head) × (missing_part (View x ∷ []) ≡ Some parts.Lattice) × (missing_part (View x ∷ Lattice x ∷ []) ≡ Some parts.Var) × (missing_part (View x ∷ Lattice x ∷ Var (record { name = x; values = o ∷ i ∷ [] }) ∷ []) ≡ Some parts.Init)
lacking = (refl, refl, refl, refl)

-- the lines of Bob's canonical text, and those of a view with two variables, two lines of a proposition and no command
pub lines_of_bob : view_lines bob
    ≡ (codes "view" ∷ codes "bob" ∷ []) ∷ (codes "lattice" ∷ codes "chain.lat" ∷ []) ∷ (codes "var" ∷ x ∷ o ∷ i ∷ []) ∷ (codes "init" ∷ x ∷ codes "=" ∷ o ∷ [])
    ∷ (codes "prop" ∷ codes "p" ∷ T ∷ codes "when" ∷ x ∷ codes "=" ∷ i ∷ [])
    ∷ (codes "command" ∷ codes "go" ∷ codes "with" ∷ M ∷ codes "when" ∷ x ∷ codes "=" ∷ o ∷ codes "do" ∷ x ∷ codes ":=" ∷ i ∷ [])
    ∷ (codes "command" ∷ codes "back" ∷ codes "with" ∷ T ∷ codes "when" ∷ x ∷ codes "=" ∷ i ∷ codes "do" ∷ x ∷ codes ":=" ∷ o ∷ []) ∷ []
lines_of_bob = refl

abbrev quiet : ViewValue
quiet =
    record bob {
      vars = record { name = x; values = o ∷ i ∷ [] } ∷ record { name = codes "y"; values = T ∷ o ∷ [] } ∷ [];
      init = tests.Not (tests.Is 1 0);
      props = record { name = codes "q"; value = M; guard = tests.True } ∷ record { name = codes "p"; value = T; guard = tests.IsNot 0 1 } ∷ [];
      commands = [];
    }

pub lines_of_quiet : view_lines quiet
    ≡ (codes "view" ∷ codes "bob" ∷ []) ∷ (codes "lattice" ∷ codes "chain.lat" ∷ []) ∷ (codes "var" ∷ x ∷ o ∷ i ∷ []) ∷ (codes "var" ∷ codes "y" ∷ T ∷ o ∷ [])
    ∷ (codes "init" ∷ codes "!" ∷ codes "y" ∷ codes "=" ∷ T ∷ [])
    ∷ (codes "prop" ∷ codes "q" ∷ M ∷ codes "when" ∷ codes "true" ∷ []) ∷ (codes "prop" ∷ codes "p" ∷ T ∷ codes "when" ∷ x ∷ codes "!=" ∷ i ∷ []) ∷ []
lines_of_quiet = refl

-- y has the values x and 0 like x, so that x is a value and a variable: a comparison of y with x can't be written, the other way round it can
abbrev taken : ViewValue
taken = record bob { vars = record { name = x; values = x ∷ o ∷ [] } ∷ record { name = codes "y"; values = x ∷ o ∷ [] } ∷ []; init = tests.Same 0 1; props = []; commands = [] }

pub written : (is_writable bob ≡ true) × (is_writable quiet ≡ true) × (is_writable taken ≡ true) × (is_writable (record taken { init = tests.Same 1 0 }) ≡ false)
    × (is_writable (record taken { props = record { name = codes "p"; value = T; guard = tests.True } ∷ record { name = codes "p"; value = T; guard = tests.Differ 1 0 } ∷ [] }) ≡ false)
    × (is_writable (record taken { commands = record { name = codes "go"; value = T; guard = tests.Same 1 0; action = [] } ∷ [] }) ≡ false)
    × (is_writable (record taken { commands = record { name = codes "go"; value = T; guard = tests.True; action = assigns.Copy 1 0 ∷ [] } ∷ [] }) ≡ false)
    × (is_writable (record taken { commands = record { name = codes "go"; value = T; guard = tests.True; action = assigns.Copy 0 1 ∷ [] } ∷ [] }) ≡ true)
written = (refl, refl, refl, refl, refl, refl, refl, refl)
