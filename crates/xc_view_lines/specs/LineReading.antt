-- Which statement of a viewpoint file the tokens of a line are.
use Rattle.std.specs.Prelude.{ℕ, ◌+◌, Bool, ◌&&◌, if◌then◌else◌, List, [], ◌∷◌, take, drop, Option, Some, None, codes}
use Rattle.std.specs.List.{position}
use Rattle.std.specs.Option.{option_map}
use Rattle.std.specs.Str.{bytes_eq}
use Rattle.xc_base.specs.Words.{is_name, is_file_word}
use Rattle.xc_forms.specs.VariableReading as forms
use Rattle.xc_expr.specs.Resolving.{both}
use Rattle.xc_expr.specs.Reading.{guard_in, action_in}
use Rattle.xc_view_lines.specs.ViewLines.{Statement, View, Lattice, Var, Init, Prop, Command}

-- the statement, where the test says so
abbrev pub given : Bool → Statement → Option Statement
given b s = if b then Some s else None

-- The tokens behind the first word: the view's name.
abbrev pub view_line : List (List ℕ) → Option Statement
view_line (name ∷ []) = given (is_name name) (View name)
view_line _ = None

-- its lattice's file word
abbrev pub lattice_line : List (List ℕ) → Option Statement
lattice_line (file ∷ []) = given (is_file_word file) (Lattice file)
lattice_line _ = None

-- a variable's name, and one value or more
abbrev pub var_line : List (List ℕ) → Option Statement
var_line tokens = option_map Var (forms.var_line tokens)

-- a guard
abbrev pub init_line : List (List ℕ) → Option Statement
init_line tokens = option_map Init (guard_in tokens)

-- a proposition's name, its value, `when` and a guard
abbrev pub prop_line : List (List ℕ) → Option Statement
prop_line (name ∷ value ∷ when ∷ tokens) = if bytes_eq when (codes "when") && is_name name && is_name value then option_map (Prop name value) (guard_in tokens) else None
prop_line _ = None

-- a command's guard stands before the first `do`, and its action behind it
abbrev pub command_at : List ℕ → List ℕ → List (List ℕ) → Option ℕ → Option Statement
command_at name value tokens None = None
command_at name value tokens (Some place) = both (Command name value) (guard_in (take place tokens)) (action_in (drop (place + 1) tokens))

-- the same, at the first `do`
unfoldable pub command_parts : List ℕ → List ℕ → List (List ℕ) → Option Statement
command_parts name value tokens = command_at name value tokens (position (bytes_eq (codes "do")) tokens)

-- whether what stands before a command's guard is right
abbrev pub are_command_words : List ℕ → List ℕ → List ℕ → List ℕ → Bool
are_command_words name with value when = bytes_eq with (codes "with") && bytes_eq when (codes "when") && is_name name && is_name value

-- a command's name, its value, a guard and an action, with the words between them
abbrev pub command_line : List (List ℕ) → Option Statement
command_line (name ∷ with ∷ value ∷ when ∷ tokens) = if are_command_words name with value when then command_parts name value tokens else None
command_line _ = None

-- what a row is, by its first word
unfoldable pub word_line : List ℕ → List (List ℕ) → Option Statement
word_line word tokens =
    if bytes_eq word (codes "view") then view_line tokens else
    if bytes_eq word (codes "lattice") then lattice_line tokens else
    if bytes_eq word (codes "var") then var_line tokens else
    if bytes_eq word (codes "init") then init_line tokens else
    if bytes_eq word (codes "prop") then prop_line tokens else
    if bytes_eq word (codes "command") then command_line tokens else None

-- the statement that the tokens of a row are
unfoldable pub line : List (List ℕ) → Option Statement
line [] = None
line (word ∷ tokens) = word_line word tokens
