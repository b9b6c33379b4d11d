-- Which statement of a map file a row is.
-- Words for the steps of the code: clauses on files do not rest on them.
use Rattle.std.specs.Prelude.{ℕ, Bool, ◌&&◌, if◌then◌else◌, List, [], ◌∷◌, Option, Some, None, codes}
use Rattle.std.specs.Option.{option_map}
use Rattle.std.specs.Str.{bytes_eq}
use Rattle.xc_base.specs.Words.{is_name, is_file_word}
use Rattle.xc_forms.specs.VariableReading as forms
use Rattle.xc_sigmap_lines.specs.declared.parts.Told.{Told}
use Rattle.xc_sigmap_lines.specs.declared.parts.Told.TheVariants.{Named, Constant}
use Rattle.xc_sigmap_lines.specs.declared.statement.Pair.{Pair}
use Rattle.xc_sigmap_lines.specs.declared.statement.Statement.{Statement}
use Rattle.xc_sigmap_lines.specs.declared.statement.Statement.TheVariants.{Map, Use, Var, Prop, Send, Tell, Stutter}
use Rattle.xc_sigmap_lines.specs.MapFiles.{is_prop_name, is_due}

-- the statement, where the test says so
abbrev pub given : Bool → Statement → Option Statement
given b s = if b then Some s else None

-- The tokens behind the first word: the map's name.
abbrev pub map_line : List (List ℕ) → Option Statement
map_line (name ∷ []) = given (is_name name) (Map name)
map_line _ = None

-- a viewpoint and its file
abbrev pub use_line : List (List ℕ) → Option Statement
use_line (name ∷ file ∷ []) = given (is_name name && is_file_word file) (Use (record { name = name; file = file }))
use_line _ = None

-- a variable's name, and one value or more
abbrev pub var_line : List (List ℕ) → Option Statement
var_line tokens = option_map Var (forms.var_line tokens)

-- a proposition
abbrev pub prop_line : List (List ℕ) → Option Statement
prop_line (name ∷ []) = given (is_prop_name name) (Prop name)
prop_line _ = None

-- whether three tokens are a pair
abbrev pub is_pair : List ℕ → List ℕ → List ℕ → Bool
is_pair value mark word = bytes_eq mark (codes "=") && is_name value && is_name word

-- the pair that the first three are
abbrev pub first_pair : List (List ℕ) → Option Pair
first_pair (value ∷ mark ∷ word ∷ more) = if is_pair value mark word then Some (record { from = value; to = word }) else None
first_pair _ = None

-- pairs and nothing else
abbrev pub pairs_in : List (List ℕ) → Option (List Pair)
pairs_in [] = Some []
pairs_in (value ∷ []) = None
pairs_in (value ∷ mark ∷ []) = None
pairs_in (value ∷ mark ∷ word ∷ more) = if is_pair value mark word then option_map (λ (pairs : List Pair). record { from = value; to = word } ∷ pairs) (pairs_in more) else None

-- a viewpoint, its variable, a variable of the map, and pairs
abbrev pub send_parts : List ℕ → List ℕ → List ℕ → List (List ℕ) → Option Statement
send_parts viewpoint variable source tokens = if is_name viewpoint && is_name variable && is_name source then option_map (Send viewpoint variable source) (pairs_in tokens) else None

abbrev pub send_line : List (List ℕ) → Option Statement
send_line [] = None
send_line (viewpoint ∷ []) = None
send_line (viewpoint ∷ variable ∷ []) = None
send_line (viewpoint ∷ variable ∷ source ∷ tokens) = send_parts viewpoint variable source tokens

-- a proposition's name, or `as` and a value
abbrev pub named_told : List ℕ → Option Told
named_told name = if is_name name then Some (Named name) else None

abbrev pub constant_told : List ℕ → List ℕ → Option Told
constant_told mark value = if bytes_eq mark (codes "as") && is_name value then Some (Constant value) else None

abbrev pub told_in : List (List ℕ) → Option Told
told_in [] = None
told_in (name ∷ []) = named_told name
told_in (mark ∷ value ∷ []) = constant_told mark value
told_in (mark ∷ value ∷ other ∷ more) = None

-- a viewpoint, a proposition, and what it tells of it
abbrev pub tell_line : List (List ℕ) → Option Statement
tell_line (viewpoint ∷ prop ∷ tokens) = if is_name viewpoint && is_name prop then option_map (Tell viewpoint prop) (told_in tokens) else None
tell_line _ = None

-- a viewpoint and a value
abbrev pub stutter_line : List (List ℕ) → Option Statement
stutter_line (viewpoint ∷ value ∷ []) = given (is_name viewpoint && is_name value) (Stutter viewpoint value)
stutter_line _ = None

-- what a row is, by its first word
unfoldable pub word_line : List ℕ → List (List ℕ) → Option Statement
word_line word tokens =
    if bytes_eq word (codes "map") then map_line tokens else
    if bytes_eq word (codes "use") then use_line tokens else
    if bytes_eq word (codes "var") then var_line tokens else
    if bytes_eq word (codes "prop") then prop_line tokens else
    if bytes_eq word (codes "send") then send_line tokens else
    if bytes_eq word (codes "tell") then tell_line tokens else
    if bytes_eq word (codes "stutter") then stutter_line tokens else None

-- the statement that the tokens of a row are
unfoldable pub line : List (List ℕ) → Option Statement
line [] = None
line (word ∷ tokens) = word_line word tokens

-- the statement, where it is due after the statements before it
abbrev pub placed : List Statement → Option Statement → Option Statement
placed before None = None
placed before (Some s) = given (is_due before s) s

-- the statement that a row with these tokens is after the statements before it
unfoldable pub decide : List Statement → List (List ℕ) → Option Statement
decide before tokens = placed before (line tokens)
