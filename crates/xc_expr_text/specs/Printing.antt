-- How guards and actions are printed: as they are written, with names in place of variables and values.
use Rattle.std.specs.Prelude.{◌≡◌, ℕ, Bool, true, false, ◌||◌, List, [], ◌∷◌, ◌++◌, map, codes}
use Rattle.xc_base.specs.Names.{name_at}
use Rattle.xc_base.specs.Words.{is_word}
use Rattle.xc_base.specs.declared.lines.Lexeme.{Lexeme}
use Rattle.xc_forms.specs.Variables.{names_of, values_at}
use Rattle.xc_expr.specs.Tests.{Test}
use Rattle.xc_expr.specs.Tests as tests
use Rattle.xc_expr.specs.Written.{Written, True, False, Equal, Unequal, Not, And, Or, Assigned, To, Next, Prev, Any}
use Rattle.xc_forms.specs.declared.domain.Domain.{Domain}
use Rattle.xc_expr.specs.declared.assign.Assign.{Assign}
use Rattle.xc_expr.specs.declared.assign.Assign.TheVariants as assigns

-- the name of a variable, and that of a value which it has
abbrev pub variable_name : List Domain → ℕ → List ℕ
variable_name vars x = name_at (names_of vars) x

abbrev pub value_name : List Domain → ℕ → ℕ → List ℕ
value_name vars x v = name_at (values_at vars x) v

-- the guard that says a test by names
abbrev pub named_guard : List Domain → Test → Written
named_guard vars tests.True = True
named_guard vars tests.False = False
named_guard vars (tests.Is x v) = Equal (variable_name vars x) (value_name vars x v)
named_guard vars (tests.IsNot x v) = Unequal (variable_name vars x) (value_name vars x v)
named_guard vars (tests.Same x y) = Equal (variable_name vars x) (variable_name vars y)
named_guard vars (tests.Differ x y) = Unequal (variable_name vars x) (variable_name vars y)
named_guard vars (tests.Not t) = Not (named_guard vars t)
named_guard vars (tests.And t u) = And (named_guard vars t) (named_guard vars u)
named_guard vars (tests.Or t u) = Or (named_guard vars t) (named_guard vars u)

-- the action that says assignments by names
abbrev pub named_assignment : List Domain → Assign → Assigned
named_assignment vars (assigns.Value x v) = To (variable_name vars x) (value_name vars x v)
named_assignment vars (assigns.Copy x y) = To (variable_name vars x) (variable_name vars y)
named_assignment vars (assigns.Next x y) = Next (variable_name vars x) (variable_name vars y)
named_assignment vars (assigns.Prev x y) = Prev (variable_name vars x) (variable_name vars y)
named_assignment vars (assigns.Any x) = Any (variable_name vars x)

abbrev pub named_action : List Domain → List Assign → List Assigned
named_action vars action = map (named_assignment vars) action

-- whether two guards stand in it with `&` between them, with `|`, or with either
abbrev pub is_and : Written → Bool
is_and (And g h) = true
is_and _ = false

abbrev pub is_or : Written → Bool
is_or (Or g h) = true
is_or _ = false

abbrev pub is_joined : Written → Bool
is_joined g = is_and g || is_or g

-- brackets where they are needed
abbrev pub bracketed : Bool → List (List ℕ) → List (List ℕ)
bracketed true tokens = codes "(" ∷ tokens ++ codes ")" ∷ []
bracketed false tokens = tokens

-- What binds less than the operator above it gets brackets. So does a right operand with the operator itself, since that
-- groups to the left.
abbrev pub guard_tokens : Written → List (List ℕ)
guard_tokens True = codes "true" ∷ []
guard_tokens False = codes "false" ∷ []
guard_tokens (Equal x w) = x ∷ codes "=" ∷ w ∷ []
guard_tokens (Unequal x w) = x ∷ codes "!=" ∷ w ∷ []
guard_tokens (Not g) = codes "!" ∷ bracketed (is_joined g) (guard_tokens g)
guard_tokens (And g h) = bracketed (is_or g) (guard_tokens g) ++ codes "&" ∷ bracketed (is_joined h) (guard_tokens h)
guard_tokens (Or g h) = guard_tokens g ++ codes "|" ∷ bracketed (is_or h) (guard_tokens h)

-- each token says rightly whether it is a word
unfoldable pub AreMarked : List Lexeme → Type 0
AreMarked tokens = map (λ (x : Lexeme). x.word) tokens ≡ map (λ (x : Lexeme). is_word x.text.now) tokens
