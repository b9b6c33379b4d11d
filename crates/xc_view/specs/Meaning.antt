-- The transitions and the propositions of a view: what its commands and lines give at states.
use Rattle.std.specs.Prelude.{ℕ, Bool, ◌&&◌, List, map, filter}
use Rattle.std.specs.Str.{bytes_eq}
use Rattle.xc_theory.specs.Bounds.{join_of}
use Rattle.xc_theory.specs.Codes.{digits}
use Rattle.xc_base.specs.Names.{place_of}
use Rattle.xc_forms.specs.Variables.{sizes_of}
use Rattle.xc_expr.specs.Tests.{holds_at}
use Rattle.xc_expr.specs.Actions.{allows}
use Rattle.xc_view.specs.ViewFiles.{PropValue, CommandValue, ViewValue}

-- the places of the variables at a state
abbrev pub row_at : ViewValue → ℕ → List ℕ
row_at v s = digits (sizes_of v.vars) s

-- whether a command's guard holds at s and its action goes from s to t
abbrev pub leads : ViewValue → ℕ → ℕ → CommandValue → Bool
leads v s t c = holds_at c.guard (row_at v s) && allows (sizes_of v.vars) c.action (row_at v s) (row_at v t)

-- the values of the commands that lead from s to t, in their order
abbrev pub step_words : ViewValue → ℕ → ℕ → List (List ℕ)
step_words v s t = map (λ (c : CommandValue). c.value) (filter (leads v s t) v.commands)

-- whether a line is of that proposition and holds at s
abbrev pub tells : ViewValue → List ℕ → ℕ → PropValue → Bool
tells v name s l = bytes_eq name l.name && holds_at l.guard (row_at v s)

-- the values of the lines of a proposition that hold at s, in their order
abbrev pub prop_words : ViewValue → List ℕ → ℕ → List (List ℕ)
prop_words v name s = map (λ (l : PropValue). l.value) (filter (tells v name s) v.props)

-- the least upper bound of the elements of these names, in a lattice with that order and these names of elements
abbrev pub join_named : List (List Bool) → List (List ℕ) → List (List ℕ) → ℕ
join_named order names words = join_of order (map (place_of names) words)

-- the value of the step from s to t, and that of a proposition at s
abbrev pub step_value : List (List Bool) → List (List ℕ) → ViewValue → ℕ → ℕ → ℕ
step_value order names v s t = join_named order names (step_words v s t)

abbrev pub prop_value_at : List (List Bool) → List (List ℕ) → ViewValue → List ℕ → ℕ → ℕ
prop_value_at order names v name s = join_named order names (prop_words v name s)

-- whether a state is initial
abbrev pub is_initial : ViewValue → ℕ → Bool
is_initial v s = holds_at v.init (row_at v s)
