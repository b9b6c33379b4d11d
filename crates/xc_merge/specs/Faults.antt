-- Why viewpoints do not merge: what is looked for, viewpoint after viewpoint, and then the limits of the machine.
use Rattle.std.specs.Prelude.{◌≡◌, ℕ, Bool, false, not, nat_lt, ◌==◌, if◌then◌else◌, List, [], ◌∷◌, ◌++◌, length, map, filter, find, Option, Some, None}
use Rattle.std.specs.List.{flat_map, list_all, range_with_len}
use Rattle.std.specs.Option.{is_none}
use Rattle.xc_theory.specs.Codes.{total}
use Rattle.xc_alg.specs.Products.{sizes}
use Rattle.xc_base.specs.Names.{is_among, name_at}
use Rattle.xc_forms.specs.Variables.{names_of, values_at}
use Rattle.xc_expr.specs.Called.{is_called}
use Rattle.xc_forms.specs.declared.domain.Domain.{Domain}
use Rattle.xc_view.specs.ViewFiles.{ViewValue, PropValue, CommandValue}
use Rattle.xc_sigmap_lines.specs.MapFiles.{MapValue}
use Rattle.xc_sigmap_lines.specs.declared.parts.Carry.{Carry}
use Rattle.xc_sigmap_lines.specs.declared.parts.SendLine.{SendLine}
use Rattle.xc_sigmap_lines.specs.declared.parts.Tell.{Tell}
use Rattle.xc_sigmap_lines.specs.declared.parts.Told.{Told}
use Rattle.xc_sigmap_lines.specs.declared.parts.Told.TheVariants.{Named, Constant}
use Rattle.xc_merge.specs.Merges.{Merge, Viewpoint, viewpoint_at, name_of, parts_of}
use Rattle.xc_merge.specs.Projections.{line_for, carried_word}
use Rattle.xc_merge.specs.MergedFrames.{line_of, stutter_words, initials_of}
use Rattle.xc_merge.specs.declared.fault.MergeFault.{MergeFault}
use Rattle.xc_merge.specs.declared.fault.MergeFault.TheVariants.{UnknownValue, UnknownName, NotTotal, Elements, NoInitial, Initial, Memory}

-- those of some words that are not among some names
abbrev pub missing : List (List ℕ) → List (List ℕ) → List (List ℕ)
missing names words = filter (λ word. not (is_among names word)) words

-- the values of a view's lines of propositions, and then of its commands, that are no elements of its lattice
abbrev pub value_words : ViewValue → List (List ℕ)
value_words view = map (λ (l : PropValue). l.value) view.props ++ map (λ (c : CommandValue). c.value) view.commands

abbrev pub value_faults : MapValue → ℕ → Viewpoint → List MergeFault
value_faults plan v p = map (UnknownValue (name_of plan v)) (missing p.lattice.names (value_words p.view))

-- the values of the variable of that name
abbrev pub values_of : Option Domain → List (List ℕ)
values_of None = []
values_of (Some d) = d.values

abbrev pub values_named : List Domain → List ℕ → List (List ℕ)
values_named vars name = values_of (find (is_called name) vars)

-- in a line on a viewpoint's variable: that there is no such variable, or the words of its pairs that are no values of it
abbrev pub unknown_in_line : ViewValue → SendLine → List (List ℕ)
unknown_in_line view line =
    if is_among (names_of view.vars) line.variable
    then missing (values_named view.vars line.variable) (map (λ (c : Carry). c.word) line.pairs)
    else line.variable ∷ []

abbrev pub send_faults : MapValue → ℕ → Viewpoint → List MergeFault
send_faults plan v p = map (UnknownName (name_of plan v)) (flat_map (unknown_in_line p.view) (filter (λ (l : SendLine). l.viewpoint == v) plan.sends))

-- a proposition that is told and has no line in the view, or a constant that is no element
abbrev pub told_faults : List ℕ → Viewpoint → Told → List MergeFault
told_faults viewpoint p (Named name) = map (UnknownName viewpoint) (missing (map (λ (l : PropValue). l.name) p.view.props) (name ∷ []))
told_faults viewpoint p (Constant word) = map (UnknownValue viewpoint) (missing p.lattice.names (word ∷ []))

abbrev pub tell_faults : MapValue → ℕ → Viewpoint → List MergeFault
tell_faults plan v p = flat_map (λ (l : Tell). told_faults (name_of plan v) p l.told) (filter (λ (l : Tell). l.viewpoint == v) plan.tells)

-- a stutter value that is no element
abbrev pub stutter_faults : MapValue → ℕ → Viewpoint → List MergeFault
stutter_faults plan v p = map (UnknownValue (name_of plan v)) (missing p.lattice.names (stutter_words plan v))

-- whether a line carries each value of the map's variable to a value of the viewpoint's
abbrev pub carries_all : MapValue → Domain → SendLine → Bool
carries_all plan d line = list_all (λ value. is_among d.values (carried_word plan line value)) (range_with_len 0 (length (values_at plan.vars line.from)))

abbrev pub is_fed_by : MapValue → Domain → Option SendLine → Bool
is_fed_by plan d None = false
is_fed_by plan d (Some line) = carries_all plan d line

abbrev pub is_fed : MapValue → ℕ → Domain → Bool
is_fed plan v d = is_fed_by plan d (line_for plan v d.name)

-- the variables that no line feeds, or not with each value
abbrev pub variable_faults : MapValue → ℕ → Viewpoint → List MergeFault
variable_faults plan v p = map (λ (d : Domain). NotTotal (name_of plan v) d.name) (filter (λ (d : Domain). not (is_fed plan v d)) p.view.vars)

-- the map's propositions that the viewpoint does not tell
abbrev pub prop_faults : MapValue → ℕ → List MergeFault
prop_faults plan v = map (λ k. NotTotal (name_of plan v) (name_at plan.props k)) (filter (λ k. is_none (line_of plan v k)) (range_with_len 0 (length plan.props)))

-- all that is wrong with one viewpoint, in the order in which it is looked for
abbrev pub viewpoint_faults : MapValue → ℕ → Viewpoint → List MergeFault
viewpoint_faults plan v p = value_faults plan v p ++ send_faults plan v p ++ tell_faults plan v p ++ stutter_faults plan v p ++ variable_faults plan v p ++ prop_faults plan v

-- with all of them, one viewpoint after another
unfoldable pub all_faults : Merge → List MergeFault
all_faults m = flat_map (λ v. viewpoint_faults m.plan v (viewpoint_at m v)) (range_with_len 0 (length m.viewpoints))

-- how many elements the product of the lattices may have, and how many initial states there may be
abbrev pub element_limit : ℕ
element_limit = 4096

abbrev pub initial_limit : ℕ
initial_limit = 4096

abbrev pub initial_fault : ℕ → Option MergeFault
initial_fault count = if count == 0 then Some NoInitial else if nat_lt initial_limit count then Some (Initial count) else None

-- too many elements, then no initial state, then too many
abbrev pub limit_fault : Merge → Option MergeFault
limit_fault m = if nat_lt element_limit (total (sizes (parts_of m))) then Some (Elements (total (sizes (parts_of m)))) else initial_fault (length (initials_of m))

-- the first fault of some, and else a later one
abbrev pub first_of : List MergeFault → Option MergeFault → Option MergeFault
first_of [] later = later
first_of (fault ∷ more) later = Some fault

-- why the viewpoints do not merge, where they do not
abbrev pub merge_fault : Merge → Option MergeFault
merge_fault m = first_of (all_faults m) (limit_fault m)

-- whether viewpoints may be refused so: with their first fault, or out of memory
abbrev pub IsRefusal : Merge → MergeFault → Type 0
IsRefusal m Memory = Unit {0}
IsRefusal m fault = merge_fault m ≡ Some fault

-- whether a search of some faults may end so: with the first of them, or out of memory
abbrev pub IsFirstOf : List MergeFault → MergeFault → Type 0
IsFirstOf faults (UnknownValue viewpoint value) = first_of faults None ≡ Some (UnknownValue viewpoint value)
IsFirstOf faults (UnknownName viewpoint name) = first_of faults None ≡ Some (UnknownName viewpoint name)
IsFirstOf faults (NotTotal viewpoint name) = first_of faults None ≡ Some (NotTotal viewpoint name)
IsFirstOf faults Memory = Unit {0}
IsFirstOf _ _ = ⊥
