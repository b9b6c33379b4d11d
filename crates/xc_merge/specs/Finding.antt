-- The faults of a viewpoint, as the code comes to them. No public clause rests on these words.
use Rattle.std.specs.Prelude.{◌≡◌, ℕ, Bool, ◌-◌, if◌then◌else◌, ◌==◌, length, List, [], ◌∷◌, ◌++◌, map, Result, Ok, Err}
use Rattle.std.specs.List.{flat_map, list_all, range_with_len}
use Rattle.std.specs.Option.{is_none}
use Rattle.xc_base.specs.Names.{is_among, name_at}
use Rattle.xc_forms.specs.Variables.{values_at}
use Rattle.xc_forms.specs.declared.domain.Domain.{Domain}
use Rattle.xc_view.specs.ViewFiles.{ViewValue}
use Rattle.xc_view.specs.declared.lines.PropLine.{PropLine}
use Rattle.xc_view.specs.declared.lines.Command.{Command}
use Rattle.xc_sigmap_lines.specs.MapFiles.{MapValue}
use Rattle.xc_sigmap_lines.specs.declared.parts.Carry.{Carry}
use Rattle.xc_sigmap_lines.specs.declared.parts.SendLine.{SendLine}
use Rattle.xc_sigmap_lines.specs.declared.parts.Stutter.{Stutter}
use Rattle.xc_sigmap_lines.specs.declared.parts.Tell.{Tell}
use Rattle.xc_merge.specs.Merges.{Merge, Viewpoint, viewpoint_at}
use Rattle.xc_merge.specs.Projections.{carried_word}
use Rattle.xc_merge.specs.MergedFrames.{line_of}
use Rattle.xc_merge.specs.Faults.{IsFirstOf, unknown_in_line, told_faults, is_fed, value_faults, send_faults, tell_faults, stutter_faults, variable_faults, prop_faults, viewpoint_faults}
use Rattle.xc_merge.specs.declared.fault.MergeFault.{MergeFault}
use Rattle.xc_merge.specs.declared.fault.MergeFault.TheVariants.{UnknownValue, UnknownName, NotTotal}

-- what a search of some faults comes to: there are none, or the first of them, or no memory
abbrev pub Finds : {X : Type 0} → List MergeFault → Result X MergeFault → Type 0
Finds faults (Ok done) = faults ≡ []
Finds faults (Err fault) = IsFirstOf faults fault

-- a value that is not among some names, and a name that is not
abbrev pub value_fault : List ℕ → List (List ℕ) → List ℕ → List MergeFault
value_fault viewpoint names word = if is_among names word then [] else UnknownValue viewpoint word ∷ []

abbrev pub name_fault : List ℕ → List (List ℕ) → List ℕ → List MergeFault
name_fault viewpoint names word = if is_among names word then [] else UnknownName viewpoint word ∷ []

-- the same for each item of a list
unfoldable pub prop_values : List ℕ → List (List ℕ) → List PropLine → List MergeFault
prop_values viewpoint names lines = flat_map (λ (l : PropLine). value_fault viewpoint names l.value) lines

unfoldable pub command_values : List ℕ → List (List ℕ) → List Command → List MergeFault
command_values viewpoint names commands = flat_map (λ (c : Command). value_fault viewpoint names c.value) commands

unfoldable pub pair_names : List ℕ → List (List ℕ) → List Carry → List MergeFault
pair_names viewpoint values pairs = flat_map (λ (c : Carry). name_fault viewpoint values c.word) pairs

-- the faults of a line of the map, where it is on viewpoint v
abbrev pub sent_by : List ℕ → ℕ → ViewValue → SendLine → List MergeFault
sent_by viewpoint v view l = if l.viewpoint == v then map (UnknownName viewpoint) (unknown_in_line view l) else []

unfoldable pub sent : List ℕ → ℕ → ViewValue → List SendLine → List MergeFault
sent viewpoint v view lines = flat_map (sent_by viewpoint v view) lines

abbrev pub told_by : List ℕ → ℕ → Viewpoint → Tell → List MergeFault
told_by viewpoint v p l = if l.viewpoint == v then told_faults viewpoint p l.told else []

unfoldable pub told : List ℕ → ℕ → Viewpoint → List Tell → List MergeFault
told viewpoint v p lines = flat_map (told_by viewpoint v p) lines

abbrev pub stuttered_by : List ℕ → ℕ → List (List ℕ) → Stutter → List MergeFault
stuttered_by viewpoint v names l = if l.viewpoint == v then value_fault viewpoint names l.value else []

unfoldable pub stuttered : List ℕ → ℕ → List (List ℕ) → List Stutter → List MergeFault
stuttered viewpoint v names lines = flat_map (stuttered_by viewpoint v names) lines

-- a variable that is not fed, and a proposition that is not told
abbrev pub unfed_by : List ℕ → MapValue → ℕ → Domain → List MergeFault
unfed_by viewpoint plan v d = if is_fed plan v d then [] else NotTotal viewpoint d.name ∷ []

unfoldable pub unfed : List ℕ → MapValue → ℕ → List Domain → List MergeFault
unfed viewpoint plan v vars = flat_map (unfed_by viewpoint plan v) vars

abbrev pub untold_by : List ℕ → MapValue → ℕ → ℕ → List MergeFault
untold_by viewpoint plan v k = if is_none (line_of plan v k) then NotTotal viewpoint (name_at plan.props k) ∷ [] else []

unfoldable pub untold : List ℕ → MapValue → ℕ → ℕ → ℕ → List MergeFault
untold viewpoint plan v k count = flat_map (untold_by viewpoint plan v) (range_with_len k count)

-- the faults of some viewpoints, from number v on
unfoldable pub faults_from : Merge → ℕ → ℕ → List MergeFault
faults_from m v count = flat_map (λ v. viewpoint_faults m.plan v (viewpoint_at m v)) (range_with_len v count)

-- whether a line carries each value from one on to a value of the viewpoint's variable
unfoldable pub carries_from : MapValue → Domain → SendLine → ℕ → Bool
carries_from plan d line value = list_all (λ k. is_among d.values (carried_word plan line k)) (range_with_len value (length (values_at plan.vars line.from) - value))

-- the faults of a viewpoint in three parts
abbrev pub named_faults : MapValue → ℕ → Viewpoint → List MergeFault
named_faults plan v p = value_faults plan v p ++ send_faults plan v p

abbrev pub told_or_stuttered_faults : MapValue → ℕ → Viewpoint → List MergeFault
told_or_stuttered_faults plan v p = tell_faults plan v p ++ stutter_faults plan v p

abbrev pub total_faults : MapValue → ℕ → Viewpoint → List MergeFault
total_faults plan v p = variable_faults plan v p ++ prop_faults plan v
