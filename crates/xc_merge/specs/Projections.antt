-- What a viewpoint sees of a state of the merged machine.
use Rattle.std.specs.Prelude.{ℕ, Bool, ◌&&◌, ◌==◌, List, map, find, slice_index, Option, Some, None, unwrap_or, option_map}
use Rattle.std.specs.Str.{bytes_eq}
use Rattle.xc_theory.specs.Codes.{total, digits, code_of}
use Rattle.xc_base.specs.Names.{name_at, place_of}
use Rattle.xc_forms.specs.Variables.{sizes_of, values_at}
use Rattle.xc_forms.specs.declared.domain.Domain.{Domain}
use Rattle.xc_sigmap_lines.specs.MapFiles.{MapValue}
use Rattle.xc_sigmap_lines.specs.declared.parts.Carry.{Carry}
use Rattle.xc_sigmap_lines.specs.declared.parts.SendLine.{SendLine}
use Rattle.xc_merge.specs.Merges.{Viewpoint}

-- how many states the merged machine has: a state is a code of one place for each variable of the map
abbrev pub states_of : MapValue → ℕ
states_of plan = total (sizes_of plan.vars)

-- the places of the map's variables at a state
abbrev pub row_of : MapValue → ℕ → List ℕ
row_of plan s = digits (sizes_of plan.vars) s

-- the line that says where viewpoint v reads its variable of that name from
abbrev pub sends : ℕ → List ℕ → SendLine → Bool
sends v name line = (line.viewpoint == v) && bytes_eq name line.variable

abbrev pub line_for : MapValue → ℕ → List ℕ → Option SendLine
line_for plan v name = find (sends v name) plan.sends

-- the word that a line carries a value to: that of the value's pair, where it has one, and else its own name
abbrev pub pair_for : SendLine → ℕ → Option Carry
pair_for line value = find (λ (c : Carry). c.value == value) line.pairs

abbrev pub carried_word : MapValue → SendLine → ℕ → List ℕ
carried_word plan line value = unwrap_or (option_map (λ (c : Carry). c.word) (pair_for line value)) (name_at (values_at plan.vars line.from) value)

-- the place in a viewpoint's variable that a value of the map's variable is carried to
abbrev pub carried_place : MapValue → SendLine → Domain → ℕ → ℕ
carried_place plan line d value = place_of d.values (carried_word plan line value)

-- the map's variable that feeds a variable of viewpoint v, and where it carries a value of its own (In a merge without faults each
-- variable is fed, and each value is carried to a value.)
abbrev pub source_in : Option SendLine → ℕ
source_in None = 0
source_in (Some line) = line.from

abbrev pub carried_in : MapValue → Domain → ℕ → Option SendLine → ℕ
carried_in plan d value None = 0
carried_in plan d value (Some line) = carried_place plan line d value

abbrev pub source : MapValue → ℕ → Domain → ℕ
source plan v d = source_in (line_for plan v d.name)

abbrev pub carried : MapValue → ℕ → Domain → ℕ → ℕ
carried plan v d value = carried_in plan d value (line_for plan v d.name)

-- the place of a viewpoint's variable where the map's variables have those of the row
abbrev pub place_seen : MapValue → ℕ → List ℕ → Domain → ℕ
place_seen plan v row d = carried plan v d (slice_index row (source plan v d))

-- the places of a viewpoint's variables where the map's have those of the row
abbrev pub row_seen : MapValue → ℕ → Viewpoint → List ℕ → List ℕ
row_seen plan v p row = map (place_seen plan v row) p.view.vars

-- the viewpoint's state that is seen of a merged state
abbrev pub projection : MapValue → ℕ → Viewpoint → ℕ → ℕ
projection plan v p s = code_of (sizes_of p.view.vars) (row_seen plan v p (row_of plan s))
