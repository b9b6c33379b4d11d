-- The stages that load nothing: the merge, and the limit of states.
use Rattle.std.proofs.Common.{◌≡◌, ℕ, ◌<◌, ◌≤◌, List, Some, None, ap, subst, arith}
use Rattle.std.specs.Option.{option_map}
use Rattle.std.specs.String.{string_bytes}
use Rattle.std.specs.declared.alloc.Global.{Global}
use Rattle.std.specs.declared.string.String.{String}
use Rattle.std.proofs.lemmas.Bool.{lt-ltb}
use Rattle.xc_sigmap_lines.specs.MapFiles.{MapValue}
use Rattle.xc_merge.specs.Merges.{Merge, Viewpoint}
use Rattle.xc_merge.specs.Faults.{merge_fault, IsRefusal}
use Rattle.xc_merge.specs.Projections.{states_of}
use Rattle.xc_merge.specs.declared.fault.MergeFault.{MergeFault}
use Rattle.xc_merge.specs.declared.fault.MergeFault.TheVariants.{UnknownValue, UnknownName, NotTotal, Elements, NoInitial, Initial}
use Rattle.xc_merge.specs.declared.fault.MergeFault.TheVariants as faults
use Rattle.xc_lines.specs.Refusals.{IsMergeLine}
use Rattle.xc_lines.specs.Texts.{merge_line, states_line}
use Rattle.xc_lines.specs.declared.halt.Halt.TheVariants.{Refused, Memory}
use Rattle.xc_course.specs.Trees.{Merges, Within, states_refusal}
use Rattle.xc_course.specs.Works.{GoesOnAlways, StopsAlways, Works}
use Rattle.xc_course.proofs.Working.{goes_unless, stops_unless, wants}

abbrev pub merging : MapValue → List Viewpoint → Merge
merging plan found = record { plan = plan; viewpoints = found }

module _ (plan : MapValue) (found : List Viewpoint) where
  -- viewpoints that merge
  pub merge_goes_on : (m : Merge) → m ≡ merging plan found → merge_fault (merging plan found) ≡ None → GoesOnAlways (Merges plan found) m
  merge_goes_on m is none = λ now next after out out_after result h.
      goes_unless (option_map merge_line (merge_fault (merging plan found))) (next (merging plan found)) now after out out_after result (ap (option_map merge_line) none)
      (subst (λ (x : Merge). Works (next x) now after out out_after result) is h)

  refused_by : (fault : MergeFault) (line : String Global) → merge_fault (merging plan found) ≡ Some fault → string_bytes line ≡ merge_line fault → StopsAlways (Merges plan found) (Refused line)
  refused_by fault line some is = λ now next out.
      stops_unless (option_map merge_line (merge_fault (merging plan found))) (next (merging plan found)) (merge_line fault) now out line (ap (option_map merge_line) some) is

  -- and viewpoints that do not
  pub merge_stops : (fault : MergeFault) (line : String Global) → IsRefusal (merging plan found) fault → IsMergeLine fault (string_bytes line) → StopsAlways (Merges plan found) (Refused line)
  merge_stops (UnknownValue viewpoint value) line some is = refused_by (UnknownValue viewpoint value) line some is
  merge_stops (UnknownName viewpoint name) line some is = refused_by (UnknownName viewpoint name) line some is
  merge_stops (NotTotal viewpoint name) line some is = refused_by (NotTotal viewpoint name) line some is
  merge_stops (Elements count) line some is = refused_by (Elements count) line some is
  merge_stops NoInitial line some is = refused_by NoInitial line some is
  merge_stops (Initial count) line some is = refused_by (Initial count) line some is
  merge_stops faults.Memory line some is = absurd is

-- memory runs out at a stage that loads nothing
pub merge_wants : (plan : MapValue) (found : List Viewpoint) → StopsAlways (Merges plan found) Memory
merge_wants plan found = λ now next out. wants (Merges plan found next) now out

pub within_wants : (most : ℕ) (m : Merge) → StopsAlways (Within most m) Memory
within_wants most m = λ now next out. wants (Within most m next) now out

-- few states
few_states : (most : ℕ) (m : Merge) → states_of m.plan ≤ most → states_refusal most m ≡ None
few_states most m few = grind (arith)

pub within_goes_on : (most : ℕ) (m : Merge) → states_of m.plan ≤ most → GoesOnAlways (Within most m) tt
within_goes_on most m few = λ now next after out out_after result h. goes_unless (states_refusal most m) (next tt) now after out out_after result (few_states most m few) h

-- too many
many_states : (most : ℕ) (m : Merge) → most < states_of m.plan → states_refusal most m ≡ Some (states_line (states_of m.plan))
many_states most m many = rw (lt-ltb most (states_of m.plan) many)

pub within_stops : (most count : ℕ) (m : Merge) (line : String Global) → count ≡ states_of m.plan → most < count → string_bytes line ≡ states_line count → StopsAlways (Within most m) (Refused line)
within_stops most count m line counted many is = λ now next out.
    let more : most < states_of m.plan = subst (λ (n : ℕ). most < n) counted many in
    let told : string_bytes line ≡ states_line (states_of m.plan) = subst (λ (n : ℕ). string_bytes line ≡ states_line n) counted is in
    stops_unless (states_refusal most m) (next tt) (states_line (states_of m.plan)) now out line (many_states most m more) told
