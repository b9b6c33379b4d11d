-- Why viewpoints do not merge, at small cases whose answers are known from outside: a wrong definition does not check here.
use Rattle.std.proofs.Common.{◌≡◌, ℕ, Bool, true, false, List, [], ◌∷◌, ◌++◌, replicate, Option, Some, None, codes, refl, ap}
use Rattle.std.proofs.lemmas.Bool.{false≢true}
use Rattle.xc_expr.specs.Tests as tests
use Rattle.xc_forms.specs.declared.domain.Domain.{Domain}
use Rattle.xc_view.specs.ViewFiles.{ViewValue}
use Rattle.xc_sigmap_lines.specs.MapFiles.{MapValue}
use Rattle.xc_sigmap_lines.specs.declared.parts.SendLine.{SendLine}
use Rattle.xc_sigmap_lines.specs.declared.parts.Told.TheVariants.{Named, Constant}
use Rattle.xc_merge.specs.Merges.{Merge, Viewpoint, nobody}
use Rattle.xc_merge.specs.MergedFrames.{initials_of}
use Rattle.xc_merge.specs.Faults.{missing, value_words, value_faults, values_named, unknown_in_line, send_faults, told_faults, tell_faults, stutter_faults, carries_all, is_fed, variable_faults, prop_faults, viewpoint_faults, all_faults, initial_fault, limit_fault, first_of, merge_fault, IsRefusal, IsFirstOf}
use Rattle.xc_merge.specs.declared.fault.MergeFault.{MergeFault}
use Rattle.xc_merge.specs.declared.fault.MergeFault.TheVariants.{UnknownValue, UnknownName, NotTotal, Elements, NoInitial, Initial, Memory}
use Rattle.xc_merge.proofs.Facts.{F, T, of_two, of_chain, of_diamond, gate_line, light_line, plan, house}

abbrev zed : List ℕ
zed = codes "zed"

abbrev y : Domain
y = record { name = codes "y"; values = codes "no" ∷ codes "yes" ∷ [] }

-- a viewpoint with two values of propositions that are none of its lattice's, and one of a command
abbrev odd : ViewValue
odd =
    record {
      name = codes "odd";
      lattice = codes "two.lat";
      vars = y ∷ record { name = codes "z"; values = codes "no" ∷ codes "yes" ∷ [] } ∷ [];
      init = tests.True;
      props = record { name = codes "q"; value = codes "V"; guard = tests.True } ∷ record { name = codes "q"; value = T; guard = tests.True } ∷ record { name = codes "r"; value = codes "U"; guard = tests.True } ∷ [];
      commands = record { name = codes "c"; value = codes "W"; guard = tests.True; action = [] } ∷ [];
    }

abbrev first : Viewpoint
first = record { view = odd; lattice = of_two }

-- one that merges, but for what the map says of it
abbrev second : Viewpoint
second = record { view = record odd { vars = []; props = []; commands = [] }; lattice = of_chain }

-- A map that calls the first viewpoint zed. Its lines on zed: a word that is no value of y, a variable that is none, with a word that is not looked at, and a word once more; a constant that is no element,
-- a proposition that is none, and a stutter value. The lines on the second viewpoint are as odd.
abbrev wrong : MapValue
wrong =
    record plan {
      uses = record { name = zed; file = codes "odd.view" } ∷ record { name = codes "two"; file = codes "two.view" } ∷ [];
      vars = record { name = codes "x"; values = codes "no" ∷ codes "yes" ∷ [] } ∷ record { name = codes "u"; values = codes "yes" ∷ codes "no" ∷ codes "never" ∷ [] } ∷ [];
      props = codes "p" ∷ codes "s" ∷ codes "t" ∷ [];
      sends =
          record { viewpoint = 0; variable = codes "y"; from = 0; pairs = record { value = 1; word = codes "yes" } ∷ record { value = 0; word = codes "maybe" } ∷ [] } ∷ record { viewpoint = 1; variable = codes "v"; from = 0; pairs = [] }
          ∷ record { viewpoint = 0; variable = codes "w"; from = 0; pairs = record { value = 0; word = codes "perhaps" } ∷ [] } ∷ record { viewpoint = 0; variable = codes "z"; from = 1; pairs = record { value = 0; word = codes "often" } ∷ [] } ∷ [];
      tells =
          record { viewpoint = 0; prop = 1; told = Constant (codes "M") } ∷ record { viewpoint = 1; prop = 0; told = Constant (codes "M") } ∷ record { viewpoint = 0; prop = 0; told = Named (codes "x") } ∷ [];
      stutters = record { viewpoint = 1; value = codes "S" } ∷ record { viewpoint = 0; value = codes "R" } ∷ [];
    }

-- words that are no names, in their order; values of propositions before those of commands
pub words : (missing (F ∷ T ∷ []) (codes "M" ∷ T ∷ codes "N" ∷ []) ≡ codes "M" ∷ codes "N" ∷ []) × (value_words odd ≡ codes "V" ∷ T ∷ codes "U" ∷ codes "W" ∷ []) × (values_named odd.vars (codes "y") ≡ y.values) × (values_named odd.vars (codes "x") ≡ [])
words = (refl, refl, refl, refl)

-- each kind of fault by itself
pub of_values : value_faults wrong 0 first ≡ UnknownValue zed (codes "V") ∷ UnknownValue zed (codes "U") ∷ UnknownValue zed (codes "W") ∷ []
of_values = refl

pub of_lines : (unknown_in_line odd (record { viewpoint = 0; variable = codes "y"; from = 0; pairs = record { value = 1; word = codes "on" } ∷ record { value = 0; word = codes "no" } ∷ record { value = 0; word = codes "off" } ∷ [] }) ≡ codes "on" ∷ codes "off" ∷ [])
    × (send_faults wrong 0 first ≡ UnknownName zed (codes "maybe") ∷ UnknownName zed (codes "w") ∷ UnknownName zed (codes "often") ∷ []) × (send_faults wrong 1 second ≡ UnknownName (codes "two") (codes "v") ∷ [])
of_lines = (refl, refl, refl)

pub of_tellings : (told_faults zed first (Named (codes "r")) ≡ []) × (told_faults zed first (Constant (codes "q")) ≡ UnknownValue zed (codes "q") ∷ []) × (told_faults zed first (Named T) ≡ UnknownName zed T ∷ []) × (told_faults zed first (Constant T) ≡ [])
    × (tell_faults wrong 0 first ≡ UnknownValue zed (codes "M") ∷ UnknownName zed (codes "x") ∷ []) × (tell_faults wrong 1 second ≡ []) × (stutter_faults wrong 0 first ≡ UnknownValue zed (codes "R") ∷ []) × (stutter_faults plan 2 first ≡ [])
of_tellings = (refl, refl, refl, refl, refl, refl, refl, refl)

-- a variable of three values is fed to one of two only where a pair carries the third
pub of_totals : (carries_all wrong y (record { viewpoint = 0; variable = codes "y"; from = 1; pairs = record { value = 2; word = codes "no" } ∷ [] }) ≡ true) × (carries_all wrong y (record { viewpoint = 0; variable = codes "y"; from = 1; pairs = [] }) ≡ false)
    × (carries_all plan y (record { viewpoint = 0; variable = codes "y"; from = 0; pairs = record { value = 1; word = codes "no" } ∷ [] }) ≡ false) × (is_fed wrong 0 y ≡ false) × (is_fed wrong 0 (record y { values = codes "maybe" ∷ codes "yes" ∷ [] }) ≡ true) × (is_fed wrong 1 y ≡ false)
    × (variable_faults wrong 0 first ≡ NotTotal zed (codes "y") ∷ NotTotal zed (codes "z") ∷ []) × (prop_faults wrong 0 ≡ NotTotal zed (codes "t") ∷ []) × (prop_faults wrong 1 ≡ NotTotal (codes "two") (codes "s") ∷ NotTotal (codes "two") (codes "t") ∷ [])
of_totals = (refl, refl, refl, refl, refl, refl, refl, refl, refl)

-- all of a viewpoint in their order
abbrev first_faults : List MergeFault
first_faults =
    UnknownValue zed (codes "V") ∷ UnknownValue zed (codes "U") ∷ UnknownValue zed (codes "W") ∷ UnknownName zed (codes "maybe") ∷ UnknownName zed (codes "w") ∷ UnknownName zed (codes "often") ∷ UnknownValue zed (codes "M") ∷ UnknownName zed (codes "x")
    ∷ UnknownValue zed (codes "R") ∷ NotTotal zed (codes "y") ∷ NotTotal zed (codes "z") ∷ NotTotal zed (codes "t") ∷ []

pub of_viewpoint : viewpoint_faults wrong 0 first ≡ first_faults
of_viewpoint = refl

-- and of one viewpoint after the other
pub of_all : (all_faults (record { plan = wrong; viewpoints = first ∷ second ∷ [] }) ≡ first_faults ++ (UnknownName (codes "two") (codes "v") ∷ UnknownValue (codes "two") (codes "S") ∷ NotTotal (codes "two") (codes "s") ∷ NotTotal (codes "two") (codes "t") ∷ []))
    × (merge_fault (record { plan = wrong; viewpoints = first ∷ second ∷ [] }) ≡ Some (UnknownValue zed (codes "V")))
unfolding all_faults
of_all = (refl, refl)

-- the house merges
pub merges : (all_faults house ≡ []) × (limit_fault house ≡ None) × (merge_fault house ≡ None)
unfolding all_faults initials_of
merges = (refl, refl, refl)

abbrev with_gate : SendLine → Merge
with_gate line = record house { plan = record plan { sends = record { viewpoint = 0; variable = codes "door"; from = 0; pairs = [] } ∷ record { viewpoint = 0; variable = codes "lamp"; from = 1; pairs = [] } ∷ line ∷ record { viewpoint = 1; variable = codes "lamp"; from = 1; pairs = [] } ∷ light_line ∷ [] } }

abbrev cat_tells_light_alone : Merge
cat_tells_light_alone = record house { plan = record plan { tells = record { viewpoint = 0; prop = 0; told = Named (codes "lit") } ∷ record { viewpoint = 0; prop = 1; told = Named (codes "safe") } ∷ record { viewpoint = 1; prop = 0; told = Named (codes "shining") } ∷ record { viewpoint = 1; prop = 1; told = Named (codes "safe") } ∷ record { viewpoint = 2; prop = 0; told = Named (codes "lit") } ∷ [] } }

-- Without its pair the gate is not fed with `shut`. A line on `gat` is refused for its name before the gate that is not fed then.
pub refused : (merge_fault (with_gate gate_line) ≡ None) × (merge_fault (with_gate (record gate_line { pairs = [] })) ≡ Some (NotTotal (codes "ben") (codes "gate"))) × (merge_fault (with_gate (record gate_line { variable = codes "gat" })) ≡ Some (UnknownName (codes "ben") (codes "gat")))
    × (merge_fault cat_tells_light_alone ≡ Some (NotTotal (codes "cat") (codes "safe")))
unfolding all_faults initials_of
refused = (refl, refl, refl, refl)

-- some viewpoints that see nothing, over the diamond and over two
abbrev over : ℕ → ℕ → tests.Test → Merge
over fours twos init = record { plan = record plan { props = []; sends = []; tells = []; stutters = [] }; viewpoints = replicate fours (record { view = record nobody.view { init = init }; lattice = of_diamond }) ++ replicate twos (record { view = record nobody.view { init = init }; lattice = of_two }) }

-- 4,096 elements are not too many, and 8,192 are, whatever is initial
pub limits : (merge_fault (over 6 0 tests.True) ≡ None) × (merge_fault (over 6 1 tests.True) ≡ Some (Elements 8192)) × (merge_fault (over 6 0 tests.False) ≡ Some NoInitial) × (merge_fault (over 6 1 tests.False) ≡ Some (Elements 8192))
unfolding all_faults initials_of
limits = (refl, refl, refl, refl)

-- and 4,096 initial states are not too many
pub initial_limits : (initial_fault 0 ≡ Some NoInitial) × (initial_fault 1 ≡ None) × (initial_fault 4096 ≡ None) × (initial_fault 4097 ≡ Some (Initial 4097))
initial_limits = (refl, refl, refl, refl)

-- the first of some faults, and then a later one
pub firsts : (first_of (NoInitial ∷ Elements 1 ∷ []) None ≡ Some NoInitial) × (first_of (NoInitial ∷ []) (Some (Elements 1)) ≡ Some NoInitial) × (first_of [] (Some (Elements 1)) ≡ Some (Elements 1)) × (first_of [] None ≡ None)
firsts = (refl, refl, refl, refl)

-- what is no refusal: another fault than the first, and any where there is none, but for being out of memory
pub refusals : IsRefusal (over 6 1 tests.True) (Elements 8192) × IsRefusal (over 6 0 tests.False) NoInitial × IsRefusal house Memory × IsFirstOf (UnknownName F T ∷ NotTotal F T ∷ []) (UnknownName F T) × IsFirstOf [] Memory
unfolding all_faults initials_of
refusals = (refl, refl, tt, refl, tt)

pub no_refusal : IsRefusal house NoInitial → ⊥
unfolding all_faults initials_of
no_refusal h = false≢true (ap is_some h)
  where
    is_some : Option MergeFault → Bool
    is_some None = false
    is_some (Some fault) = true

pub not_first : IsFirstOf (UnknownName F T ∷ NotTotal F T ∷ []) (NotTotal F T) → ⊥
not_first h = false≢true (ap is_total h)
  where
    is_total : Option MergeFault → Bool
    is_total (Some (NotTotal viewpoint name)) = true
    is_total _ = false

pub no_limit_first : IsFirstOf (Elements 1 ∷ []) (Elements 1) → ⊥
no_limit_first h = h
