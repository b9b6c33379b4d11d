-- Merged machines at small cases whose values are known from outside: a wrong definition does not check here.
use Rattle.std.proofs.Common.{◌≡◌, ℕ, true, false, List, [], ◌∷◌, map, Some, None, codes, refl}
use Rattle.xc_theory.specs.Bounds.{first_join}
use Rattle.xc_theory.proofs.Facts.{two, chain, diamond}
use Rattle.xc_lattice.specs.LatticeFiles.{LatticeValue}
use Rattle.xc_lattice.specs.Values.{value_of as lattice_of}
use Rattle.xc_lattice.specs.declared.lattice.Lattice.{Lattice}
use Rattle.xc_expr.specs.Tests as tests
use Rattle.xc_expr.specs.declared.assign.Assign.TheVariants as assigns
use Rattle.xc_forms.specs.declared.domain.Domain.{Domain}
use Rattle.xc_view.specs.ViewFiles.{ViewValue, PropValue}
use Rattle.xc_view.specs.Views.{value_of as view_of}
use Rattle.xc_view.specs.declared.view.View.{View}
use Rattle.xc_sigmap_lines.specs.MapFiles.{MapValue}
use Rattle.xc_sigmap.specs.Maps.{value_of as map_of}
use Rattle.xc_sigmap.specs.declared.sigmap.SigMap.{SigMap}
use Rattle.xc_sigmap_lines.specs.declared.parts.SendLine.{SendLine}
use Rattle.xc_sigmap_lines.specs.declared.parts.Told.TheVariants.{Named, Constant}
use Rattle.xc_ctl.specs.Frames.{Frame}
use Rattle.xc_merge.specs.Merges.{Merge, Viewpoint, nobody, viewpoint_at, name_of, for_each, parts_of, names_of_parts}
use Rattle.xc_merge.specs.Merging.{merge_in}
use Rattle.xc_merge.specs.Projections.{states_of, row_of, line_for, pair_for, carried_word, carried_place, source, carried, place_seen, row_seen, projection}
use Rattle.xc_merge.specs.MergedFrames.{is_unseen, stutter_words, step_values, join_in, step_digit, line_of, prop_digit, merged_frame, is_merged_initial, initials_of}
use Rattle.xc_merge.specs.Pieces.{weight, mark, counts, fixed, stutter}

abbrev pub F : List ℕ
F = codes "F"

abbrev pub M : List ℕ
M = codes "M"

abbrev pub T : List ℕ
T = codes "T"

abbrev pub of_two : LatticeValue
of_two = record { name = codes "two"; names = F ∷ T ∷ []; algebra = two }

abbrev pub of_chain : LatticeValue
of_chain = record { name = codes "chain"; names = F ∷ M ∷ T ∷ []; algebra = chain }

abbrev pub of_diamond : LatticeValue
of_diamond = record { name = codes "diamond"; names = F ∷ codes "N" ∷ codes "B" ∷ T ∷ []; algebra = diamond }

abbrev shut : List ℕ
shut = codes "shut"

abbrev open_ : List ℕ
open_ = codes "open"

abbrev lamp : Domain
lamp = record { name = codes "lamp"; values = codes "off" ∷ codes "on" ∷ [] }

abbrev door : Domain
door = record { name = codes "door"; values = shut ∷ open_ ∷ [] }

abbrev gate : Domain
gate = record { name = codes "gate"; values = codes "closed" ∷ open_ ∷ [] }

abbrev light : Domain
light = record { name = codes "light"; values = codes "dark" ∷ codes "bright" ∷ [] }

-- Ann goes through the door, and it may be that she lights the lamp once it is open
abbrev ann : ViewValue
ann =
    record {
      name = codes "ann";
      lattice = codes "chain.lat";
      vars = door ∷ lamp ∷ [];
      init = tests.Is 0 0;
      props = record { name = codes "lit"; value = T; guard = tests.Is 1 1 } ∷ record { name = codes "safe"; value = T; guard = tests.Is 0 0 } ∷ record { name = codes "safe"; value = M; guard = tests.Is 1 1 } ∷ [];
      commands =
          record { name = codes "enter"; value = T; guard = tests.Is 0 0; action = assigns.Value 0 1 ∷ [] } ∷ record { name = codes "leave"; value = T; guard = tests.Is 0 1; action = assigns.Value 0 0 ∷ [] }
          ∷ record { name = codes "light"; value = M; guard = tests.And (tests.Is 0 1) (tests.Is 1 0); action = assigns.Value 1 1 ∷ [] } ∷ [];
    }

-- Ben passes the gate, and switches where it is open
abbrev ben : ViewValue
ben =
    record {
      name = codes "ben";
      lattice = codes "diamond.lat";
      vars = gate ∷ lamp ∷ [];
      init = tests.Is 0 0;
      props = record { name = codes "shining"; value = T; guard = tests.Is 1 1 } ∷ record { name = codes "safe"; value = codes "B"; guard = tests.Is 0 1 } ∷ record { name = codes "safe"; value = T; guard = tests.Is 0 0 } ∷ [];
      commands = record { name = codes "pass"; value = codes "N"; guard = tests.True; action = assigns.Next 0 0 ∷ [] } ∷ record { name = codes "switch"; value = T; guard = tests.Is 0 1; action = assigns.Any 1 ∷ [] } ∷ [];
    }

-- Cat sees light alone
abbrev cat : ViewValue
cat =
    record {
      name = codes "cat";
      lattice = codes "two.lat";
      vars = light ∷ [];
      init = tests.True;
      props = record { name = codes "lit"; value = T; guard = tests.Is 0 1 } ∷ [];
      commands = record { name = codes "on"; value = T; guard = tests.Is 0 0; action = assigns.Value 0 1 ∷ [] } ∷ [];
    }

abbrev pub gate_line : SendLine
gate_line = record { viewpoint = 1; variable = codes "gate"; from = 0; pairs = record { value = 0; word = codes "closed" } ∷ [] }

abbrev pub light_line : SendLine
light_line = record { viewpoint = 2; variable = codes "light"; from = 1; pairs = record { value = 0; word = codes "dark" } ∷ record { value = 1; word = codes "bright" } ∷ [] }

-- the states of a house: 0 shut and off, 1 shut and on, 2 open and off, 3 open and on
abbrev pub plan : MapValue
plan =
    record {
      name = codes "house";
      uses = record { name = codes "ann"; file = codes "ann.view" } ∷ record { name = codes "ben"; file = codes "ben.view" } ∷ record { name = codes "cat"; file = codes "cat.view" } ∷ [];
      vars = door ∷ lamp ∷ [];
      props = codes "lit" ∷ codes "safe" ∷ [];
      sends =
          record { viewpoint = 0; variable = codes "door"; from = 0; pairs = [] } ∷ record { viewpoint = 0; variable = codes "lamp"; from = 1; pairs = [] } ∷ gate_line
          ∷ record { viewpoint = 1; variable = codes "lamp"; from = 1; pairs = [] } ∷ light_line ∷ [];
      tells =
          record { viewpoint = 0; prop = 0; told = Named (codes "lit") } ∷ record { viewpoint = 0; prop = 1; told = Named (codes "safe") } ∷ record { viewpoint = 1; prop = 0; told = Named (codes "shining") }
          ∷ record { viewpoint = 1; prop = 1; told = Named (codes "safe") } ∷ record { viewpoint = 2; prop = 0; told = Named (codes "lit") } ∷ record { viewpoint = 2; prop = 1; told = Constant T } ∷ [];
      stutters = record { viewpoint = 2; value = T } ∷ [];
    }

abbrev pub house : Merge
house = record { plan = plan; viewpoints = record { view = ann; lattice = of_chain } ∷ record { view = ben; lattice = of_diamond } ∷ record { view = cat; lattice = of_two } ∷ [] }

abbrev states : List ℕ
states = 0 ∷ 1 ∷ 2 ∷ 3 ∷ []

-- the viewpoints, by their numbers, and none past the last
pub viewpoints : ((viewpoint_at house 1).view.name ≡ codes "ben") × (viewpoint_at house 3 ≡ nobody) × (name_of plan 2 ≡ codes "cat") × (name_of plan 3 ≡ []) × (for_each house (λ v p. v) ≡ 0 ∷ 1 ∷ 2 ∷ [])
    × (for_each house (λ v p. p.view.name) ≡ codes "ann" ∷ codes "ben" ∷ codes "cat" ∷ []) × (parts_of house ≡ chain ∷ diamond ∷ two ∷ []) × (names_of_parts house ≡ of_chain.names ∷ of_diamond.names ∷ of_two.names ∷ [])
viewpoints = (refl, refl, refl, refl, refl, refl, refl, refl)

-- what code merges to
pub merged : (sigmap : SigMap) (view : View) (lattice : Lattice) → merge_in sigmap ((view, lattice) ∷ []) ≡ record { plan = map_of sigmap; viewpoints = record { view = view_of view; lattice = lattice_of lattice } ∷ [] }
merged sigmap view lattice = refl

-- the lines of the map: of that viewpoint and of that variable or proposition
pub lines : (line_for plan 1 (codes "gate") ≡ Some gate_line) × (line_for plan 0 (codes "gate") ≡ None) × (line_for plan 1 (codes "door") ≡ None) × (line_of plan 2 1 ≡ Some (record { viewpoint = 2; prop = 1; told = Constant T })) × (line_of plan 2 2 ≡ None) × (line_of plan 3 0 ≡ None)
lines = (refl, refl, refl, refl, refl, refl)

-- a value is carried to the word of its pair, and to its own name where it has none
pub carried_words : (carried_word plan gate_line 0 ≡ codes "closed") × (carried_word plan gate_line 1 ≡ open_) × (carried_word plan light_line 1 ≡ codes "bright") × (pair_for gate_line 1 ≡ None) × (carried_place plan gate_line gate 1 ≡ 1) × (carried_place plan gate_line lamp 1 ≡ 2)
carried_words = (refl, refl, refl, refl, refl, refl)

-- the light is the lamp; what no line feeds reads the first variable's first value
pub sources : (source plan 2 light ≡ 1) × (source plan 1 gate ≡ 0) × (source plan 2 lamp ≡ 0) × (carried plan 2 light 1 ≡ 1) × (carried plan 2 lamp 1 ≡ 0) × (place_seen plan 2 (1 ∷ 0 ∷ []) light ≡ 0) × (place_seen plan 1 (1 ∷ 0 ∷ []) gate ≡ 1)
sources = (refl, refl, refl, refl, refl, refl, refl)

-- Ann and Ben see each state, and Cat whether the lamp is on
pub seen : (states_of plan ≡ 4) × (row_of plan 2 ≡ 1 ∷ 0 ∷ []) × (map (projection plan 0 (viewpoint_at house 0)) states ≡ 0 ∷ 1 ∷ 2 ∷ 3 ∷ []) × (map (projection plan 1 (viewpoint_at house 1)) states ≡ 0 ∷ 1 ∷ 2 ∷ 3 ∷ [])
    × (map (projection plan 2 (viewpoint_at house 2)) states ≡ 0 ∷ 1 ∷ 0 ∷ 1 ∷ []) × (row_seen plan 1 (viewpoint_at house 1) (row_of plan 2) ≡ 1 ∷ 0 ∷ [])
seen = (refl, refl, refl, refl, refl, refl)

-- Colours in the other order in front, and a switch that is turned round behind them: of the six states of a switch and three colours the last is seen as the first.
abbrev turned : MapValue
turned =
    record plan {
      vars = record { name = codes "x"; values = codes "0" ∷ codes "1" ∷ [] } ∷ record { name = codes "y"; values = codes "r" ∷ codes "g" ∷ codes "b" ∷ [] } ∷ [];
      sends = record { viewpoint = 0; variable = codes "d"; from = 0; pairs = record { value = 0; word = codes "1" } ∷ record { value = 1; word = codes "0" } ∷ [] } ∷ record { viewpoint = 0; variable = codes "c"; from = 1; pairs = [] } ∷ [];
    }

abbrev turning : Viewpoint
turning =
    record {
      view = record ann { vars = record { name = codes "c"; values = codes "b" ∷ codes "g" ∷ codes "r" ∷ [] } ∷ record { name = codes "d"; values = codes "0" ∷ codes "1" ∷ [] } ∷ [] };
      lattice = of_chain;
    }

pub turned_round : (states_of turned ≡ 6) × (map (projection turned 0 turning) (0 ∷ 1 ∷ 2 ∷ 3 ∷ 4 ∷ 5 ∷ []) ≡ 5 ∷ 3 ∷ 1 ∷ 4 ∷ 2 ∷ 0 ∷ [])
turned_round = (refl, refl)

-- Cat cannot tell 0 and 2 apart, and no step goes from a state to itself unseen
pub unseen : (is_unseen plan 2 (viewpoint_at house 2) 0 2 ≡ true) × (is_unseen plan 2 (viewpoint_at house 2) 0 0 ≡ false) × (is_unseen plan 2 (viewpoint_at house 2) 0 1 ≡ false) × (is_unseen plan 1 (viewpoint_at house 1) 0 2 ≡ false)
    × (stutter_words plan 2 ≡ T ∷ []) × (stutter_words plan 1 ≡ [])
unseen = (refl, refl, refl, refl, refl, refl)

-- the words of a step, and their least upper bound
pub step_words_of : (step_values plan 1 (viewpoint_at house 1) 2 0 ≡ codes "N" ∷ []) × (step_values plan 1 (viewpoint_at house 1) 2 3 ≡ T ∷ []) × (step_values plan 2 (viewpoint_at house 2) 0 2 ≡ T ∷ []) × (step_values plan 2 (viewpoint_at house 2) 0 0 ≡ [])
    × (join_in (viewpoint_at house 1) (codes "N" ∷ codes "B" ∷ []) ≡ 3) × (join_in (viewpoint_at house 1) [] ≡ 0) × (step_digit plan 2 3 0 (viewpoint_at house 0) ≡ 1) × (step_digit plan 2 3 2 (viewpoint_at house 2) ≡ 1)
unfolding first_join
step_words_of = (refl, refl, refl, refl, refl, refl, refl, refl)

-- what each viewpoint tells: Ann that 1 is T since T and M join to T, Ben that 2 is B, and Cat that it is safe everywhere
pub told_digits : (map (λ s. prop_digit plan 1 s 0 (viewpoint_at house 0)) states ≡ 2 ∷ 2 ∷ 0 ∷ 1 ∷ []) × (map (λ s. prop_digit plan 1 s 1 (viewpoint_at house 1)) states ≡ 3 ∷ 3 ∷ 2 ∷ 2 ∷ []) × (map (λ s. prop_digit plan 1 s 2 (viewpoint_at house 2)) states ≡ 1 ∷ 1 ∷ 1 ∷ 1 ∷ [])
    × (map (λ s. prop_digit plan 0 s 1 (viewpoint_at house 1)) states ≡ 0 ∷ 3 ∷ 0 ∷ 3 ∷ []) × (prop_digit plan 2 0 2 (viewpoint_at house 2) ≡ 0)
unfolding first_join
told_digits = (refl, refl, refl, refl, refl)

abbrev frame : Frame
frame = merged_frame house

pub framed : (frame.states ≡ 4) × (frame.props ≡ 2) × (frame.parts ≡ chain ∷ diamond ∷ two ∷ [])
unfolding merged_frame
framed = (refl, refl, refl)

-- the values of all pairs of states: F,F,F is 0, F,F,T is 1, F,T,F is 6, M,T,T is 15, and T,N,T is 19
pub transitions : (map (frame.relation 0) states ≡ 0 ∷ 1 ∷ 19 ∷ 1 ∷ []) × (map (frame.relation 1) states ≡ 0 ∷ 0 ∷ 0 ∷ 19 ∷ []) × (map (frame.relation 2) states ≡ 19 ∷ 1 ∷ 6 ∷ 15 ∷ []) × (map (frame.relation 3) states ≡ 0 ∷ 19 ∷ 6 ∷ 6 ∷ [])
unfolding merged_frame first_join
transitions = (refl, refl, refl, refl)

-- it is lit, T,T,T, where the lamp is on; it is safe with F,B,T at 2, which is 5, and with M,B,T at 3, which is 13
pub propositions : (map (frame.prop 0) states ≡ 0 ∷ 23 ∷ 0 ∷ 23 ∷ []) × (map (frame.prop 1) states ≡ 23 ∷ 23 ∷ 5 ∷ 13 ∷ [])
unfolding merged_frame first_join
propositions = (refl, refl)

-- a state is initial where the door is shut, and none where one viewpoint has none
pub initial : (initials_of house ≡ 0 ∷ 1 ∷ []) × (is_merged_initial house 2 ≡ false) × (initials_of (record house { viewpoints = record { view = ann; lattice = of_chain } ∷ record { view = ben; lattice = of_diamond } ∷ record { view = record cat { init = tests.False }; lattice = of_two } ∷ [] }) ≡ [])
    × (initials_of (record house { viewpoints = record { view = record ann { init = tests.Is 1 1 }; lattice = of_chain } ∷ record { view = ben; lattice = of_diamond } ∷ [] }) ≡ 1 ∷ [])
unfolding initials_of
initial = (refl, refl, refl, refl)

-- Two viewpoints over the chain: one goes up in x, and the other looks at y and does nothing.
abbrev still : Merge
still =
    record {
      plan = record plan {
        vars = record { name = codes "x"; values = codes "0" ∷ codes "1" ∷ [] } ∷ record { name = codes "y"; values = codes "0" ∷ codes "1" ∷ [] } ∷ [];
        sends = record { viewpoint = 0; variable = codes "x"; from = 0; pairs = [] } ∷ record { viewpoint = 1; variable = codes "y"; from = 1; pairs = [] } ∷ [];
        stutters = record { viewpoint = 1; value = M } ∷ [];
      };
      viewpoints =
          record { view = record ann { vars = record { name = codes "x"; values = codes "0" ∷ codes "1" ∷ [] } ∷ []; commands = record { name = codes "up"; value = T; guard = tests.Is 0 0; action = assigns.Value 0 1 ∷ [] } ∷ [] }; lattice = of_chain }
          ∷ record { view = record ann { vars = record { name = codes "y"; values = codes "0" ∷ codes "1" ∷ [] } ∷ []; commands = [] }; lattice = of_chain } ∷ [];
    }

-- Without a stutter value steps in x are T,F, which is 6. With M for the other they are T,M, which is 7, and only where y stays and the state does not.
pub stuttering : (map ((merged_frame (record still { plan = record still.plan { stutters = [] } })).relation 0) states ≡ 0 ∷ 0 ∷ 6 ∷ 6 ∷ []) × (map ((merged_frame still).relation 0) states ≡ 0 ∷ 0 ∷ 7 ∷ 6 ∷ []) × (map ((merged_frame still).relation 2) states ≡ 1 ∷ 0 ∷ 0 ∷ 0 ∷ [])
unfolding merged_frame first_join
stuttering = (refl, refl, refl)

-- what an encoder reads: elements of commands and of lines, which lines count, what is told everywhere, and the stutter value
pub pieces : (map (weight (viewpoint_at house 0)) ann.commands ≡ 2 ∷ 2 ∷ 1 ∷ []) × (map (mark (viewpoint_at house 1)) ben.props ≡ 3 ∷ 2 ∷ 3 ∷ []) × (map (λ (l : PropValue). counts plan 1 l 0) ben.props ≡ true ∷ false ∷ false ∷ [])
    × (map (λ (l : PropValue). counts plan 1 l 1) ben.props ≡ false ∷ true ∷ true ∷ []) × (map (λ (l : PropValue). counts plan 2 l 1) cat.props ≡ false ∷ []) × (map (λ (l : PropValue). counts plan 2 l 2) cat.props ≡ false ∷ [])
    × (fixed plan 2 (viewpoint_at house 2) 1 ≡ Some 1) × (fixed plan 2 (viewpoint_at house 2) 0 ≡ None) × (fixed plan 2 (viewpoint_at house 2) 2 ≡ None) × (stutter plan 2 (viewpoint_at house 2) ≡ 1) × (stutter plan 1 (viewpoint_at house 1) ≡ 0)
unfolding first_join
pieces = (refl, refl, refl, refl, refl, refl, refl, refl, refl, refl, refl)
