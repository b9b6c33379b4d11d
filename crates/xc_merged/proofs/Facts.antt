-- The definitions at small cases worked out by hand, and at a map of two viewpoints: a wrong definition does not check here.
use Rattle.std.proofs.Common.{◌≡◌, ◌<◌, ℕ, zero, suc, true, false, List, [], ◌∷◌, slice_index, Some, None, codes, refl, arith}
use Rattle.std.proofs.lemmas.Bool.{false≢true, true≢false}
use Rattle.xc_theory.specs.Bounds.{first_join}
use Rattle.xc_theory.proofs.Facts.{two, chain, diamond}
use Rattle.xc_alg.specs.Products.{product}
use Rattle.xc_lattice.specs.LatticeFiles.{LatticeValue}
use Rattle.xc_expr.specs.Tests as tests
use Rattle.xc_forms.specs.declared.domain.Domain.{Domain}
use Rattle.xc_expr.specs.declared.guard.Guard.TheVariants as guards
use Rattle.xc_expr.specs.declared.assign.Assign.TheVariants as assigns
use Rattle.xc_view.specs.declared.lines.PropLine.{PropLine}
use Rattle.xc_view.specs.declared.lines.Command.{Command}
use Rattle.xc_sigmap_lines.specs.MapFiles.{MapValue}
use Rattle.xc_sigmap_lines.specs.declared.parts.Told.TheVariants.{Named, Constant}
use Rattle.xc_merge.specs.Merges.{Merge, Viewpoint}
use Rattle.xc_merge.specs.Projections.{carried}
use Rattle.xc_merge.specs.MergedFrames.{step_digit, prop_digit}
use Rattle.xc_merged.specs.Digits.{IsDigit, AreGiven}
use Rattle.xc_merged.specs.Elements.{command_code, line_code, counts_of, stutters_from}
use Rattle.xc_merged.specs.Joins.{has_guard_in, has_action_in, has_test_in, leads_to, holds_there, both, picked, joined_onto, joined_from}
use Rattle.xc_merged.specs.Seeing.{place_by, seen_by, AreReadable}
use Rattle.xc_merged.specs.Tabled.{IsGood, IsFeed, IsTelling, AreFed, AreWeights, AreTables}
use Rattle.xc_merged.specs.declared.tables.Feed.{Feed}
use Rattle.xc_merged.specs.declared.tables.Tables.{Tables}

-- What a guard says of the places 1, 0, 2 of which the second is not known.

-- Joins of weights whose tests pass, in the diamond, where N is 1, B is 2 and T is 3.

pub picking : (both (true ∷ true ∷ false ∷ []) (true ∷ false ∷ true ∷ []) ≡ true ∷ false ∷ false ∷ []) × (both (true ∷ true ∷ []) (true ∷ []) ≡ true ∷ [])
    × (picked (5 ∷ 6 ∷ 7 ∷ []) (true ∷ false ∷ true ∷ []) ≡ 5 ∷ 7 ∷ []) × (picked (5 ∷ 6 ∷ []) (false ∷ []) ≡ [])
picking = (refl, refl, refl, refl)

pub joins : (joined_onto (product (diamond ∷ [])) 0 [] ≡ 0) × (joined_onto (product (diamond ∷ [])) 1 [] ≡ 1) × (joined_onto (product (diamond ∷ [])) 0 (1 ∷ 2 ∷ []) ≡ 3) × (joined_onto (product (diamond ∷ [])) 2 (2 ∷ 0 ∷ []) ≡ 2)
    × (joined_from (product (diamond ∷ [])) 0 (1 ∷ 2 ∷ 3 ∷ []) (true ∷ true ∷ false ∷ []) 0 ≡ 3) × (joined_from (product (diamond ∷ [])) 0 (1 ∷ 2 ∷ 3 ∷ []) (true ∷ true ∷ false ∷ []) 1 ≡ 2)
    × (joined_from (product (diamond ∷ [])) 1 (1 ∷ 2 ∷ 3 ∷ []) (true ∷ true ∷ false ∷ []) 2 ≡ 1) × (joined_from (product (diamond ∷ [])) 1 (1 ∷ 2 ∷ 3 ∷ []) (false ∷ true ∷ false ∷ []) 0 ≡ 3)
unfolding joined_from product first_join
joins = (refl, refl, refl, refl, refl, refl, refl, refl)

-- a variable of two values and one of three; where the first is 1 the command moves the second on
abbrev vars : List Domain
vars = record { name = codes "a"; values = codes "0" ∷ codes "1" ∷ [] } ∷ record { name = codes "b"; values = codes "0" ∷ codes "1" ∷ codes "2" ∷ [] } ∷ []

abbrev moving : Command
moving = record { name = codes "go"; value = codes "B"; guard = guards.Is 0 1; action = assigns.Next 1 1 ∷ [] }

abbrev line : PropLine
line = record { name = codes "p"; value = codes "N"; guard = guards.Is 1 2 }

pub leading : (leads_to (2 ∷ 3 ∷ []) (1 ∷ 2 ∷ []) (1 ∷ 0 ∷ []) moving ≡ true) × (leads_to (2 ∷ 3 ∷ []) (1 ∷ 2 ∷ []) (0 ∷ 0 ∷ []) moving ≡ false) × (leads_to (2 ∷ 3 ∷ []) (1 ∷ 2 ∷ []) (1 ∷ 1 ∷ []) moving ≡ false)
    × (leads_to (2 ∷ 3 ∷ []) (0 ∷ 2 ∷ []) (0 ∷ 0 ∷ []) moving ≡ false) × (holds_there (0 ∷ 2 ∷ []) line ≡ true) × (holds_there (2 ∷ 0 ∷ []) line ≡ false)
leading = (refl, refl, refl, refl, refl, refl)

pub in_range : (has_guard_in vars moving ≡ true) × (has_guard_in vars (record moving { guard = guards.Is 0 2 }) ≡ false) × (has_action_in vars moving ≡ true) × (has_action_in vars (record moving { action = assigns.Next 0 1 ∷ [] }) ≡ false)
    × (has_action_in vars (record moving { action = assigns.Any 1 ∷ assigns.Any 1 ∷ [] }) ≡ false) × (has_test_in vars line ≡ true) × (has_test_in vars (record line { guard = guards.Is 2 0 }) ≡ false)
in_range = (refl, refl, refl, refl, refl, refl, refl)

-- The elements of words. A word that is no element's has the number of elements.

abbrev names : List (List ℕ)
names = codes "F" ∷ codes "N" ∷ codes "B" ∷ codes "T" ∷ []

pub elements : (command_code names moving ≡ 2) × (command_code names (record moving { value = codes "M" }) ≡ 4) × (line_code names line ≡ 1)
elements = (refl, refl, refl)

pub counting : (counts_of (Named (codes "p")) line ≡ true) × (counts_of (Named (codes "q")) line ≡ false) × (counts_of (Constant (codes "p")) line ≡ false)
counting = (refl, refl, refl)

pub stutter_lines : (stutters_from 1 (record { viewpoint = 1; value = codes "N" } ∷ record { viewpoint = 0; value = codes "T" } ∷ []) 0 ≡ codes "N" ∷ []) × (stutters_from 1 (record { viewpoint = 1; value = codes "N" } ∷ record { viewpoint = 0; value = codes "T" } ∷ []) 1 ≡ [])
    × (stutters_from 0 (record { viewpoint = 1; value = codes "N" } ∷ record { viewpoint = 0; value = codes "T" } ∷ []) 1 ≡ codes "T" ∷ [])
unfolding stutters_from
stutter_lines = (refl, refl, refl)

-- What is seen of places: one variable is read from the second, and one from the first, which cannot tell 1 from 2.

abbrev pub feeds : List Feed
feeds = record { source = 1; places = 0 ∷ 1 ∷ [] } ∷ record { source = 0; places = 0 ∷ 1 ∷ 1 ∷ [] } ∷ []

pub seen : (seen_by feeds (2 ∷ 0 ∷ []) ≡ 0 ∷ 1 ∷ []) × (seen_by feeds (0 ∷ 1 ∷ []) ≡ 1 ∷ 0 ∷ []) × (seen_by feeds (1 ∷ 1 ∷ []) ≡ 1 ∷ 1 ∷ []) × (place_by (1 ∷ 0 ∷ []) (record { source = 0; places = 7 ∷ 9 ∷ [] }) ≡ 9)
unfolding seen_by
seen = (refl, refl, refl, refl)

pub not_readable : (AreReadable feeds (0 ∷ []) → ⊥) × (AreReadable feeds (16 ∷ 0 ∷ []) → ⊥)
not_readable = (
  λ h. let low : 1 < 1 = h.source_in 0 (record { source = 1; places = 0 ∷ 1 ∷ [] }) (omega arith) refl in omega (arith, low),
  λ h. let low : 16 < 16 = h.place_in 1 (record { source = 0; places = 0 ∷ 1 ∷ 1 ∷ [] }) (omega arith) refl in omega (arith, low),
)

-- Two viewpoints: left reads its x from b and its y from a, where 2 is carried to 1; right has the values of a in another order.

abbrev pub bits : List (List ℕ)
bits = codes "0" ∷ codes "1" ∷ []

abbrev pub left : Viewpoint
left =
    record {
      view = record {
        name = codes "left";
        lattice = codes "chain.lat";
        vars = record { name = codes "x"; values = bits } ∷ record { name = codes "y"; values = bits } ∷ [];
        init = tests.Is 0 1;
        props = record { name = codes "u"; value = codes "T"; guard = tests.Is 0 1 } ∷ record { name = codes "w"; value = codes "M"; guard = tests.Is 1 1 } ∷ record { name = codes "u"; value = codes "M"; guard = tests.Is 1 0 } ∷ [];
        commands = record { name = codes "c0"; value = codes "M"; guard = tests.True; action = assigns.Value 0 1 ∷ [] } ∷ record { name = codes "c1"; value = codes "T"; guard = tests.Is 0 1; action = assigns.Any 1 ∷ [] } ∷ [];
      };
      lattice = record { name = codes "chain"; names = codes "F" ∷ codes "M" ∷ codes "T" ∷ []; algebra = chain };
    }

abbrev pub right_one : Viewpoint
right_one =
    record {
      view = record {
        name = codes "right";
        lattice = codes "diamond.lat";
        vars = record { name = codes "z"; values = codes "1" ∷ codes "0" ∷ codes "2" ∷ [] } ∷ [];
        init = tests.IsNot 0 1;
        props = record { name = codes "v"; value = codes "N"; guard = tests.Is 0 2 } ∷ record { name = codes "v"; value = codes "B"; guard = tests.Is 0 0 } ∷ [];
        commands = record { name = codes "d"; value = codes "B"; guard = tests.Is 0 0; action = assigns.Next 0 0 ∷ [] } ∷ [];
      };
      lattice = record { name = codes "diamond"; names = names; algebra = diamond };
    }

abbrev pub plan : MapValue
plan =
    record {
      name = codes "plant";
      uses = record { name = codes "left"; file = codes "left.view" } ∷ record { name = codes "right"; file = codes "right.view" } ∷ [];
      vars = record { name = codes "a"; values = codes "0" ∷ codes "1" ∷ codes "2" ∷ [] } ∷ record { name = codes "b"; values = bits } ∷ [];
      props = codes "p" ∷ codes "q" ∷ [];
      sends = record { viewpoint = 0; variable = codes "y"; from = 0; pairs = record { value = 2; word = codes "1" } ∷ [] } ∷ record { viewpoint = 0; variable = codes "x"; from = 1; pairs = [] } ∷ record { viewpoint = 1; variable = codes "z"; from = 0; pairs = [] } ∷ [];
      tells = record { viewpoint = 0; prop = 0; told = Named (codes "u") } ∷ record { viewpoint = 0; prop = 1; told = Constant (codes "M") } ∷ record { viewpoint = 1; prop = 0; told = Constant (codes "B") } ∷ record { viewpoint = 1; prop = 1; told = Named (codes "v") } ∷ [];
      stutters = record { viewpoint = 1; value = codes "N" } ∷ [];
    }

abbrev pub plant : Merge
plant = record { plan = plan; viewpoints = left ∷ right_one ∷ [] }

-- at the step from 3 to 0 right gives B, and for q at 4 it gives N
pub digits_given : IsDigit plant (step_digit plan 3 0) 1 2 × IsDigit plant (prop_digit plan 1 4) 1 1 × (IsDigit plant (step_digit plan 3 0) 1 1 → ⊥) × (AreGiven plant (step_digit plan 3 0) 2 (0 ∷ 1 ∷ []) → ⊥)
unfolding first_join
digits_given = (
  record { value = refl; below = omega arith },
  record { value = refl; below = omega arith },
  λ h. let same : 1 ≡ 2 = h.value in omega (arith, same),
  λ h. let same : 1 ≡ 2 = (h.given 1 (omega arith)).value in omega (arith, same),
)

-- What the tables of the two viewpoints hold.

abbrev of_two : LatticeValue
of_two = record { name = codes "two"; names = codes "F" ∷ codes "T" ∷ []; algebra = two }

pub not_good : (IsGood (record of_two { names = codes "F" ∷ codes "F" ∷ [] }) → ⊥) × (IsGood (record of_two { names = codes "F" ∷ [] }) → ⊥)
not_good = (λ h. true≢false h.different, λ h. let same : 1 ≡ 2 = h.named in omega (arith, same))

carries : (m : ℕ) → m < 3 → slice_index (0 ∷ 1 ∷ 1 ∷ []) m ≡ carried plan 0 (record { name = codes "y"; values = bits }) m
carries zero low = refl
carries (suc zero) low = refl
carries (suc (suc zero)) low = refl
carries (suc (suc (suc m))) low = omega (arith, low)

carries_in : (m : ℕ) → m < 3 → carried plan 0 (record { name = codes "y"; values = bits }) m < 2
carries_in zero low = omega arith
carries_in (suc zero) low = omega arith
carries_in (suc (suc zero)) low = omega arith
carries_in (suc (suc (suc m))) low = omega (arith, low)

pub a_feed : IsFeed plan 0 (record { name = codes "y"; values = bits }) (record { source = 0; places = 0 ∷ 1 ∷ 1 ∷ [] })
a_feed = record { source_is = refl; source_in = omega arith; places = carries; places_in = carries_in }

pub no_feeds : (IsFeed plan 0 (record { name = codes "y"; values = bits }) (record { source = 1; places = 0 ∷ 1 ∷ 1 ∷ [] }) → ⊥) × (IsFeed plan 0 (record { name = codes "y"; values = bits }) (record { source = 0; places = 0 ∷ 1 ∷ 0 ∷ [] }) → ⊥)
no_feeds = (λ h. let same : 1 ≡ 0 = h.source_is in omega (arith, same), λ h. let same : 0 ≡ 1 = h.places 2 (omega arith) in omega (arith, same))

-- a variable without a line is not fed
pub not_fed : AreFed plan 0 (record { name = codes "z"; values = bits } ∷ []) → ⊥
not_fed h = false≢true (h.fed 0 (record { name = codes "z"; values = bits }) (omega arith) refl)

pub tellings : IsTelling plan 0 left 0 (record { fixed = None; counts = true ∷ false ∷ true ∷ [] }) × IsTelling plan 0 left 1 (record { fixed = Some 1; counts = false ∷ false ∷ false ∷ [] })
    × IsTelling plan 1 right_one 0 (record { fixed = Some 2; counts = false ∷ false ∷ [] }) × IsTelling plan 1 right_one 1 (record { fixed = None; counts = true ∷ true ∷ [] })
tellings = (
  record { told = refl; fixed_is = refl; counts_are = refl },
  record { told = refl; fixed_is = refl; counts_are = refl },
  record { told = refl; fixed_is = refl; counts_are = refl },
  record { told = refl; fixed_is = refl; counts_are = refl },
)

-- each weight is an element
two_weights : (i : ℕ) → i < 2 → slice_index (1 ∷ 2 ∷ []) i < 3
two_weights zero low = omega arith
two_weights (suc zero) low = omega arith
two_weights (suc (suc i)) low = omega (arith, low)

pub weights_in : AreWeights 3 (1 ∷ 2 ∷ []) × (AreWeights 3 (1 ∷ 3 ∷ []) → ⊥)
weights_in = (record { within = two_weights }, λ h. let low : 3 < 3 = h.within 1 (omega arith) in omega (arith, low))

-- the tables of right hold its weight B, its marks N and B and its stutter value N, and no other
pub tabled : (t : Tables) → AreTables plan 1 right_one t → (t.weights ≡ 2 ∷ []) × (t.marks ≡ 1 ∷ 2 ∷ []) × (t.stutter ≡ 1) × (t.bottom ≡ 0)
unfolding first_join
tabled t h = (h.weights, h.marks, h.stutter_is, h.bottom_is)
