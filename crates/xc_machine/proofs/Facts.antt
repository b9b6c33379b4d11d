-- The definitions at small cases worked out by hand, and at a map of two viewpoints: a wrong definition does not check here.
use Rattle.std.proofs.Common.{◌≡◌, ◌<◌, ◌≤◌, ◌+◌, ℕ, zero, suc, Bool, true, false, List, [], ◌∷◌, slice_index, Some, None, codes, refl, ap, arith}
use Rattle.std.proofs.lemmas.Bool.{false≢true, true≢false}
use Rattle.xc_theory.specs.Bounds.{first_join}
use Rattle.xc_theory.proofs.Facts.{two, chain, diamond}
use Rattle.xc_alg.specs.Products.{product}
use Rattle.xc_lattice.specs.LatticeFiles.{LatticeValue}
use Rattle.xc_expr.specs.Tests as tests
use Rattle.xc_forms.specs.declared.domain.Domain.{Domain}
use Rattle.xc_expr.specs.declared.guard.Guard.TheVariants as guards
use Rattle.xc_expr.specs.declared.assign.Assign.TheVariants as assigns
use Rattle.xc_view.specs.declared.lines.PropLine.{PropLine}
use Rattle.xc_view.specs.declared.lines.Command.{Command}
use Rattle.xc_sigmap_lines.specs.MapFiles.{MapValue}
use Rattle.xc_sigmap_lines.specs.declared.parts.Told.TheVariants.{Named, Constant}
use Rattle.xc_merge.specs.Merges.{Merge, Viewpoint}
use Rattle.xc_merge.specs.Projections.{carried}
use Rattle.xc_merge.specs.MergedFrames.{step_digit, prop_digit, is_merged_initial}
use Rattle.xc_machine.specs.Descent.{known_by, initial_from, initial_upto, SharesFront, IsJudgedFor, AreJudged, IsBlock, initials_below, IsFound}
use Rattle.xc_merged.specs.Digits.{IsDigit, AreGiven}
use Rattle.xc_merged.specs.Elements.{command_code, line_code, counts_of, stutters_from}
use Rattle.xc_merged.specs.Joins.{has_guard_in, has_action_in, has_test_in, leads_to, holds_there, both, picked, joined_onto, joined_from}
use Rattle.xc_machine.specs.Judging.{is_known, said, opposite, in_both, in_one, judged, IsRight, Agrees}
use Rattle.xc_machine.specs.Places.{variable_at, command_at, line_at}
use Rattle.xc_merged.specs.Seeing.{place_by, seen_by, AreReadable}
use Rattle.xc_merged.specs.Tabled.{IsGood, IsFeed, IsTelling, AreFed, AreWeights, AreTables}
use Rattle.xc_machine.specs.declared.judgement.Judgement.TheVariants.{Holds, Fails, Open}
use Rattle.xc_merged.specs.declared.tables.Feed.{Feed}
use Rattle.xc_merged.specs.declared.tables.Tables.{Tables}
use Rattle.xc_merged.proofs.Facts.{feeds, bits, left, right_one, plan, plant}

abbrev places : List ℕ
places = 1 ∷ 0 ∷ 2 ∷ []

abbrev known : List Bool
known = true ∷ false ∷ true ∷ []

pub known_places : (is_known known 0 ≡ true) × (is_known known 1 ≡ false) × (is_known known 2 ≡ true) × (is_known known 3 ≡ false)
known_places = (refl, refl, refl, refl)

pub truth_values : (said true true ≡ Holds) × (said true false ≡ Fails) × (said false true ≡ Open) × (said false false ≡ Open) × (opposite Holds ≡ Fails) × (opposite Fails ≡ Holds) × (opposite Open ≡ Open)
truth_values = (refl, refl, refl, refl, refl, refl, refl)

-- what fails decides a conjunction, and what holds a disjunction, whatever is open beside it
pub connectives : (in_both Holds Holds ≡ Holds) × (in_both Holds Fails ≡ Fails) × (in_both Holds Open ≡ Open) × (in_both Fails Holds ≡ Fails) × (in_both Fails Fails ≡ Fails) × (in_both Fails Open ≡ Fails)
    × (in_both Open Holds ≡ Open) × (in_both Open Fails ≡ Fails) × (in_both Open Open ≡ Open)
    × (in_one Holds Fails ≡ Holds) × (in_one Holds Open ≡ Holds) × (in_one Fails Holds ≡ Holds) × (in_one Fails Fails ≡ Fails) × (in_one Fails Open ≡ Open) × (in_one Open Holds ≡ Holds) × (in_one Open Fails ≡ Open) × (in_one Open Open ≡ Open)
connectives = (refl, refl, refl, refl, refl, refl, refl, refl, refl, refl, refl, refl, refl, refl, refl, refl, refl)

pub values_judged : (judged (tests.Is 0 1) places known ≡ Holds) × (judged (tests.Is 0 0) places known ≡ Fails) × (judged (tests.Is 1 0) places known ≡ Open) × (judged (tests.IsNot 2 1) places known ≡ Holds) × (judged (tests.IsNot 2 2) places known ≡ Fails)
    × (judged (tests.IsNot 1 0) places known ≡ Open) × (judged tests.True places known ≡ Holds) × (judged tests.False places known ≡ Fails)
values_judged = (refl, refl, refl, refl, refl, refl, refl, refl)

-- two variables are compared where both are known
pub pairs_judged : (judged (tests.Same 0 2) places known ≡ Fails) × (judged (tests.Same 2 2) places known ≡ Holds) × (judged (tests.Same 0 1) places known ≡ Open) × (judged (tests.Same 1 0) places known ≡ Open)
    × (judged (tests.Differ 0 2) places known ≡ Holds) × (judged (tests.Differ 0 0) places known ≡ Fails) × (judged (tests.Differ 2 1) places known ≡ Open) × (judged (tests.Differ 1 2) places known ≡ Open)
pairs_judged = (refl, refl, refl, refl, refl, refl, refl, refl)

pub formulas_judged : (judged (tests.Not (tests.Is 0 1)) places known ≡ Fails) × (judged (tests.And (tests.Is 1 0) (tests.Is 0 0)) places known ≡ Fails) × (judged (tests.And (tests.Is 0 1) (tests.Is 1 0)) places known ≡ Open)
    × (judged (tests.Or (tests.Is 1 0) (tests.Is 0 1)) places known ≡ Holds) × (judged (tests.Or (tests.Is 0 0) (tests.Is 1 0)) places known ≡ Open)
formulas_judged = (refl, refl, refl, refl, refl)

pub right : IsRight Holds true × IsRight Fails false × IsRight Open true × IsRight Open false × (IsRight Holds false → ⊥) × (IsRight Fails true → ⊥)
right = (refl, refl, tt, tt, false≢true, true≢false)

-- a row that has the known places, and one that has not
agree : (x : ℕ) → is_known known x ≡ true → slice_index (1 ∷ 5 ∷ 2 ∷ []) x ≡ slice_index places x
agree zero h = refl
agree (suc zero) h = absurd (false≢true h)
agree (suc (suc zero)) h = refl
agree (suc (suc (suc x))) h = absurd (false≢true h)

pub agreeing : Agrees places known (1 ∷ 5 ∷ 2 ∷ [])
agreeing = record { same = agree }

pub not_agreeing : Agrees places known (1 ∷ 0 ∷ 3 ∷ []) → ⊥
not_agreeing h = let same : 3 ≡ 2 = h.same 2 refl in omega (arith, same)

-- which variables are known where none, the first or both of the map's are
pub knowing : (known_by feeds 0 ≡ false ∷ false ∷ []) × (known_by feeds 1 ≡ false ∷ true ∷ []) × (known_by feeds 2 ≡ true ∷ true ∷ [])
unfolding known_by
knowing = (refl, refl, refl)

-- the parts of a view by their places
pub parts_at : ((variable_at left.view 0).name ≡ codes "x") × ((variable_at left.view 1).name ≡ codes "y") × ((command_at left.view 1).name ≡ codes "c1") × ((line_at left.view 1).name ≡ codes "w") × ((line_at left.view 2).value ≡ codes "M") × ((variable_at left.view 2).values ≡ [])
parts_at = (refl, refl, refl, refl, refl, refl)

-- left is initial at 1, 3 and 5, where b is 1, and right at 2 to 5, where a is not 0
pub initial_for_some : (initial_upto plant 1 1 ≡ true) × (initial_upto plant 1 2 ≡ false) × (initial_upto plant 2 1 ≡ false) × (initial_upto plant 0 0 ≡ true) × (initial_upto plant 5 2 ≡ true)
    × (initial_from plant 1 0 ≡ false) × (initial_from plant 1 1 ≡ false) × (initial_from plant 2 1 ≡ true) × (initial_from plant 2 0 ≡ false) × (initial_from plant 0 2 ≡ true) × (initial_from plant 3 0 ≡ true)
unfolding initial_upto initial_from
initial_for_some = (refl, refl, refl, refl, refl, refl, refl, refl, refl, refl, refl)

pub initial_below : (initials_below plant 6 ≡ 3 ∷ 5 ∷ []) × (initials_below plant 5 ≡ 3 ∷ []) × (initials_below plant 3 ≡ []) × (initials_below plant 0 ≡ [])
unfolding initials_below
initial_below = (refl, refl, refl, refl)

pub found : IsFound plant 6 (record { count = 2; states = 3 ∷ 5 ∷ [] }) × (IsFound plant 6 (record { count = 3; states = 3 ∷ 5 ∷ [] }) → ⊥) × (IsFound plant 6 (record { count = 2; states = 5 ∷ 3 ∷ [] }) → ⊥)
unfolding initials_below
found = (
  record { count_is = refl; listed = λ few. refl },
  λ h. let same : 3 ≡ 2 = h.count_is in omega (arith, same),
  λ h. let same : 5 ≡ 3 = ap (λ (states : List ℕ). slice_index states 0) (h.listed (omega arith)) in omega (arith, same),
)

-- the states 0 and 1 are not initial; of 3 and 4 one is
zeros : (s : ℕ) → 0 ≤ s → s < 0 + 2 → is_merged_initial plant s ≡ false
zeros zero h low = refl
zeros (suc zero) h low = refl
zeros (suc (suc s)) h low = absurd (omega (arith, low))

pub a_block : IsBlock plant 0 (record { size = 2; initial = false })
a_block = record { some = omega arith; within = omega arith; same = zeros }

pub no_blocks : (IsBlock plant 3 (record { size = 2; initial = true }) → ⊥) × (IsBlock plant 5 (record { size = 2; initial = true }) → ⊥) × (IsBlock plant 5 (record { size = 0; initial = true }) → ⊥)
no_blocks = (λ h. false≢true (h.same 4 (omega arith) (omega arith)), λ h. let low : 7 ≤ 6 = h.within in omega (arith, low), λ h. let low : 1 ≤ 0 = h.some in omega (arith, low))

-- rows with the same first place, though not with the same two
one_front : (k : ℕ) → k < 1 → slice_index (1 ∷ 0 ∷ []) k ≡ slice_index (1 ∷ 1 ∷ []) k
one_front zero low = refl
one_front (suc k) low = omega (arith, low)

pub fronts : SharesFront 1 (1 ∷ 0 ∷ []) (1 ∷ 1 ∷ []) × (SharesFront 2 (1 ∷ 0 ∷ []) (1 ∷ 1 ∷ []) → ⊥)
fronts = (record { same = one_front }, λ h. let same : 0 ≡ 1 = h.same 1 (omega arith) in omega (arith, same))

-- Where a is 1, right is initial and left need not be. Where nothing is known, none fails.
pub misjudged : (IsJudgedFor plant 1 (1 ∷ 1 ∷ []) 0 Holds → ⊥) × (IsJudgedFor plant 0 (0 ∷ 0 ∷ []) 1 Fails → ⊥) × (AreJudged plant 1 (1 ∷ 1 ∷ []) 2 Holds → ⊥)
unfolding initial_upto
misjudged = (
  λ h. false≢true (h.right 2 (omega arith) (record { same = one_front })),
  λ h. true≢false (h.right 2 (omega arith) (record { same = λ k low. omega (arith, low) })),
  λ h. false≢true (h.right 2 (omega arith) (record { same = one_front })),
)
