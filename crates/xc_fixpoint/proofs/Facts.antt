-- The definitions at small cases whose values are known from outside: a wrong definition does not check here.
use Rattle.std.proofs.Common.{◌≡◌, ◌<◌, ◌≤◌, ◌+◌, ℕ, zero, suc, true, false, cond, eqb, List, [], ◌∷◌, length, refl, ap, slice_index, arith}
use Rattle.std.proofs.lemmas.Bool.{false≢true}
use Rattle.xc_theory.specs.Bounds.{first_meet, first_join}
use Rattle.xc_theory.proofs.Facts.{two, chain}
use Rattle.xc_theory.specs.Chains as tables
use Rattle.xc_theory.specs.Lattices.{LatticeData}
use Rattle.xc_alg.specs.Operations.{Operations, IsAlgebra}
use Rattle.xc_alg.specs.Products.{product}
use Rattle.xc_alg.proofs.Parts.{single, single_laws}
use Rattle.xc_alg.proofs.Products.{product_laws}
use Rattle.xc_alg.proofs.Facts.{two_is_lawful, chain_is_lawful, parts_are_lawful}
use Rattle.xc_fixpoint.specs.Functions.{IsFunction, Agree, Before, AreBelow}
use Rattle.xc_fixpoint.specs.Steps.{Step, IsMonotone, IsStepBelow}
use Rattle.xc_fixpoint.specs.Fixpoints.{IsFixpoint, IsLeastFixpoint, IsGreatestFixpoint}
use Rattle.xc_fixpoint.specs.Iterates.{iterate, AreUnsettled, Settles}
use Rattle.xc_fixpoint.specs.Heights.{IsChain, IsHeight}
use Rattle.xc_fixpoint.specs.Lists.{values, AreListsBefore, IsFixedList, IsExtremalList}
use Rattle.xc_fixpoint.proofs.Chains.{chain_fits}
use Rattle.xc_fixpoint.proofs.Lists.{agree_of_values, list_of_extremal}
use Rattle.xc_fixpoint.proofs.ProductHeights.{chain_of_part, height_of_product}

-- F and T, which are 0 and 1
abbrev pub truth : Operations
truth = product (two ∷ [])

pub truth_laws : IsAlgebra truth
truth_laws = product_laws (two ∷ []) (two_is_lawful, omega arith, tt)

-- two states take two values; a third would take one that is none
pub functions : IsFunction truth 2 (λ s. s)
unfolding product
functions = λ s low. low

pub no_function : IsFunction truth 3 (λ s. s) → ⊥
unfolding product
no_function h = let wrong : 2 < 2 = h 2 (omega arith) in omega (arith, wrong)

-- at state 0 they agree, at state 1 they do not
pub agree : Agree 1 (λ s. s) (λ s. 0)
agree = λ s low. omega arith

pub not_agree : Agree 2 (λ s. s) (λ s. 0) → ⊥
not_agree h = let wrong : 1 ≡ 0 = h 1 (omega arith) in omega (arith, wrong)

-- going up F comes before T, going down T before F
pub before : Before truth true 0 1 × Before truth false 1 0
unfolding product
before = (refl, refl)

pub not_before : Before truth true 1 0 → ⊥
unfolding product
not_before h = false≢true h

pub not_below : AreBelow truth 2 (λ s. s) (λ s. 0) → ⊥
unfolding product
not_below h = false≢true (h 1 (omega arith))

-- the step that leaves all as it is; every function is a fixpoint of it, F everywhere the least and T everywhere the greatest
abbrev pub stay : Step
stay f = f

pub stay_is_monotone : IsMonotone truth 2 stay
stay_is_monotone = record { in_range = λ f h. h; larger = λ f g hf hg h. h }

pub bottom_stays : IsFixpoint truth 2 stay (λ s. 0)
unfolding product
bottom_stays = record { in_range = λ s low. omega arith; fixed = λ s low. refl }

pub top_stays : IsFixpoint truth 2 stay (λ s. 1)
unfolding product
top_stays = record { in_range = λ s low. omega arith; fixed = λ s low. refl }

pub bottom_is_least : IsLeastFixpoint truth 2 stay (λ s. 0)
unfolding product first_join
bottom_is_least = record { fixpoint = bottom_stays; first = λ g h s low. truth_laws.bottom_below (g s) (h.in_range s low) }

pub top_is_greatest : IsGreatestFixpoint truth 2 stay (λ s. 1)
unfolding product first_meet
top_is_greatest = record { fixpoint = top_stays; first = λ g h s low. truth_laws.top_above (g s) (h.in_range s low) }

pub top_is_not_least : IsLeastFixpoint truth 2 stay (λ s. 1) → ⊥
unfolding product
top_is_not_least h = false≢true (h.first (λ s. 0) bottom_stays 0 (omega arith))

pub bottom_is_not_greatest : IsGreatestFixpoint truth 2 stay (λ s. 0) → ⊥
unfolding product
bottom_is_not_greatest h = false≢true (h.first (λ s. 1) top_stays 0 (omega arith))

-- what a step changes is no fixpoint, even at the last state alone or where a second step changes it back, and 2 is no element
pub not_fixed : IsFixpoint truth 2 (λ f s. 1) (λ s. 0) → ⊥
not_fixed h = let wrong : 0 ≡ 1 = h.fixed 0 (omega arith) in omega (arith, wrong)

pub changed_at_last : IsFixpoint truth 2 (λ f s. 0) (λ s. s) → ⊥
changed_at_last h = let wrong : 1 ≡ 0 = h.fixed 1 (omega arith) in omega (arith, wrong)

pub changed_back : IsFixpoint truth 2 (λ f s. truth.negation (f s)) (λ s. 0) → ⊥
unfolding product
changed_back h = let wrong : 0 ≡ 1 = h.fixed 0 (omega arith) in omega (arith, wrong)

pub stays_out_of_range : IsFixpoint truth 3 stay (λ s. s) → ⊥
unfolding product
stays_out_of_range h = let wrong : 2 < 2 = h.in_range 2 (omega arith) in omega (arith, wrong)

-- negation turns the order, and 2 is no element
pub negation_is_not_monotone : IsMonotone truth 2 (λ f s. truth.negation (f s)) → ⊥
unfolding product
negation_is_not_monotone h =
    false≢true (h.larger (λ s. 0) (λ s. 1) (λ s low. omega arith) (λ s low. omega arith) (λ s low. refl) 0 (omega arith))

-- even at the last state alone
pub negation_at_last : IsMonotone truth 2 (λ f s. cond (eqb s 0) 0 (truth.negation (f s))) → ⊥
unfolding product
negation_at_last h = false≢true (h.larger (λ s. 0) (λ s. 1) (λ s low. omega arith) (λ s low. omega arith) (λ s low. refl) 1 (omega arith))

pub out_of_range : IsMonotone truth 2 (λ f s. 2) → ⊥
unfolding product
out_of_range h = let wrong : 2 < 2 = h.in_range (λ s. 0) (λ s low. omega arith) 0 (omega arith) in omega (arith, wrong)

-- F everywhere is below T everywhere, and not the other way round
pub step_below : IsStepBelow truth 2 (λ f s. 0) (λ f s. 1)
unfolding product
step_below = λ f h s low. refl

pub step_not_below : IsStepBelow truth 2 (λ f s. 1) (λ f s. 0) → ⊥
unfolding product
step_not_below h = false≢true (h (λ s. 0) (λ s low. omega arith) 0 (omega arith))

pub not_below_at_last : IsStepBelow truth 2 (λ f s. s) (λ f s. 0) → ⊥
unfolding product
not_below_at_last h = false≢true (h (λ s. 0) (λ s low. omega arith) 1 (omega arith))

-- three states in a row, of which the last one is a goal: T at the states from which it is reached
abbrev pub reach : Step
reach f s = cond (eqb s 2) 1 (f (s + 1))

-- going up, a state more at each iterate; going down T stays everywhere
pub iterates : (values 3 (iterate truth true reach 0) ≡ 0 ∷ 0 ∷ 0 ∷ []) × (values 3 (iterate truth true reach 1) ≡ 0 ∷ 0 ∷ 1 ∷ []) × (values 3 (iterate truth true reach 2) ≡ 0 ∷ 1 ∷ 1 ∷ [])
    × (values 3 (iterate truth true reach 3) ≡ 1 ∷ 1 ∷ 1 ∷ []) × (values 3 (iterate truth false reach 0) ≡ 1 ∷ 1 ∷ 1 ∷ [])
unfolding product first_meet first_join
iterates = (refl, refl, refl, refl, refl)

-- so going up they settle at 3, the most that three states and a height of 1 allow; going down at 0
unsettled : AreUnsettled truth true 3 reach 3
unfolding product first_join
unsettled zero low same = let wrong : 0 ≡ 1 = same 2 (omega arith) in omega (arith, wrong)
unsettled (suc zero) low same = let wrong : 0 ≡ 1 = same 1 (omega arith) in omega (arith, wrong)
unsettled (suc (suc zero)) low same = let wrong : 0 ≡ 1 = same 0 (omega arith) in omega (arith, wrong)
unsettled (suc (suc (suc j))) low same = absurd (omega arith)

pub settles_up : Settles truth true 3 reach 3
unfolding product first_join
settles_up = record { settled = agree_of_values 3 (iterate truth true reach 3) (iterate truth true reach 4) refl; unsettled = unsettled }

pub settles_down : Settles truth false 3 reach 0
unfolding product first_meet
settles_down = record { settled = agree_of_values 3 (iterate truth false reach 0) (iterate truth false reach 1) refl; unsettled = λ j low same. absurd (omega arith) }

pub not_before_three : Settles truth true 3 reach 2 → ⊥
unfolding product first_join
not_before_three h = let wrong : 0 ≡ 1 = h.settled 0 (omega arith) in omega (arith, wrong)

-- at 0 they agree with the next one at the first state alone, and 4 is not the least number
pub not_at_once : Settles truth true 3 reach 0 → ⊥
unfolding product first_join
not_at_once h = let wrong : 0 ≡ 1 = h.settled 2 (omega arith) in omega (arith, wrong)

pub not_after_three : Settles truth true 3 reach 4 → ⊥
unfolding product first_join
not_after_three h = h.unsettled 3 (omega arith) (agree_of_values 3 (iterate truth true reach 3) (iterate truth true reach 4) refl)

-- F, T is a longest chain
pub height_of_truth : IsHeight truth 1
unfolding product
height_of_truth = record { chain = 0 ∷ 1 ∷ []; is_chain = (omega arith, refl, (λ e. omega (arith, e)), omega arith); reached = refl; greatest = λ xs is. chain_fits truth truth_laws xs is }

pub lower_than_two : IsHeight truth 2 → ⊥
unfolding product
lower_than_two h = let fits : length h.chain ≤ 2 = chain_fits truth truth_laws h.chain h.is_chain in let reached : length h.chain ≡ 3 = h.reached in omega (arith, fits, reached)

pub no_element_in_chain : IsChain truth (2 ∷ []) → ⊥
unfolding product
no_element_in_chain h = let wrong : 2 < 2 = h in omega (arith, wrong)

height_of_two : tables.IsHeight two.order 1
height_of_two =
    record {
      chain = 0 ∷ 1 ∷ [];
      is_chain = (omega arith, refl, (λ e. omega (arith, e)), omega arith);
      reached = refl;
      greatest = λ xs is. chain_fits (single two) (single_laws two two_is_lawful (omega arith)) xs (chain_of_part two xs is);
    }

height_of_chain : tables.IsHeight chain.order 2
height_of_chain =
    record {
      chain = 0 ∷ 1 ∷ 2 ∷ [];
      is_chain = (omega arith, refl, (λ e. omega (arith, e)), (omega arith, refl, (λ e. omega (arith, e)), omega arith));
      reached = refl;
      greatest = λ xs is. chain_fits (single chain) (single_laws chain chain_is_lawful (omega arith)) xs (chain_of_part chain xs is);
    }

-- a view over two and one over the chain
abbrev pub parts : List LatticeData
parts = two ∷ chain ∷ []

-- in the product of two and the chain F,F F,M T,M T,T is a chain of three steps; T,F and F,T are in no chain
pub three_steps : IsChain (product parts) (0 ∷ 1 ∷ 4 ∷ 5 ∷ [])
unfolding product
three_steps = (omega arith, refl, (λ e. omega (arith, e)), (omega arith, refl, (λ e. omega (arith, e)), (omega arith, refl, (λ e. omega (arith, e)), omega arith)))

pub three_high : IsHeight (product parts) 3
three_high = height_of_product parts (1 ∷ 2 ∷ []) parts_are_lawful (height_of_two, (height_of_chain, tt))

pub no_chain : IsChain (product parts) (3 ∷ 2 ∷ []) → ⊥
unfolding product
no_chain h = false≢true h.1

pub no_steps : IsChain (product parts) (3 ∷ 3 ∷ []) → ⊥
no_steps h = h.2 refl

pub higher_than_two : IsHeight (product parts) 2 → ⊥
higher_than_two h = let wrong : 4 ≤ 3 = h.greatest (0 ∷ 1 ∷ 4 ∷ 5 ∷ []) three_steps in omega (arith, wrong)

-- as lists: F, F is the least that stays as it is, and T, T is not; a list of one element is no function of two states
pub bottom_list_stays : IsFixedList truth 2 stay (0 ∷ 0 ∷ [])
unfolding product
bottom_list_stays = record { sized = refl; elements = (omega arith, (omega arith, tt)); fixed = refl }

pub least_list : IsExtremalList truth true 2 stay (0 ∷ 0 ∷ [])
least_list = list_of_extremal truth truth_laws 2 stay stay_is_monotone true (λ s. 0) bottom_is_least

pub not_least_list : IsExtremalList truth true 2 stay (1 ∷ 1 ∷ []) → ⊥
unfolding product
not_least_list h = false≢true (h.first (0 ∷ 0 ∷ []) bottom_list_stays).0

pub too_short : IsFixedList truth 2 stay (0 ∷ []) → ⊥
too_short h = let wrong : 1 ≡ 2 = h.sized in omega (arith, wrong)

pub no_element : IsFixedList truth 2 stay (0 ∷ 2 ∷ []) → ⊥
unfolding product
no_element h = let wrong : 2 < 2 = h.elements.1.0 in omega (arith, wrong)

pub changed_list : IsFixedList truth 3 reach (0 ∷ 0 ∷ 0 ∷ []) → ⊥
changed_list h = let wrong : 1 ≡ 0 = ap (λ (xs : List ℕ). slice_index xs 2) h.fixed in omega (arith, wrong)

pub changed_list_back : IsFixedList truth 2 (λ f s. truth.negation (f s)) (0 ∷ 0 ∷ []) → ⊥
unfolding product
changed_list_back h = let wrong : 1 ≡ 0 = ap (λ (xs : List ℕ). slice_index xs 0) h.fixed in omega (arith, wrong)

pub no_counterpart : AreListsBefore truth true (0 ∷ []) (0 ∷ 1 ∷ []) → ⊥
no_counterpart h = h.1

pub too_many : AreListsBefore truth true (0 ∷ 1 ∷ []) (0 ∷ []) → ⊥
too_many h = h.1

pub last_not_before : AreListsBefore truth true (0 ∷ 1 ∷ []) (0 ∷ 0 ∷ []) → ⊥
unfolding product
last_not_before h = false≢true h.1.0
