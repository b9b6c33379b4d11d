-- A function is an extremal fixpoint exactly where the list of its values is that among lists.
use Rattle.std.proofs.Common.{◌≡◌, ℕ, zero, suc, ◌+◌, ◌<◌, ◌≤◌, Bool, List, [], ◌∷◌, length, map, slice_index, refl, sym, ap, subst, ◌∙◌, arith, ◌++◌}
use Rattle.std.specs.List.{range_with_len}
use Rattle.std.proofs.lemmas.List.FromFn.{length-map-range_with_len, get_or-map-range_with_len, map-range_with_len_more, fill_by_all}
use Rattle.xc_alg.specs.Operations.{Operations, IsAlgebra}
use Rattle.xc_alg.specs.Bounds.{AreElements}
use Rattle.xc_fixpoint.specs.Functions.{IsFunction, Agree, Before, AreBefore}
use Rattle.xc_fixpoint.specs.Steps.{Step, IsMonotone}
use Rattle.xc_fixpoint.specs.Fixpoints.{IsFixpoint, IsExtremal}
use Rattle.xc_fixpoint.specs.Lists.{values, AreListsBefore, IsFixedList, IsExtremalList}
use Rattle.xc_fixpoint.proofs.Directions.{agree-function, step_keeps_agree}

-- the values of a function, and the function of a list
pub length-values : (n : ℕ) (f : ℕ → ℕ) → length (values n f) ≡ n
length-values n f = length-map-range_with_len f 0 n

pub value_at : (n : ℕ) (f : ℕ → ℕ) → Agree n (slice_index (values n f)) f
value_at n f s low = get_or-map-range_with_len f 0 n s s 0 low (omega arith)

pub values_in_list : (n : ℕ) (f : ℕ → ℕ) (xs : List ℕ) → xs ≡ values n f → Agree n (slice_index xs) f
values_in_list n f xs e s low = ap (λ (ys : List ℕ). slice_index ys s) e ∙ value_at n f s low

pub values_of_list : (n : ℕ) (xs : List ℕ) → length xs ≡ n → values n (slice_index xs) ≡ xs
values_of_list n xs sized = sym (fill_by_all (slice_index xs) xs n 0 sized (λ k low. refl))

-- one value more
pub values_pushed : (n : ℕ) (f : ℕ → ℕ) (row pushed : List ℕ) (x : ℕ) → row ≡ values n f → x ≡ f n → pushed ≡ row ++ x ∷ [] → pushed ≡ values (n + 1) f
values_pushed n f row pushed x before here e =
    e ∙ (ap (λ (xs : List ℕ). xs ++ x ∷ []) before ∙ (ap (λ (y : ℕ). values n f ++ y ∷ []) here ∙ sym (map-range_with_len_more f 0 n n (omega arith))))

-- functions agree where their values are the same list
pub values_of_agree : (n : ℕ) (f g : ℕ → ℕ) → Agree n f g → values n f ≡ values n g
values_of_agree n f g same = fill_by_all g (values n f) n 0 (length-values n f) (λ s low. value_at n f s low ∙ same s low)

pub agree_of_values : (n : ℕ) (f g : ℕ → ℕ) → values n f ≡ values n g → Agree n f g
agree_of_values n f g same s low = sym (value_at n f s low) ∙ (ap (λ (xs : List ℕ). slice_index xs s) same ∙ value_at n g s low)

pub same_list : (n : ℕ) (xs ys : List ℕ) → length xs ≡ n → length ys ≡ n → Agree n (slice_index xs) (slice_index ys) → xs ≡ ys
same_list n xs ys hx hy same = sym (values_of_list n xs hx) ∙ (values_of_agree n (slice_index xs) (slice_index ys) same ∙ values_of_list n ys hy)

pub elements_from : (size a n : ℕ) (f : ℕ → ℕ) → ((s : ℕ) → a ≤ s → s < a + n → f s < size) → AreElements size (map f (range_with_len a n))
elements_from size a zero f within = tt
elements_from size a (suc n) f within = (within a (omega arith) (omega arith), elements_from size (a + 1) n f (λ s low high. within s (omega arith) (omega arith)))

pub values_are_elements : (o : Operations) (n : ℕ) (f : ℕ → ℕ) → IsFunction o n f → AreElements o.size (values n f)
values_are_elements o n f within = elements_from o.size 0 n f (λ s low high. within s (omega arith))

element_at : (size : ℕ) (xs : List ℕ) (s : ℕ) → AreElements size xs → s < length xs → slice_index xs s < size
element_at size [] s h low = absurd (omega arith)
element_at size (x ∷ xs) zero h low = h.0
element_at size (x ∷ xs) (suc s) h low = element_at size xs s h.1 (omega arith)

pub list_is_function : (o : Operations) (n : ℕ) (xs : List ℕ) → length xs ≡ n → AreElements o.size xs → IsFunction o n (slice_index xs)
list_is_function o n xs sized h s low = element_at o.size xs s h (omega arith)

-- lists come before each other where their functions do
pub lists_before : (o : Operations) (up : Bool) (n : ℕ) (xs ys : List ℕ) → length xs ≡ n → length ys ≡ n → AreBefore o up n (slice_index xs) (slice_index ys) → AreListsBefore o up xs ys
lists_before o up n [] [] hx hy h = tt
lists_before o up n [] (y ∷ ys) hx hy h = absurd (omega arith)
lists_before o up n (x ∷ xs) [] hx hy h = absurd (omega arith)
lists_before o up n (x ∷ xs) (y ∷ ys) hx hy h = (h 0 (omega arith), lists_before o up (length xs) xs ys refl (omega arith) (λ s low. h (suc s) (omega arith)))

pub before_of_lists : (o : Operations) (up : Bool) (xs ys : List ℕ) (s : ℕ) → AreListsBefore o up xs ys → s < length xs → Before o up (slice_index xs s) (slice_index ys s)
before_of_lists o up [] ys s h low = absurd (omega arith)
before_of_lists o up (x ∷ xs) [] s h low = absurd h
before_of_lists o up (x ∷ xs) (y ∷ ys) zero h low = h.0
before_of_lists o up (x ∷ xs) (y ∷ ys) (suc s) h low = before_of_lists o up xs ys s h.1 (omega arith)

module _ (o : Operations) (laws : IsAlgebra o) (n : ℕ) (step : Step) (monotone : IsMonotone o n step) where
  -- what the step makes of a function depends on its values alone
  step_of_values : (f : ℕ → ℕ) → IsFunction o n f → Agree n (step (slice_index (values n f))) (step f)
  step_of_values f within = step_keeps_agree o laws n step monotone (slice_index (values n f)) f (agree-function o n f (slice_index (values n f)) (λ s low. sym (value_at n f s low)) within) within (value_at n f)

  pub list_of_fixpoint : (f : ℕ → ℕ) → IsFixpoint o n step f → IsFixedList o n step (values n f)
  list_of_fixpoint f h =
      record {
        sized = length-values n f;
        elements = values_are_elements o n f h.in_range;
        fixed = values_of_agree n (step (slice_index (values n f))) f (λ s low. step_of_values f h.in_range s low ∙ sym (h.fixed s low));
      }

  pub fixpoint_of_list : (xs : List ℕ) → IsFixedList o n step xs → IsFixpoint o n step (slice_index xs)
  fixpoint_of_list xs h =
      record {
        in_range = list_is_function o n xs h.sized h.elements;
        fixed = λ s low. sym (ap (λ (ys : List ℕ). slice_index ys s) h.fixed) ∙ value_at n (step (slice_index xs)) s low;
      }

  pub list_of_extremal : (up : Bool) (f : ℕ → ℕ) → IsExtremal o up n step f → IsExtremalList o up n step (values n f)
  list_of_extremal up f h =
      record {
        fixpoint = list_of_fixpoint f h.fixpoint;
        first = λ ys is.
            lists_before o up n (values n f) ys (length-values n f) is.sized
            (λ s low. subst (λ (x : ℕ). Before o up x (slice_index ys s)) (sym (value_at n f s low)) (h.first (slice_index ys) (fixpoint_of_list ys is) s low));
      }

  pub extremal_of_list : (up : Bool) (f : ℕ → ℕ) → IsExtremalList o up n step (values n f) → IsExtremal o up n step f
  extremal_of_list up f h =
      let within : IsFunction o n f = agree-function o n (slice_index (values n f)) f (value_at n f) (list_is_function o n (values n f) h.fixpoint.sized h.fixpoint.elements) in
      record {
        fixpoint =
            record {
              in_range = within;
              fixed = λ s low. sym (agree_of_values n (step (slice_index (values n f))) f h.fixpoint.fixed s low) ∙ step_of_values f within s low;
            };
        first = λ g is s low.
            let before = before_of_lists o up (values n f) (values n g) s (h.first (values n g) (list_of_fixpoint g is)) (omega (arith, length-values n f)) in
            subst (λ (x : ℕ). Before o up x (g s)) (value_at n f s low) (subst (λ (x : ℕ). Before o up (slice_index (values n f) s) x) (value_at n g s low) before);
      }

  -- and for any list
  pub extremal_in_list : (up : Bool) (xs : List ℕ) → IsExtremalList o up n step xs → IsExtremal o up n step (slice_index xs)
  extremal_in_list up xs h = extremal_of_list up (slice_index xs) (subst (λ (ys : List ℕ). IsExtremalList o up n step ys) (sym (values_of_list n xs h.fixpoint.sized)) h)
