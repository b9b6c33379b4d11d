-- The rows that are kept tell the values of the transitions.
use Rattle.std.proofs.Common.{◌≡◌, ◌≢◌, ℕ, ◌+◌, ◌-◌, ◌*◌, ◌<◌, ◌≤◌, List, [], ◌∷◌, ◌++◌, length, map, get_or, slice_index, refl, sym, ◌∙◌, ap, subst, arith, inl, inr, ◌⊎◌}
use Rattle.std.specs.List.{range_with_len}
use Rattle.std.proofs.lemmas.Bool.{cases_lt, cases_eq}
use Rattle.std.proofs.lemmas.List.{get_or_append_left, get_or_push, length_push}
use Rattle.xc_theory.specs.Lattices.{LatticeData}
use Rattle.xc_alg.specs.Operations.{Operations, IsAlgebra}
use Rattle.xc_alg.specs.Products.{product}
use Rattle.xc_alg.specs.Bounds.{joined}
use Rattle.xc_alg.proofs.AlgebraLaws.{meet_commutes, meet_with_bottom, join_commutes, join_with_bottom, joined_are_joins}
use Rattle.xc_fixpoint.specs.Functions.{IsFunction}
use Rattle.xc_fixpoint.specs.Lists.{values}
use Rattle.xc_fixpoint.proofs.Lists.{values_of_agree, values_in_list, elements_from}
use Rattle.xc_plain.specs.declared.row.Successor.{Successor}
use Rattle.xc_plain.specs.declared.row.Row.{Row}
use Rattle.xc_plain.specs.declared.row.Row.TheVariants.{Few, Each}
use Rattle.xc_plain.specs.Successors.{IsRow, AreSuccessors, few_joined, weighed_from, IsRowOf, row_at}
use Rattle.xc_plain.proofs.Joining.{weighed_more}

-- no successors
pub no_successors : (size n : ℕ) → AreSuccessors size n []
no_successors size n = record { states = λ i other low. absurd (omega arith); values = λ i other low. absurd (omega arith) }

more_states : (size n : ℕ) (few : List Successor) (here : Successor) → AreSuccessors size n few → here.state < n → (i : ℕ) (other : Successor) → i < length (few ++ here ∷ []) → ((i < length few) ⊎ (length few ≤ i)) → (get_or (few ++ here ∷ []) i other).state < n
more_states size n few here are low i other within (inl before) = rw (get_or_append_left few (here ∷ []) other i before) (are.states i other before)
more_states size n few here are low i other within (inr last) = rw (get_or_push few here other i (omega (arith, length_push few here))) low

more_values : (size n : ℕ) (few : List Successor) (here : Successor) → AreSuccessors size n few → here.value < size → (i : ℕ) (other : Successor) → i < length (few ++ here ∷ []) → ((i < length few) ⊎ (length few ≤ i)) → (get_or (few ++ here ∷ []) i other).value < size
more_values size n few here are low i other within (inl before) = rw (get_or_append_left few (here ∷ []) other i before) (are.values i other before)
more_values size n few here are low i other within (inr last) = rw (get_or_push few here other i (omega (arith, length_push few here))) low

successors_more : (size n : ℕ) (few : List Successor) (here : Successor) → AreSuccessors size n few → here.state < n → here.value < size → AreSuccessors size n (few ++ here ∷ [])
successors_more size n few here are low within =
    record {
      states = λ i other h. more_states size n few here are low i other h (cases_lt i (length few));
      values = λ i other h. more_values size n few here are within i other h (cases_lt i (length few));
    }

-- what a push leaves: the same successors, or one more
pub successors_pushed : (size n bottom state value : ℕ) (few new : List Successor) → AreSuccessors size n few → state < n → value < size → (value ≡ bottom → new ≡ few) → (value ≢ bottom → new ≡ few ++ record { state = state; value = value } ∷ []) → AreSuccessors size n new
successors_pushed size n bottom state value few new are low within left pushed =
    elim (cases_eq value bottom) [
      | inl same ↦ subst (AreSuccessors size n) (sym (left same)) are
      | inr other ↦ subst (AreSuccessors size n) (sym (pushed other)) (successors_more size n few (record { state = state; value = value }) are low within)
    ]

-- what the bottom weighs adds nothing
weighs_nothing : (o : Operations) (step value sum : ℕ) → IsAlgebra o → step ≡ o.bottom → value < o.size → sum < o.size → sum ≡ o.join (o.meet step value) sum
weighs_nothing o step value sum laws e value_in sum_in =
    let nothing : o.meet step value ≡ o.bottom = ap (λ (x : ℕ). o.meet x value) e ∙ meet_commutes o laws o.bottom value laws.bottom_in_range value_in ∙ meet_with_bottom o laws value value_in in
    sym (ap (λ (x : ℕ). o.join x sum) nothing ∙ join_commutes o laws o.bottom sum laws.bottom_in_range sum_in ∙ join_with_bottom o laws sum sum_in)

-- what states weigh is an element
weighed_in_range : (o : Operations) (laws : IsAlgebra o) (n : ℕ) (row : List ℕ) (f : ℕ → ℕ) (k m : ℕ) → k + m ≤ n → IsRow o.size n row → IsFunction o n f → weighed_from o (slice_index row) f k m < o.size
unfolding weighed_from
weighed_in_range o laws n row f k m low is within =
    (joined_are_joins o laws (map (λ t. o.meet (slice_index row t) (f t)) (range_with_len k m))
    (elements_from o.size k m (λ t. o.meet (slice_index row t) (f t)) (λ t up here. laws.meet_in_range (slice_index row t) (f t) (is.range t (omega arith)) (within t (omega arith))))).in_range

-- one successor more is joined last
joined_more : (o : Operations) (f : ℕ → ℕ) (sum : ℕ) (few : List Successor) (here : Successor) → few_joined o f sum (few ++ here ∷ []) ≡ o.join (o.meet here.value (f here.state)) (few_joined o f sum few)
joined_more o f sum [] here = refl
joined_more o f sum (first ∷ more) here = joined_more o f (o.join (o.meet first.value (f first.state)) sum) more here

-- the successors among the states from one on are joined to what those states weigh
abbrev pub AreJoined : Operations → List ℕ → ℕ → ℕ → List Successor → Type 0
AreJoined o row n k few = (f : ℕ → ℕ) → IsFunction o n f → few_joined o f o.bottom few ≡ weighed_from o (slice_index row) f k (n - k)

pub joined_pushed : (o : Operations) (laws : IsAlgebra o) (n state next bottom value : ℕ) (row : List ℕ) (few new : List Successor) → next ≡ state + 1 → bottom ≡ o.bottom → IsRow o.size n row → state < n → value ≡ slice_index row state
    → AreJoined o row n next few → (value ≡ bottom → new ≡ few) → (value ≢ bottom → new ≡ few ++ record { state = state; value = value } ∷ []) → AreJoined o row n state new
joined_pushed o laws n state next bottom value row few new e none is low here before left pushed f within =
    let rest : few_joined o f o.bottom few ≡ weighed_from o (slice_index row) f (state + 1) (n - (state + 1)) = subst (λ (k : ℕ). few_joined o f o.bottom few ≡ weighed_from o (slice_index row) f k (n - k)) e (before f within) in
    let all = weighed_more o (slice_index row) f n state (n - (state + 1)) refl low in
    let small = weighed_in_range o laws n row f (state + 1) (n - (state + 1)) (omega arith) is within in
    elim (cases_eq value bottom) [
      | inl same ↦
          ap (few_joined o f o.bottom) (left same)
          ∙ (rest ∙ (weighs_nothing o (slice_index row state) (f state) (weighed_from o (slice_index row) f (state + 1) (n - (state + 1))) laws (sym here ∙ (same ∙ none)) (within state low) small ∙ sym all))
      | inr other ↦
          ap (few_joined o f o.bottom) (pushed other)
          ∙ (joined_more o f o.bottom few (record { state = state; value = value })
          ∙ (ap (λ (x : ℕ). o.join (o.meet x (f state)) (few_joined o f o.bottom few)) here
          ∙ (ap (o.join (o.meet (slice_index row state) (f state))) rest ∙ sym all)))
    ]

-- before the last state there is nothing to join
pub joined_none : (o : Operations) (n k : ℕ) (row : List ℕ) → k ≡ n → AreJoined o row n k []
unfolding weighed_from
joined_none o n k row e f within = let none : n - k ≡ 0 = omega arith in rw none refl

-- a row of all values, and a row of few
same_relation : (o : Operations) (n : ℕ) (relation f : ℕ → ℕ) (row : List ℕ) → length row ≡ n → row ≡ values n relation → weighed_from o (slice_index row) f 0 (length row) ≡ weighed_from o relation f 0 n
unfolding weighed_from
same_relation o n relation f row count e =
    ap (λ (k : ℕ). joined o (values k (λ t. o.meet (slice_index row t) (f t)))) count
    ∙ ap (joined o) (values_of_agree n (λ t. o.meet (slice_index row t) (f t)) (λ t. o.meet (relation t) (f t)) (λ t low. ap (λ (x : ℕ). o.meet x (f t)) (values_in_list n relation row e t low)))

pub row_of_each : (o : Operations) (n : ℕ) (relation : ℕ → ℕ) (row : List ℕ) → IsRow o.size n row → row ≡ values n relation → IsRowOf o n relation (Each row)
row_of_each o n relation row is e = record { safe = is; small = omega (arith, is.count); told = λ f within. same_relation o n relation f row is.count e }

pub row_of_few : (p q : List LatticeData) (n m : ℕ) (relation : ℕ → ℕ) (row read : List ℕ) (few : List Successor) → p ≡ q → read ≡ row → m ≡ length read → IsRow (product q).size n row → row ≡ values n relation
    → AreSuccessors (product p).size m few → ((f : ℕ → ℕ) → IsFunction (product p) m f → few_joined (product p) f (product p).bottom few ≡ weighed_from (product p) (slice_index read) f 0 m) → 2 * length few ≤ m → IsRowOf (product q) n relation (Few few)
row_of_few p q n m relation row read few e same sized is made are told small =
    let count : m ≡ n = sized ∙ (ap length same ∙ is.count) in
    let safe : AreSuccessors (product q).size n few = subst (λ (k : ℕ). AreSuccessors (product q).size k few) count (subst (λ (parts : List LatticeData). AreSuccessors (product parts).size m few) e are) in
    let all : (f : ℕ → ℕ) → IsFunction (product q) m f → few_joined (product q) f (product q).bottom few ≡ weighed_from (product q) (slice_index read) f 0 m
    = subst (λ (parts : List LatticeData). (f : ℕ → ℕ) → IsFunction (product parts) m f → few_joined (product parts) f (product parts).bottom few ≡ weighed_from (product parts) (slice_index read) f 0 m) e told in
    record {
      safe = safe;
      small = omega (arith, count, small);
      told = λ f within.
          all f (λ s low. within s (omega arith))
          ∙ (ap (λ (xs : List ℕ). weighed_from (product q) (slice_index xs) f 0 m) same ∙ (ap (weighed_from (product q) (slice_index row) f 0) (sized ∙ ap length same) ∙ same_relation (product q) n relation f row is.count made));
    }

-- the rows of the first states, and of one state more
row_kept : (o : Operations) (n : ℕ) (relation : ℕ → ℕ → ℕ) (rows : List Row) (row : Row) → ((s : ℕ) → s < length rows → IsRowOf o n (relation s) (row_at rows s)) → IsRowOf o n (relation (length rows)) row
    → (s : ℕ) → s < length rows + 1 → ((s < length rows) ⊎ (length rows ≤ s)) → IsRowOf o n (relation s) (row_at (rows ++ row ∷ []) s)
row_kept o n relation rows row are is s low (inl before) = rw (get_or_append_left rows (row ∷ []) (Each []) s before) (are s before)
row_kept o n relation rows row are is s low (inr here) =
    let last : length rows ≡ s = omega arith in
    rw (get_or_push rows row (Each []) s last) (subst (λ (k : ℕ). IsRowOf o n (relation k) row) last is)

pub rows_kept : (o : Operations) (n k : ℕ) (relation : ℕ → ℕ → ℕ) (rows new : List Row) (row : Row) → length rows ≡ k → ((s : ℕ) → s < k → IsRowOf o n (relation s) (row_at rows s)) → IsRowOf o n (relation k) row → new ≡ rows ++ row ∷ []
    → (s : ℕ) → s < k + 1 → IsRowOf o n (relation s) (row_at new s)
rows_kept o n k relation rows new row count are is e s low =
    rw e (row_kept o n relation rows row (λ t h. are t (omega arith)) (subst (λ (j : ℕ). IsRowOf o n (relation j) row) (sym count) is) s (omega arith) (cases_lt s (length rows)))
