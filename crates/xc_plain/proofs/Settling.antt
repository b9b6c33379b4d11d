-- The loop over the iterates of a fixpoint.
use Rattle.std.proofs.Common.{◌≡◌, ℕ, ◌+◌, ◌-◌, ◌*◌, ◌<◌, ◌≤◌, Bool, true, false, eqb, List, [], ◌∷◌, ◌++◌, length, slice_index, sym, ap, subst, ◌∙◌, arith, inl, inr, ◌⊎◌}
use Rattle.std.specs.Cmp.Lexicographic.{pointwise}
use Rattle.std.specs.List.{slice_index_or}
use Rattle.std.proofs.lemmas.Slice.Eq.{slice_eq-Decides}
use Rattle.std.proofs.lemmas.Bool.Decides.{Decides-eqb, not_from_Decides}
use Rattle.std.proofs.lemmas.Bool.{cases_lt}
use Rattle.std.proofs.lemmas.List.{get_or_append_left, get_or_push, length_push}
use Rattle.xc_alg.specs.Operations.{Operations, IsAlgebra}
use Rattle.xc_alg.specs.Tables.{entry}
use Rattle.xc_fixpoint.specs.Functions.{Agree}
use Rattle.xc_fixpoint.specs.Steps.{Step, IsMonotone}
use Rattle.xc_fixpoint.specs.Iterates.{start, iterate, Settles}
use Rattle.xc_fixpoint.specs.Lists.{values}
use Rattle.xc_fixpoint.proofs.Rounds.{IsRound}
use Rattle.xc_fixpoint.proofs.ListRounds.{first_list, next_list, list_leaves_less_of_size, last_list_settles}
use Rattle.xc_plain.specs.Successors.{IsRow}
use Rattle.xc_plain.specs.Settled.{AreRowsOver, AreIterates, AreRounds}

-- what the comparison of two rows tells
pub equal_rows : (a b xs ys : List ℕ) (r : Bool) → a ≡ xs → b ≡ ys → r ≡ pointwise eqb a b → (r ≡ true → xs ≡ ys) × (r ≡ false → xs ≡ ys → ⊥)
equal_rows a b xs ys r ea eb e =
    let decides = slice_eq-Decides Decides-eqb a b r e in
    ((λ t. sym ea ∙ (decides.0 t ∙ eb)), λ f same. not_from_Decides r decides f (ea ∙ (same ∙ sym eb)))

-- a table with one row more
row_more : (size n : ℕ) (rows : List (List ℕ)) (row : List ℕ) → AreRowsOver size n rows → IsRow size n row → (k : ℕ) → k < length (rows ++ row ∷ []) → ((k < length rows) ⊎ (length rows ≤ k)) → IsRow size n (slice_index_or (rows ++ row ∷ []) k [])
row_more size n rows row are is k h (inl before) = rw (get_or_append_left rows (row ∷ []) [] k before) (are.each k before)
row_more size n rows row are is k h (inr here) = rw (get_or_push rows row [] k (omega (arith, length_push rows row))) is

pub rows_more : (size n : ℕ) (rows : List (List ℕ)) (row : List ℕ) → AreRowsOver size n rows → IsRow size n row → AreRowsOver size n (rows ++ row ∷ [])
rows_more size n rows row are is = record { each = λ k h. row_more size n rows row are is k h (cases_lt k (length rows)) }

module _ (o : Operations) (laws : IsAlgebra o) (up : Bool) (n : ℕ) (step : Step) where
  -- no iterates
  pub no_iterates : AreIterates o up n step []
  no_iterates = record { shape = record { each = λ k low. absurd (omega arith) }; same = λ k low. absurd (omega arith) }

  iterate_at : (rows : List (List ℕ)) (row : List ℕ) → AreIterates o up n step rows → Agree n (slice_index row) (iterate o up step (length rows)) → (k : ℕ) → k < length (rows ++ row ∷ []) → ((k < length rows) ⊎ (length rows ≤ k))
      → Agree n (entry (rows ++ row ∷ []) k) (iterate o up step k)
  iterate_at rows row are round k h (inl before) = rw (get_or_append_left rows (row ∷ []) [] k before) (are.same k before)
  iterate_at rows row are round k h (inr here) =
      let last : length rows ≡ k = omega (arith, length_push rows row) in
      rw (get_or_push rows row [] k last) (subst (λ (j : ℕ). Agree n (slice_index row) (iterate o up step j)) last round)

  -- one iterate more
  pub iterates_more : (rows new : List (List ℕ)) (row : List ℕ) → AreIterates o up n step rows → IsRow o.size n row → IsRound o up n step (length rows) (slice_index row) → new ≡ rows ++ row ∷ [] → AreIterates o up n step new
  iterates_more rows new row are is round e =
      rw e (record { shape = rows_more o.size n rows row are.shape is; same = λ k h. iterate_at rows row are round.same k h (cases_lt k (length rows)) })

  module _ (monotone : IsMonotone o n step) where
    -- the row of the next round, made of that of this one
    made : (row seen next : List ℕ) (m : ℕ) → IsRow o.size n row → seen ≡ row → m ≡ length seen → next ≡ values m (step (slice_index seen)) → next ≡ values n (step (slice_index row))
    made row seen next m is same count e =
        let sized : m ≡ n = count ∙ (ap length same ∙ is.count) in
        e ∙ (ap (λ (k : ℕ). values k (step (slice_index seen))) sized ∙ ap (λ (xs : List ℕ). values n (step (slice_index xs))) same)

    module _ (rows new : List (List ℕ)) (row seen next : List ℕ) (m : ℕ) (is : IsRow o.size n row) (round : IsRound o up n step (length rows) (slice_index row)) (same : seen ≡ row) (count : m ≡ length seen)
        (e : next ≡ values m (step (slice_index seen))) (pushed : new ≡ rows ++ row ∷ []) where
      longer : length new ≡ length rows + 1
      longer = ap length pushed ∙ length_push rows row

      pub round_next : (next ≡ row → ⊥) → IsRound o up n step (length new) (slice_index next)
      round_next apart = next_list o laws up n step monotone (length rows) row next is.count round (made row seen next m is same count e) (length new) longer apart

      pub rounds_left : (next ≡ row → ⊥) → n * o.size - length new < n * o.size - length rows
      rounds_left apart = omega (arith, longer, list_leaves_less_of_size o laws up n step monotone (length rows) row next is.count round (made row seen next m is same count e) apart)

      pub rounds_settled : AreIterates o up n step rows → next ≡ row → AreRounds o up n step new
      rounds_settled are equal =
          let last : length rows ≡ length new - 1 = omega (arith, longer) in
          record {
            some = omega (arith, longer);
            iterates = iterates_more rows new row are is round pushed;
            settles = subst (Settles o up n step) last (last_list_settles o laws up n step monotone (length rows) row next is.count round (made row seen next m is same count e) equal);
          }

    -- the loop begins with no iterate
    pub rounds_begun : (rows : List (List ℕ)) (row : List ℕ) (code : ℕ) → rows ≡ [] → row ≡ values n (λ s. code) → code ≡ start o up → IsRound o up n step (length rows) (slice_index row)
    rounds_begun rows row code none made e = rw none (first_list o laws up n step monotone row (made ∙ ap (λ (x : ℕ). values n (λ s. x)) e))

  pub iterates_begun : (rows : List (List ℕ)) → rows ≡ [] → AreIterates o up n step rows
  iterates_begun rows none = rw none no_iterates
