-- Where both viewpoints fit, there is one initial state, and they merge.
use Rattle.std.proofs.Common.{◌≡◌, ℕ, zero, suc, ◌+◌, ◌-◌, ◌*◌, ◌<◌, ◌≤◌, ◌⊎◌, Bool, true, false, ◌&&◌, eqb, cond, List, [], ◌∷◌, ◌++◌, length, map, drop, get_or, slice_index, None, add-one, drop-cons, refl, sym, ◌∙◌, ap, subst, inl, inr, arith}
use Rattle.std.specs.List.{list_all, range_with_len, filter}
use Rattle.std.specs.Str.{bytes_eq}
use Rattle.std.proofs.lemmas.Bool.{and_parts, false≢true, eqb-true, cases_eq}
use Rattle.std.proofs.lemmas.List.{drop_all, length-map}
use Rattle.xc_theory.specs.Codes.{total, digits, code_of, AreDigits}
use Rattle.xc_theory.proofs.Codes.{digits_are_in_range, digits_of_codes, codes_of_digits}
use Rattle.xc_base.proofs.Naming.{same_bytes}
use Rattle.xc_forms.specs.Variables.{sizes_of}
use Rattle.xc_expr.specs.Tests.{holds_at}
use Rattle.xc_forms.specs.declared.domain.Domain.{Domain}
use Rattle.xc_sigmap_lines.specs.MapFiles.{MapValue}
use Rattle.xc_merge.specs.Merges.{Viewpoint}
use Rattle.xc_merge.specs.Projections.{source, carried, place_seen, row_seen, row_of, states_of, projection}
use Rattle.xc_merge.specs.MergedFrames.{is_initial_for, is_merged_initial, initials_of}
use Rattle.xc_merge.specs.Faults.{viewpoint_faults, all_faults, merge_fault}
use Rattle.xc_merge.specs.declared.fault.MergeFault.{MergeFault}
use Rattle.xc_gen_laws.specs.Readings.{merged}
use Rattle.xc_gen_laws.proofs.Checks.{chain, diamond, is_seen, are_seen, has_none, fits}
use Rattle.xc_gen_laws.proofs.Zeros.{are_zeros, zeros_hold, zero_code, below_two, no_more, as_many}

-- what a check says of a viewpoint
pub record Fits (plan : MapValue) (v : ℕ) (p : Viewpoint) : Type 0 where
  pub faultless : viewpoint_faults plan v p ≡ []
  pub begins : is_initial_for plan 0 v p ≡ true
  pub sized : sizes_of p.view.vars ≡ sizes_of plan.vars
  pub seen : are_seen plan v 0 p.view.vars ≡ true
  pub zeros : are_zeros (length p.view.vars - 1) p.view.init ≡ true

none_there : (faults : List MergeFault) → has_none faults ≡ true → faults ≡ []
none_there [] h = refl
none_there (fault ∷ more) h = absurd (false≢true h)

pub fits_so : (plan : MapValue) (v : ℕ) (p : Viewpoint) → fits plan v p ≡ true → Fits plan v p
fits_so plan v p h =
    let first = and_parts (has_none (viewpoint_faults plan v p)) _ h in
    let second = and_parts (is_initial_for plan 0 v p) _ first.1 in
    let third = and_parts (bytes_eq (sizes_of p.view.vars) (sizes_of plan.vars)) _ second.1 in
    let fourth = and_parts (are_seen plan v 0 p.view.vars) _ third.1 in
    record {
      faultless = none_there (viewpoint_faults plan v p) first.0;
      begins = second.0;
      sized = same_bytes (sizes_of p.view.vars) (sizes_of plan.vars) third.0;
      seen = fourth.0;
      zeros = fourth.1;
    }

-- a place of two
carried_digit : (f : ℕ → ℕ) (digit : ℕ) → f 0 ≡ 0 → f 1 ≡ 1 → digit < 2 → f digit ≡ digit
carried_digit f zero h k low = h
carried_digit f (suc zero) h k low = k
carried_digit f (suc (suc digit)) h k low = absurd (omega arith)

place_same : (plan : MapValue) (v j : ℕ) (d : Domain) (row : List ℕ) → is_seen plan v j d ≡ true → ((i : ℕ) → slice_index row i < 2) → place_seen plan v row d ≡ slice_index row j
place_same plan v j d row h two =
    let first = and_parts (eqb (source plan v d) j) _ h in
    let second = and_parts (eqb (carried plan v d 0) 0) _ first.1 in
    let from : source plan v d ≡ j = eqb-true (source plan v d) j first.0 in
    ap (λ (i : ℕ). carried plan v d (slice_index row i)) from
    ∙ carried_digit (carried plan v d) (slice_index row j) (eqb-true (carried plan v d 0) 0 second.0) (eqb-true (carried plan v d 1) 1 second.1) (two j)

-- what is seen of a row is the row
seen_from : (plan : MapValue) (v j : ℕ) (ds : List Domain) (row : List ℕ) → are_seen plan v j ds ≡ true → ((i : ℕ) → slice_index row i < 2) → length row ≡ j + length ds → map (place_seen plan v row) ds ≡ drop j row
seen_from plan v j [] row h two many = sym (drop_all j row (omega arith))
seen_from plan v j (d ∷ ds) row h two many =
    let parts = and_parts (is_seen plan v j d) (are_seen plan v (suc j) ds) h in
    let here : place_seen plan v row d ≡ get_or row j 0 = place_same plan v j d row parts.0 two in
    let more : map (place_seen plan v row) ds ≡ drop (suc j) row = seen_from plan v (suc j) ds row parts.1 two (omega arith) in
    let low : j < length row = omega arith in
    rw (here, more) (sym (drop-cons row j 0 low))

module _ (plan : MapValue) (v : ℕ) (p : Viewpoint) (fit : Fits plan v p) (twos : list_all (λ z. eqb z 2) (sizes_of plan.vars) ≡ true) (s : ℕ) (low : s < states_of plan) where
  abbrev row : List ℕ
  row = row_of plan s

  in_range : AreDigits (sizes_of plan.vars) row
  in_range = digits_are_in_range (sizes_of plan.vars) s low

  vars_count : length p.view.vars ≡ length (sizes_of plan.vars)
  vars_count = sym (length-map p.view.vars (λ (d : Domain). length d.values)) ∙ ap length fit.sized

  row_same : row_seen plan v p row ≡ row
  row_same =
      seen_from plan v 0 p.view.vars row fit.seen (below_two (sizes_of plan.vars) row in_range twos) (omega (arith, as_many (sizes_of plan.vars) row in_range, vars_count))

  -- it sees the state itself
  projected : projection plan v p s ≡ code_of (sizes_of plan.vars) row
  projected = ap (λ (sizes : List ℕ). code_of sizes (row_seen plan v p row)) fit.sized ∙ ap (code_of (sizes_of plan.vars)) row_same

  holds_there : is_initial_for plan s v p ≡ true → holds_at p.view.init row ≡ true
  holds_there h =
      ap (holds_at p.view.init)
      (sym (ap (λ (sizes : List ℕ). digits sizes (projection plan v p s)) fit.sized ∙ ap (digits (sizes_of plan.vars)) projected ∙ digits_of_codes (sizes_of plan.vars) row in_range))
      ∙ h

  zero_each : holds_at p.view.init row ≡ true → (j : ℕ) → slice_index row j ≡ 0
  zero_each h j =
      elim (cases_lt j (length p.view.vars)) [
        | inl under ↦ zeros_hold (length p.view.vars - 1) p.view.init row fit.zeros h j (omega arith)
        | inr past ↦ no_more (sizes_of plan.vars) row in_range j (omega (arith, vars_count))
      ]
    where
      cases_lt : (m n : ℕ) → (m < n) ⊎ (n ≤ m)
      cases_lt m n = grind arith

  -- an initial state is the first
  pub initial_is_first : is_initial_for plan s v p ≡ true → s ≡ 0
  initial_is_first h = sym (codes_of_digits (sizes_of plan.vars) s low) ∙ zero_code (sizes_of plan.vars) row (zero_each (holds_there h))

-- none of a range passes
none_pass : (test : ℕ → Bool) (from count : ℕ) → ((k : ℕ) → from ≤ k → k < from + count → test k ≡ false) → filter test (range_with_len from count) ≡ []
none_pass test from zero h = refl
none_pass test from (suc count) h =
    let here : test from ≡ false = h from (omega arith) (omega arith) in
    rw here (none_pass test (from + 1) count (λ k above under. h k (omega arith) (omega arith)))

first_passes : (test : ℕ → Bool) (count : ℕ) → 0 < count → test 0 ≡ true → ((k : ℕ) → 1 ≤ k → k < count → test k ≡ false) → filter test (range_with_len 0 count) ≡ 0 ∷ []
first_passes test zero some h k = absurd (omega arith)
first_passes test (suc count) some h k = rw h (ap (λ (more : List ℕ). 0 ∷ more) (none_pass test 1 count (λ i above under. k i above (omega arith))))

-- a test that fails, by what follows from passing it
fails : (b : Bool) → (b ≡ true → ⊥) → b ≡ false
fails true h = absurd (h refl)
fails false h = refl

some_states : (sizes : List ℕ) → list_all (λ z. eqb z 2) sizes ≡ true → 0 < total sizes
some_states [] h = omega arith
some_states (size ∷ sizes) h =
    let parts = and_parts (eqb size 2) (list_all (λ z. eqb z 2) sizes) h in
    let two : size ≡ 2 = eqb-true size 2 parts.0 in
    let more = some_states sizes parts.1 in
    subst (λ (z : ℕ). 0 < z * total sizes) (sym two) (omega arith)

module _ (plan : MapValue) (left right : Viewpoint) (l : Fits plan 0 left) (r : Fits plan 1 right) (twos : list_all (λ z. eqb z 2) (sizes_of plan.vars) ≡ true) where
  first_is_initial : is_merged_initial (merged plan left right) 0 ≡ true
  first_is_initial = rw (l.begins, r.begins) refl

  others_are_not : (s : ℕ) → 1 ≤ s → s < states_of plan → is_merged_initial (merged plan left right) s ≡ false
  others_are_not s above low =
      fails (is_merged_initial (merged plan left right) s)
      (λ h. let zero_is = initial_is_first plan 0 left l twos s low (and_parts (is_initial_for plan s 0 left) _ h).0 in omega arith)

  one_initial : initials_of (merged plan left right) ≡ 0 ∷ []
  unfolding initials_of
  one_initial = first_passes (is_merged_initial (merged plan left right)) (states_of plan) (some_states (sizes_of plan.vars) twos) first_is_initial others_are_not

  no_faults : all_faults (merged plan left right) ≡ []
  unfolding all_faults
  no_faults = rw (l.faultless, r.faultless) refl

  -- they merge
  pub merges : left.lattice ≡ chain → right.lattice ≡ diamond → merge_fault (merged plan left right) ≡ None
  merges e f = rw (no_faults, one_initial, e, f) refl
