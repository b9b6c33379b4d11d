-- Rows of transitions, and what is joined over them.
use Rattle.std.proofs.Common.{◌≡◌, ℕ, suc, ◌+◌, ◌-◌, ◌<◌, ◌≤◌, List, [], ◌∷◌, ◌++◌, length, get_or, drop, slice_index, refl, sym, ◌∙◌, ap, subst, arith}
use Rattle.std.proofs.lemmas.List.{get_or_default}
use Rattle.std.proofs.lemmas.List.{get_or_append_left, get_or_push, length_push}
use Rattle.std.proofs.lemmas.Bool.{cases_lt}
use Rattle.std.proofs.Common.{inl, inr, ◌⊎◌}
use Rattle.std.proofs.Math.Seq.{drop-cons}
use Rattle.xc_alg.specs.Operations.{Operations}
use Rattle.xc_fixpoint.specs.Functions.{Agree}
use Rattle.xc_fixpoint.proofs.Lists.{values_of_agree}
use Rattle.xc_alg.specs.Bounds.{joined}
use Rattle.xc_plain.specs.declared.row.Successor.{Successor}
use Rattle.xc_plain.specs.declared.row.Row.{Row}
use Rattle.xc_plain.specs.declared.row.Row.TheVariants.{Few, Each}
use Rattle.xc_plain.specs.Successors.{IsRow, AreSuccessors, few_joined, weighed_from, row_joined, IsSafe, AreSafe, row_at, next_by}

-- no state weighs the bottom
pub weighed_none : (o : Operations) (relation f : ℕ → ℕ) (k m : ℕ) → m ≡ 0 → weighed_from o relation f k m ≡ o.bottom
unfolding weighed_from
weighed_none o relation f k m e = rw e refl

-- the states from one on are it and those behind it
pub weighed_more : (o : Operations) (relation f : ℕ → ℕ) (n k m : ℕ) → m ≡ n - (k + 1) → k < n → weighed_from o relation f k (n - k) ≡ o.join (o.meet (relation k) (f k)) (weighed_from o relation f (k + 1) m)
unfolding weighed_from
weighed_more o relation f n k m e h = let same : n - k ≡ suc m = omega arith in rw same refl

-- a successor that is read is one of the states, and has a value
pub successor_state : (size n : ℕ) (successors : List Successor) (i : ℕ) (here : Successor) → AreSuccessors size n successors → i < length successors → here ≡ get_or successors i here → here.state < n
successor_state size n successors i here are low e = rw e (are.states i here low)

pub successor_value : (size n : ℕ) (successors : List Successor) (i : ℕ) (here : Successor) → AreSuccessors size n successors → i < length successors → here ≡ get_or successors i here → here.value < size
successor_value size n successors i here are low e = rw e (are.values i here low)

nowhere : Successor
nowhere = record { state = 0; value = 0 }

-- one successor more is joined
pub few_step : (o : Operations) (f : ℕ → ℕ) (successors : List Successor) (i sum next whole : ℕ) → i < length successors
    → ((other : Successor) → next ≡ o.join (o.meet (get_or successors i other).value (f (get_or successors i other).state)) sum)
    → few_joined o f sum (drop i successors) ≡ whole → few_joined o f next (drop (i + 1) successors) ≡ whole
few_step o f successors i sum next whole low e before =
    let step : i + 1 ≡ suc i = omega arith in
    rw (step, e nowhere) (rw (drop-cons successors i nowhere low) at before)

-- what is joined over a row that is read
pub joined_at : (o : Operations) (rows : List Row) (f : ℕ → ℕ) (s x : ℕ) (row : Row) → s < length rows → row ≡ get_or rows s row → x ≡ row_joined o f row → x ≡ next_by o rows f s
joined_at o rows f s x row low e value = value ∙ ap (row_joined o f) (e ∙ get_or_default rows s row (Each []) low)

-- each code of a row with one code more is an element
more_below : (size k x : ℕ) (row : List ℕ) → IsRow size k row → x < size → (s : ℕ) → s < k + 1 → ((s < k) ⊎ (k ≤ s)) → slice_index (row ++ x ∷ []) s < size
more_below size k x row is low s within (inl before) = rw (get_or_append_left row (x ∷ []) 0 s (omega (arith, is.count))) (is.range s before)
more_below size k x row is low s within (inr here) = rw (get_or_push row x 0 s (omega (arith, is.count))) low

-- a row with one code more, which a push leaves
pub row_pushed : (size k x : ℕ) (row new : List ℕ) → IsRow size k row → x < size → new ≡ row ++ x ∷ [] → IsRow size (k + 1) new
row_pushed size k x row new is low e =
    rw e (record { count = omega (arith, length_push row x, is.count); range = λ s within. more_below size k x row is low s within (cases_lt s k) })

-- rows of the same states
pub row_beside : (size n m : ℕ) (row other : List ℕ) → IsRow size n row → m ≡ length row → IsRow size n other → IsRow size m other
row_beside size n m row other is e there = let same : n ≡ m = sym (e ∙ is.count) in subst (λ (k : ℕ). IsRow size k other) same there

pub safe_beside : (size n m : ℕ) (row : List ℕ) (rows : List Row) → IsRow size n row → m ≡ length row → AreSafe size n rows → AreSafe size m rows
safe_beside size n m row rows is e there = let same : n ≡ m = sym (e ∙ is.count) in subst (λ (k : ℕ). AreSafe size k rows) same there

-- what is joined depends on the values at the states alone
few_agree : (o : Operations) (n : ℕ) (f g : ℕ → ℕ) → Agree n f g → (successors : List Successor) (sum : ℕ) → AreSuccessors o.size n successors → few_joined o f sum successors ≡ few_joined o g sum successors
few_agree o n f g same [] sum are = refl
few_agree o n f g same (here ∷ more) sum are =
    rw (same here.state (are.states 0 here (omega arith)))
    (few_agree o n f g same more _ (record { states = λ i other low. are.states (suc i) other (omega arith); values = λ i other low. are.values (suc i) other (omega arith) }))

row_agree : (o : Operations) (n : ℕ) (f g : ℕ → ℕ) → Agree n f g → (row : Row) → IsSafe o.size n row → row_joined o f row ≡ row_joined o g row
unfolding weighed_from
row_agree o n f g same (Few successors) safe = few_agree o n f g same successors o.bottom safe
row_agree o n f g same (Each values) safe =
    ap (joined o) (values_of_agree (length values) (λ t. o.meet (slice_index values t) (f t)) (λ t. o.meet (slice_index values t) (g t)) (λ t low. ap (o.meet (slice_index values t)) (same t (omega (arith, safe.count)))))

pub next_agree : (o : Operations) (n : ℕ) (rows : List Row) (f g : ℕ → ℕ) → AreSafe o.size n rows → Agree n f g → Agree n (next_by o rows f) (next_by o rows g)
next_agree o n rows f g safe same s low = row_agree o n f g same (row_at rows s) (safe.each s low)

-- a row of as many codes as a row that is read
pub row_again : (size n : ℕ) (row read next : List ℕ) → IsRow size n row → read ≡ row → IsRow size (length read) next → IsRow size n next
row_again size n row read next is same there = subst (λ (k : ℕ). IsRow size k next) (ap length same ∙ is.count) there
