-- Rows that are made of rows, one operation after the other.
use Rattle.std.proofs.Common.{◌≡◌, ℕ, List, length, slice_index, ◌∙◌, ap}
use Rattle.xc_alg.specs.Operations.{Operations}
use Rattle.xc_fixpoint.specs.Lists.{values}
use Rattle.xc_fixpoint.proofs.Lists.{length-values, values_in_list, values_of_agree}
use Rattle.xc_plain.specs.declared.row.Row.{Row}
use Rattle.xc_plain.specs.Successors.{AreSafe, next_by}
use Rattle.xc_plain.proofs.Joining.{next_agree}

-- of each value of a row
pub each_made : (op : ℕ → ℕ) (n : ℕ) (f : ℕ → ℕ) (of read row : List ℕ) → read ≡ of → of ≡ values n f → row ≡ values (length read) (λ s. op (slice_index read s)) → row ≡ values n (λ s. op (f s))
each_made op n f of read row same made e =
    let seen : read ≡ values n f = same ∙ made in
    e ∙ (ap (λ (k : ℕ). values k (λ s. op (slice_index read s))) (ap length seen ∙ length-values n f)
    ∙ values_of_agree n (λ s. op (slice_index read s)) (λ s. op (f s)) (λ s low. ap op (values_in_list n f read seen s low)))

-- of a value beside each value of a row
pub beside_made : (op : ℕ → ℕ → ℕ) (n : ℕ) (f : ℕ → ℕ) (left of read row : List ℕ) → read ≡ of → of ≡ values n f → row ≡ values (length read) (λ s. op (slice_index left s) (slice_index read s)) → row ≡ values n (λ s. op (slice_index left s) (f s))
beside_made op n f left of read row same made e =
    let seen : read ≡ values n f = same ∙ made in
    e ∙ (ap (λ (k : ℕ). values k (λ s. op (slice_index left s) (slice_index read s))) (ap length seen ∙ length-values n f)
    ∙ values_of_agree n (λ s. op (slice_index left s) (slice_index read s)) (λ s. op (slice_index left s) (f s)) (λ s low. ap (op (slice_index left s)) (values_in_list n f read seen s low)))

-- of the values of two rows
pub both_made : (op : ℕ → ℕ → ℕ) (n : ℕ) (h f : ℕ → ℕ) (first seen of read row : List ℕ) → seen ≡ first → first ≡ values n h → read ≡ of → of ≡ values n f → row ≡ values (length read) (λ s. op (slice_index seen s) (slice_index read s))
    → row ≡ values n (λ s. op (h s) (f s))
both_made op n h f first seen of read row same made same' made' e =
    beside_made op n f seen of read row same' made' e
    ∙ values_of_agree n (λ s. op (slice_index seen s) (f s)) (λ s. op (h s) (f s)) (λ s low. ap (λ (x : ℕ). op x (f s)) (values_in_list n h seen (same ∙ made) s low))

-- of what holds at the next states
pub next_made : (o : Operations) (n : ℕ) (rows : List Row) (f : ℕ → ℕ) (of read row : List ℕ) → AreSafe o.size n rows → read ≡ of → of ≡ values n f → row ≡ values (length read) (next_by o rows (slice_index read)) → row ≡ values n (next_by o rows f)
next_made o n rows f of read row safe same made e =
    let seen : read ≡ values n f = same ∙ made in
    e ∙ (ap (λ (k : ℕ). values k (next_by o rows (slice_index read))) (ap length seen ∙ length-values n f)
    ∙ values_of_agree n (next_by o rows (slice_index read)) (next_by o rows f) (next_agree o n rows (slice_index read) f safe (values_in_list n f read seen)))
