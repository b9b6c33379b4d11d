-- What formulas of paths denote on a small frame, where their values are known from outside: a wrong definition does not check here.
use Rattle.std.proofs.Common.{◌≡◌, ℕ, zero, suc, ◌-◌, ◌<◌, Bool, true, false, cond, eqb, [], ◌∷◌, refl, sym, subst, arith}
use Rattle.xc_theory.specs.Bounds.{first_meet, first_join}
use Rattle.xc_theory.proofs.Facts.{two}
use Rattle.xc_alg.specs.Products.{product}
use Rattle.xc_alg.proofs.Products.{product_laws}
use Rattle.xc_alg.proofs.Facts.{two_is_lawful}
use Rattle.xc_fixpoint.specs.Functions.{IsFunction}
use Rattle.xc_fixpoint.specs.Fixpoints.{IsExtremal}
use Rattle.xc_fixpoint.specs.Iterates.{iterate}
use Rattle.xc_fixpoint.proofs.Fixpoints.{extremal_is_settled}
use Rattle.xc_ctl.specs.Frames.{Frame, IsFrame, some_next, all_next, step_at}
use Rattle.xc_ctl.specs.Tables.{first_child, second_child, has_children_below, is_kind_in}
use Rattle.xc_ctl.specs.Denotations.{Denotes}
use Rattle.xc_ctl.specs.declared.kind.Kind.{Kind}
use Rattle.xc_ctl.specs.declared.kind.Kind.TheVariants.{Eu, Au, Eg}
use Rattle.xc_ctl.proofs.Monotone.{step_monotone}

-- Two states over two elements: 0 has a step to itself and one to 1, which is a dead end.
abbrev frame : Frame
frame = record { parts = two ∷ []; states = 2; relation = λ s t. cond (eqb s 0) 1 0; props = 0; prop = λ q s. 0 }

-- what is true at both states, at neither, at the first alone and at the second alone
abbrev always : ℕ → ℕ
always s = 1

abbrev never : ℕ → ℕ
never s = 0

abbrev at_zero : ℕ → ℕ
at_zero s = 1 - s

abbrev at_one : ℕ → ℕ
at_one s = s

-- One step. `E[true U b]` has b; `A[true U b]` is not true at a dead end where b is not, though at all of no next states z holds; `EG a` is
-- not true at a dead end.
pub stepped : (step_at frame (Eu 0 1) always at_one never 0 ≡ 0) × (step_at frame (Eu 0 1) always at_one at_one 0 ≡ 1) × (step_at frame (Eu 0 1) never at_one at_one 0 ≡ 0)
    × (all_next frame never 1 ≡ 1) × (step_at frame (Au 0 1) always at_zero always 1 ≡ 0) × (step_at frame (Au 0 1) always at_one at_one 0 ≡ 0) × (step_at frame (Au 0 1) always at_one always 0 ≡ 1)
    × (step_at frame (Eg 0) always never always 0 ≡ 1) × (step_at frame (Eg 0) always never always 1 ≡ 0)
unfolding some_next product first_meet first_join
stepped = (refl, refl, refl, refl, refl, refl, refl, refl, refl)

-- it has two elements
size_is : (product frame.parts).size ≡ 2
unfolding product
size_is = refl

element : (x : ℕ) → x < 2 → x < (product frame.parts).size
element x h = subst (λ (n : ℕ). x < n) (sym size_is) h

-- the value of a step
one_or_none : (b : Bool) → cond b 1 0 < 2
one_or_none true = omega arith
one_or_none false = omega arith

is_frame : IsFrame frame
is_frame =
    record {
      lawful = (two_is_lawful, omega arith, tt);
      steps = λ s t here there. element _ (one_or_none (eqb s 0));
      values = λ q s low here. absurd (omega arith);
    }

-- two functions, by their number
abbrev both : (ℕ → ℕ) → (ℕ → ℕ) → ℕ → ℕ → ℕ
both a b zero = a
both a b (suc n) = b

are_functions : (a b : ℕ → ℕ) → IsFunction (product frame.parts) 2 a → IsFunction (product frame.parts) 2 b → (c : ℕ) → c < 2 → IsFunction (product frame.parts) 2 (both a b c)
are_functions a b ha hb zero low = ha
are_functions a b ha hb (suc n) low = hb

-- what holds of both states holds of each state
each_state : (P : ℕ → Type 0) → P 0 → P 1 → (s : ℕ) → s < 2 → P s
each_state P p q zero low = p
each_state P p q (suc zero) low = q
each_state P p q (suc (suc n)) low = absurd (omega arith)

-- the extremal fixpoint has the values of an iterate that is the next one
module _ (up : Bool) (kind : Kind) (a b : ℕ → ℕ) (ha : IsFunction (product frame.parts) 2 a) (hb : IsFunction (product frame.parts) 2 b)
    (children : has_children_below 2 kind ≡ true) (in_kind : is_kind_in (product frame.parts).size 0 kind ≡ true) where
  abbrev at : ℕ → ℕ → ℕ
  at k = iterate (product frame.parts) up (step_at frame kind (both a b (first_child kind)) (both a b (second_child kind))) k

  reached : (k : ℕ) (f : ℕ → ℕ) → IsExtremal (product frame.parts) up 2 (step_at frame kind (both a b (first_child kind)) (both a b (second_child kind))) f
      → at k 0 ≡ at (suc k) 0 → at k 1 ≡ at (suc k) 1 → (at k 0 ≡ f 0) × (at k 1 ≡ f 1)
  reached k f h p q =
      let laws = product_laws frame.parts is_frame.lawful in
      let monotone = step_monotone frame is_frame 2 kind (both a b) children in_kind (are_functions a b ha hb) in
      let same = extremal_is_settled (product frame.parts) laws up 2 (step_at frame kind (both a b (first_child kind)) (both a b (second_child kind))) monotone k f (each_state (λ s. at k s ≡ at (suc k) s) p q) h in
      (same 0 (omega arith), same 1 (omega arith))

always_is : IsFunction (product frame.parts) 2 always
always_is s low = element 1 (omega arith)

never_is : IsFunction (product frame.parts) 2 never
never_is s low = element 0 (omega arith)

at_zero_is : IsFunction (product frame.parts) 2 at_zero
at_zero_is s low = element (1 - s) (omega arith)

at_one_is : IsFunction (product frame.parts) 2 at_one
at_one_is s low = element s low

-- `EF` of what is true at 1 is true at both states; `EF false` is true at none, though the loop would bear it
pub some_finally : (f : ℕ → ℕ) → Denotes frame (Eu 0 1) always at_one f → (1 ≡ f 0) × (1 ≡ f 1)
unfolding some_next product first_meet first_join
some_finally f h = reached true (Eu 0 1) always at_one always_is at_one_is refl refl 2 f (h.least refl) refl refl

pub some_finally_false : (f : ℕ → ℕ) → Denotes frame (Eu 0 1) always never f → (0 ≡ f 0) × (0 ≡ f 1)
unfolding some_next product first_meet first_join
some_finally_false f h = reached true (Eu 0 1) always never always_is never_is refl refl 0 f (h.least refl) refl refl

-- `AF` of what is true at 1 is true there alone, for the loop at 0 does not leave; of what is true at 0 it is not true at the dead end
pub all_finally : (f : ℕ → ℕ) → Denotes frame (Au 0 1) always at_one f → (0 ≡ f 0) × (1 ≡ f 1)
unfolding some_next product first_meet first_join
all_finally f h = reached true (Au 0 1) always at_one always_is at_one_is refl refl 1 f (h.least refl) refl refl

pub all_finally_at_dead_end : (f : ℕ → ℕ) → Denotes frame (Au 0 1) always at_zero f → (1 ≡ f 0) × (0 ≡ f 1)
unfolding some_next product first_meet first_join
all_finally_at_dead_end f h = reached true (Au 0 1) always at_zero always_is at_zero_is refl refl 1 f (h.least refl) refl refl

-- `EG true` is true on the loop and not at the dead end
pub some_globally : (f : ℕ → ℕ) → Denotes frame (Eg 0) always never f → (1 ≡ f 0) × (0 ≡ f 1)
unfolding some_next product first_meet first_join
some_globally f h = reached false (Eg 0) always always always_is always_is refl refl 1 f (h.greatest refl) refl refl
