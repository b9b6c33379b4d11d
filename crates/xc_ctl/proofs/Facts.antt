-- Formulas and what they denote at small cases whose values are known from outside: a wrong definition does not check here.
use Rattle.std.proofs.Common.{◌≡◌, ℕ, true, false, cond, eqb, List, [], ◌∷◌, Some, None, codes, refl}
use Rattle.xc_theory.specs.Bounds.{first_meet, first_join}
use Rattle.xc_theory.proofs.Facts.{two, chain}
use Rattle.xc_alg.specs.Products.{product}
use Rattle.xc_ctl.specs.Trees.{Signature, is_fit, is_part, element_named, Const, Atom, Not, And, Ex}
use Rattle.xc_ctl.specs.Tables.{size_of, nodes_of, is_table, is_table_in}
use Rattle.xc_ctl.specs.Frames.{Frame, some_next, step_at}
use Rattle.xc_ctl.specs.declared.kind.Kind.TheVariants as kinds

abbrev pub F : List ℕ
F = codes "F"

abbrev pub M : List ℕ
M = codes "M"

abbrev pub T : List ℕ
T = codes "T"

abbrev pub p : List ℕ
p = codes "p"

-- one proposition p over two and the chain: the bottom is F,F, which is 0, and the top T,T, which is 5
abbrev pub pair : Signature
pair = record { props = p ∷ []; parts = (F ∷ T ∷ []) ∷ (F ∷ M ∷ T ∷ []) ∷ []; bottom = 0; top = 5 }

pub fitting : (is_fit pair ≡ true) × (is_fit (record pair { parts = [] }) ≡ false) × (is_fit (record pair { top = 6 }) ≡ false) × (is_part (F ∷ []) ≡ false) × (is_part (F ∷ F ∷ []) ≡ false)
fitting = (refl, refl, refl, refl, refl)

-- an element is named by one name for each part
pub elements : (element_named pair.parts (T ∷ M ∷ []) ≡ Some 4) × (element_named pair.parts (T ∷ []) ≡ None) × (element_named pair.parts (M ∷ T ∷ []) ≡ None) × (element_named pair.parts (T ∷ M ∷ T ∷ []) ≡ None)
elements = (refl, refl, refl, refl)

-- nodes are listed left child, right child, parent, each occurrence for itself
pub listed : (nodes_of (And (Atom 0) (Not (Atom 0))) ≡ kinds.Atom 0 ∷ kinds.Atom 0 ∷ kinds.Not 1 ∷ kinds.And 0 2 ∷ []) × (size_of (And (Atom 0) (Not (Atom 0))) ≡ 4)
    × (is_table (nodes_of (Ex (Const 5))) ≡ true) × (is_table [] ≡ false) × (is_table (kinds.Not 0 ∷ []) ≡ false) × (is_table_in 6 1 (kinds.Const 6 ∷ []) ≡ false) × (is_table_in 6 1 (kinds.Atom 1 ∷ []) ≡ false)
listed = (refl, refl, refl, refl, refl, refl, refl)

-- two states: T,M from 0 to 1, F,T from 1 to 0, T,F from 1 to 1, nothing from 0 to 0; p is the bottom at 0 and the top at 1
abbrev step : ℕ → ℕ → ℕ
step s t = cond (eqb s 0) (cond (eqb t 0) 0 4) (cond (eqb t 0) 2 3)

abbrev frame : Frame
frame = record { parts = two ∷ chain ∷ []; states = 2; relation = step; props = 1; prop = λ q s. cond (eqb s 0) 0 5 }

-- `EX p` is T,M at 0 and T,F at 1, and `EX!p` is the bottom at 0, so that `AX p` is the top there
pub next_values : (some_next frame (λ s. cond (eqb s 0) 0 5) 0 ≡ 4) × (some_next frame (λ s. cond (eqb s 0) 0 5) 1 ≡ 3) × (some_next frame (λ s. cond (eqb s 0) 5 0) 0 ≡ 0)
unfolding some_next product first_meet first_join
next_values = (refl, refl, refl)

-- the six kinds that are no fixpoint, of a function that is T,M at 0 and one that is F,T there: their meet is F,M, their join T,T, and not T,M is F,M
pub steps : (step_at frame (kinds.And 0 1) (λ s. 4) (λ s. 2) (λ s. 0) 0 ≡ 1) × (step_at frame (kinds.Or 0 1) (λ s. 4) (λ s. 2) (λ s. 0) 0 ≡ 5) × (step_at frame (kinds.Not 0) (λ s. 4) (λ s. 0) (λ s. 0) 0 ≡ 1)
    × (step_at frame (kinds.Const 3) (λ s. 4) (λ s. 2) (λ s. 0) 0 ≡ 3) × (step_at frame (kinds.Atom 0) (λ s. 4) (λ s. 2) (λ s. 0) 1 ≡ 5) × (step_at frame (kinds.Ex 0) (λ s. 5) (λ s. 0) (λ s. 0) 0 ≡ 4)
unfolding some_next product first_meet first_join
steps = (refl, refl, refl, refl, refl, refl)
