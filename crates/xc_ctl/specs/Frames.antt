-- Frames: machines whose transitions and propositions have elements of a product as their values.
use Rattle.std.specs.Prelude.{◌<◌, ℕ, Bool, true, false, ◌||◌, List, map}
use Rattle.std.specs.List.{range_with_len}
use Rattle.xc_theory.specs.Lattices.{LatticeData}
use Rattle.xc_alg.specs.Products.{product, AreLawful, join_codes}
use Rattle.xc_ctl.specs.declared.kind.Kind.{Kind}
use Rattle.xc_ctl.specs.declared.kind.Kind.TheVariants.{Const, Atom, Not, And, Or, Ex, Eu, Au, Eg}

-- The states are the numbers below `states`. For two states there is the value of the transition, for a proposition and a
-- state its value there. What stands for numbers past these says nothing.
pub record Frame : Type 0 where
  pub parts : List LatticeData
  pub states : ℕ
  pub relation : ℕ → ℕ → ℕ
  pub props : ℕ
  pub prop : ℕ → ℕ → ℕ

-- the parts are lawful lattices, and all values are elements of their product
pub record IsFrame (frame : Frame) : Type 0 where
  pub lawful : AreLawful frame.parts
  pub steps : (s t : ℕ) → s < frame.states → t < frame.states → frame.relation s t < (product frame.parts).size
  pub values : (p s : ℕ) → p < frame.props → s < frame.states → frame.prop p s < (product frame.parts).size

-- for each state t the meet of the transition from s to t with the value there
abbrev pub weighed : Frame → (ℕ → ℕ) → ℕ → List ℕ
weighed frame f s = map (λ t. (product frame.parts).meet (frame.relation s t) (f t)) (range_with_len 0 frame.states)

-- the least upper bound of these: what holds at some next state
unfoldable pub some_next : Frame → (ℕ → ℕ) → ℕ → ℕ
some_next frame f s = join_codes frame.parts (weighed frame f s)

-- what holds at all next states: at none of them holds its negation
abbrev pub all_next : Frame → (ℕ → ℕ) → ℕ → ℕ
all_next frame f s = (product frame.parts).negation (some_next frame (λ t. (product frame.parts).negation (f t)) s)

-- what holds at all next states and at some next state
abbrev pub all_and_some_next : Frame → (ℕ → ℕ) → ℕ → ℕ
all_and_some_next frame f s = (product frame.parts).meet (all_next frame f s) (some_next frame f s)

-- One step: the value of a node at s, of the functions a and b of its first and its second child, and of a function z that
-- stands for its own. `E[a U b]` and `A[a U b]` have b here, or else a here and z next; without a next state b alone.
abbrev pub step_at : Frame → Kind → (ℕ → ℕ) → (ℕ → ℕ) → (ℕ → ℕ) → ℕ → ℕ
step_at frame (Const c) a b z s = c
step_at frame (Atom p) a b z s = frame.prop p s
step_at frame (Not i) a b z s = (product frame.parts).negation (a s)
step_at frame (And i j) a b z s = (product frame.parts).meet (a s) (b s)
step_at frame (Or i j) a b z s = (product frame.parts).join (a s) (b s)
step_at frame (Ex i) a b z s = some_next frame a s
step_at frame (Eu i j) a b z s = (product frame.parts).join (b s) ((product frame.parts).meet (a s) (some_next frame z s))
step_at frame (Au i j) a b z s = (product frame.parts).join (b s) ((product frame.parts).meet (a s) (all_and_some_next frame z s))
step_at frame (Eg i) a b z s = (product frame.parts).meet (a s) (some_next frame z s)

-- which kinds are the least fixpoint of their step, and which the greatest; the others do not read z
abbrev pub is_least : Kind → Bool
is_least (Eu i j) = true
is_least (Au i j) = true
is_least _ = false

abbrev pub is_greatest : Kind → Bool
is_greatest (Eg i) = true
is_greatest _ = false

abbrev pub is_fixpoint : Kind → Bool
is_fixpoint kind = is_least kind || is_greatest kind
