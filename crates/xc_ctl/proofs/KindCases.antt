-- The kinds of nodes: a least fixpoint, a greatest one, or none.
use Rattle.std.proofs.Common.{◌≡◌, ℕ, true, false, refl}
use Rattle.xc_ctl.specs.Frames.{Frame, step_at, is_least, is_greatest, is_fixpoint}
use Rattle.xc_ctl.specs.declared.kind.Kind.{Kind}
use Rattle.xc_ctl.specs.declared.kind.Kind.TheVariants.{Const, Atom, Not, And, Or, Ex, Eu, Au, Eg}

-- which of the three a kind is
pub data Which (kind : Kind) : Type 0 where
  rises : is_least kind ≡ true → is_greatest kind ≡ false → is_fixpoint kind ≡ true → Which kind
  falls : is_least kind ≡ false → is_greatest kind ≡ true → is_fixpoint kind ≡ true → Which kind
  stays : is_least kind ≡ false → is_greatest kind ≡ false → is_fixpoint kind ≡ false → Which kind

pub which : (kind : Kind) → Which kind
which (Const c) = stays refl refl refl
which (Atom p) = stays refl refl refl
which (Not i) = stays refl refl refl
which (And i j) = stays refl refl refl
which (Or i j) = stays refl refl refl
which (Ex i) = stays refl refl refl
which (Eu i j) = rises refl refl refl
which (Au i j) = rises refl refl refl
which (Eg i) = falls refl refl refl

-- the step of a kind that is no fixpoint makes the same of each function
pub plain_step : (frame : Frame) (kind : Kind) (a b y z : ℕ → ℕ) → is_fixpoint kind ≡ false → (s : ℕ) → step_at frame kind a b y s ≡ step_at frame kind a b z s
plain_step frame (Const c) a b y z h s = refl
plain_step frame (Atom p) a b y z h s = refl
plain_step frame (Not i) a b y z h s = refl
plain_step frame (And i j) a b y z h s = refl
plain_step frame (Or i j) a b y z h s = refl
plain_step frame (Ex i) a b y z h s = refl
plain_step frame (Eu i j) a b y z h s = cc
plain_step frame (Au i j) a b y z h s = cc
plain_step frame (Eg i) a b y z h s = cc
