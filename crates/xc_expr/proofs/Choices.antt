-- Tests joined by "and" and "or", and what comes of values that may lack.
use Rattle.std.proofs.Common.{◌≡◌, Bool, true, false, ◌&&◌, ◌||◌, if◌then◌else◌, Option, Some, None, refl}
use Rattle.std.specs.Option.{option_map}
use Rattle.xc_expr.specs.Resolving.{then_some, both}

pub and_left : (a b : Bool) → (a && b) ≡ true → a ≡ true
and_left true b h = refl
and_left false b h = h

pub and_right : (a b : Bool) → (a && b) ≡ true → b ≡ true
and_right true b h = h
and_right false b h = cc

pub both_true : (a b : Bool) → a ≡ true → b ≡ true → (a && b) ≡ true
both_true true b h k = k
both_true false b h k = h

pub is_false : (b : Bool) → (b ≡ true → ⊥) → b ≡ false
is_false true h = absurd (h refl)
is_false false h = refl

pub both_false : (a b : Bool) → a ≡ false → b ≡ false → (a || b) ≡ false
both_false true b h k = h
both_false false b h k = k

-- what comes of what is found
pub then_some_is : {X Y : Type 0} (o : Option X) (next : X → Option Y) (y : Y) → then_some o next ≡ Some y → (x : X) × (o ≡ Some x) × (next x ≡ Some y)
then_some_is None next y e = cc
then_some_is (Some x) next y e = (x, refl, e)

pub both_is : {X Y Z : Type 0} (f : X → Y → Z) (o : Option X) (p : Option Y) (z : Z) → both f o p ≡ Some z → (x : X) × (y : Y) × (o ≡ Some x) × (p ≡ Some y) × (f x y ≡ z)
both_is f None p z e = cc
both_is f (Some x) None z e = cc
both_is f (Some x) (Some y) z e = (x, y, refl, refl, cc)

pub map_is : {X Y : Type 0} (f : X → Y) (o : Option X) (y : Y) → option_map f o ≡ Some y → (x : X) × (o ≡ Some x) × (f x ≡ y)
map_is f None y e = cc
map_is f (Some x) y e = (x, refl, cc)

pub if_is : {X : Type 0} (b : Bool) (x y : X) → (if b then Some x else None) ≡ Some y → (x ≡ y) × (b ≡ true)
if_is true x y e = (cc, refl)
if_is false x y e = cc
