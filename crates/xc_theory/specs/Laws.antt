-- What follows from the definitions, as statements that public functions carry.
use Rattle.std.specs.Prelude.{◌≡◌, ◌<◌, ℕ, Bool, true, List, Some, None}
use Rattle.xc_theory.specs.Orders.{is_below, IsAntisymmetric, Reaches, IsSpannedBy}
use Rattle.xc_theory.specs.Bounds.{IsMeet, IsJoin, first_meet, first_join}
use Rattle.xc_theory.specs.Chains.{IsHeight}
use Rattle.xc_theory.specs.Codes.{total, digits, code_of, AreDigits}

-- what is found is a bound
abbrev pub MeetsAreFound : Type 0
MeetsAreFound = (table : List (List Bool)) (xs : List ℕ) (m : ℕ) → first_meet table xs ≡ Some m → IsMeet table xs m

abbrev pub JoinsAreFound : Type 0
JoinsAreFound = (table : List (List Bool)) (xs : List ℕ) (m : ℕ) → first_join table xs ≡ Some m → IsJoin table xs m

-- where none is found there is none
abbrev pub NoOtherMeets : Type 0
NoOtherMeets = (table : List (List Bool)) (xs : List ℕ) (m : ℕ) → first_meet table xs ≡ None → IsMeet table xs m → ⊥

abbrev pub NoOtherJoins : Type 0
NoOtherJoins = (table : List (List Bool)) (xs : List ℕ) (m : ℕ) → first_join table xs ≡ None → IsJoin table xs m → ⊥

-- no two bounds where no two elements are each below the other
abbrev pub MeetsAreUnique : Type 0
MeetsAreUnique = (table : List (List Bool)) (xs : List ℕ) (m k : ℕ) → IsAntisymmetric table → IsMeet table xs m → IsMeet table xs k → m ≡ k

abbrev pub JoinsAreUnique : Type 0
JoinsAreUnique = (table : List (List Bool)) (xs : List ℕ) (m k : ℕ) → IsAntisymmetric table → IsJoin table xs m → IsJoin table xs k → m ≡ k

-- a test of two elements, as the relation that it says
abbrev pub Passes : (ℕ → ℕ → Bool) → ℕ → ℕ → Type 0
Passes test a b = test a b ≡ true

-- each element reaches itself, and what is reached from one that it reaches
abbrev pub ReachingIsReflexive : Type 0
ReachingIsReflexive = (test : ℕ → ℕ → Bool) (a : ℕ) → Reaches (Passes test) a a

abbrev pub ReachingIsTransitive : Type 0
ReachingIsTransitive = (test : ℕ → ℕ → Bool) (a b c : ℕ) → Reaches (Passes test) a b → Reaches (Passes test) b c → Reaches (Passes test) a c

-- a spanned table is reflexive and transitive
abbrev pub SpannedIsReflexive : Type 0
SpannedIsReflexive = (test : ℕ → ℕ → Bool) (n : ℕ) (table : List (List Bool)) → IsSpannedBy n (Passes test) table → (a : ℕ) → a < n → is_below table a a ≡ true

abbrev pub SpannedIsTransitive : Type 0
SpannedIsTransitive =
    (test : ℕ → ℕ → Bool) (n : ℕ) (table : List (List Bool)) → IsSpannedBy n (Passes test) table
    → (a b c : ℕ) → a < n → b < n → c < n → is_below table a b ≡ true → is_below table b c ≡ true → is_below table a c ≡ true

-- a relation spans one table
abbrev pub SpannedIsUnique : Type 0
SpannedIsUnique = (test : ℕ → ℕ → Bool) (n : ℕ) (t u : List (List Bool)) → IsSpannedBy n (Passes test) t → IsSpannedBy n (Passes test) u → t ≡ u

-- an order has one height
abbrev pub HeightsAreUnique : Type 0
HeightsAreUnique = (table : List (List Bool)) (h k : ℕ) → IsHeight table h → IsHeight table k → h ≡ k

-- codes and rows of digits stand for each other
abbrev pub DigitsAreInRange : Type 0
DigitsAreInRange = (sizes : List ℕ) (code : ℕ) → code < total sizes → AreDigits sizes (digits sizes code)

abbrev pub CodesAreInRange : Type 0
CodesAreInRange = (sizes row : List ℕ) → AreDigits sizes row → code_of sizes row < total sizes

abbrev pub DigitsOfCodes : Type 0
DigitsOfCodes = (sizes row : List ℕ) → AreDigits sizes row → digits sizes (code_of sizes row) ≡ row

abbrev pub CodesOfDigits : Type 0
CodesOfDigits = (sizes : List ℕ) (code : ℕ) → code < total sizes → code_of sizes (digits sizes code) ≡ code
