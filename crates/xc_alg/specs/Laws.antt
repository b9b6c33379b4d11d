-- What follows from the definitions, as statements that public functions carry.
use Rattle.std.specs.Prelude.{◌≡◌, ◌<◌, ℕ, true, List, map}
use Rattle.xc_theory.specs.Bounds.{meet_of, join_of}
use Rattle.xc_theory.specs.Lattices.{LatticeData}
use Rattle.xc_theory.specs.Codes.{digits}
use Rattle.xc_alg.specs.Operations.{Operations, IsAlgebra}
use Rattle.xc_alg.specs.Products.{product, AreLawful, sizes, bound_digits, negation_digits, meet_codes, join_codes}
use Rattle.xc_alg.specs.Bounds.{AreElements, IsMeetOf, IsJoinOf, met, joined}

-- a law of two, or of three, elements of every algebra
abbrev pub OfOne : (Operations → ℕ → Type 0) → Type 0
OfOne Law = (o : Operations) → IsAlgebra o → (a : ℕ) → a < o.size → Law o a

abbrev pub OfTwo : (Operations → ℕ → ℕ → Type 0) → Type 0
OfTwo Law = (o : Operations) → IsAlgebra o → (a b : ℕ) → a < o.size → b < o.size → Law o a b

abbrev pub OfThree : (Operations → ℕ → ℕ → ℕ → Type 0) → Type 0
OfThree Law = (o : Operations) → IsAlgebra o → (a b c : ℕ) → a < o.size → b < o.size → c < o.size → Law o a b c

abbrev pub MeetCommutes : Type 0
MeetCommutes = OfTwo (λ o a b. o.meet a b ≡ o.meet b a)

abbrev pub JoinCommutes : Type 0
JoinCommutes = OfTwo (λ o a b. o.join a b ≡ o.join b a)

abbrev pub MeetIsAssociative : Type 0
MeetIsAssociative = OfThree (λ o a b c. o.meet (o.meet a b) c ≡ o.meet a (o.meet b c))

abbrev pub JoinIsAssociative : Type 0
JoinIsAssociative = OfThree (λ o a b c. o.join (o.join a b) c ≡ o.join a (o.join b c))

abbrev pub MeetIsIdempotent : Type 0
MeetIsIdempotent = OfOne (λ o a. o.meet a a ≡ a)

abbrev pub JoinIsIdempotent : Type 0
JoinIsIdempotent = OfOne (λ o a. o.join a a ≡ a)

abbrev pub MeetAbsorbs : Type 0
MeetAbsorbs = OfTwo (λ o a b. o.meet a (o.join a b) ≡ a)

abbrev pub JoinAbsorbs : Type 0
JoinAbsorbs = OfTwo (λ o a b. o.join a (o.meet a b) ≡ a)

abbrev pub MeetDistributes : Type 0
MeetDistributes = OfThree (λ o a b c. o.meet a (o.join b c) ≡ o.join (o.meet a b) (o.meet a c))

abbrev pub JoinDistributes : Type 0
JoinDistributes = OfThree (λ o a b c. o.join a (o.meet b c) ≡ o.meet (o.join a b) (o.join a c))

abbrev pub NegationOfMeet : Type 0
NegationOfMeet = OfTwo (λ o a b. o.negation (o.meet a b) ≡ o.join (o.negation a) (o.negation b))

abbrev pub NegationOfJoin : Type 0
NegationOfJoin = OfTwo (λ o a b. o.negation (o.join a b) ≡ o.meet (o.negation a) (o.negation b))

abbrev pub NegationIsInvolution : Type 0
NegationIsInvolution = OfOne (λ o a. o.negation (o.negation a) ≡ a)

abbrev pub NegationOfBottom : Type 0
NegationOfBottom = (o : Operations) → IsAlgebra o → o.negation o.bottom ≡ o.top

abbrev pub NegationOfTop : Type 0
NegationOfTop = (o : Operations) → IsAlgebra o → o.negation o.top ≡ o.bottom

-- what is below meets to itself and joins to what it is below, and only that
abbrev pub BelowIsMeet : Type 0
BelowIsMeet = OfTwo (λ o a b. (o.below a b ≡ true → o.meet a b ≡ a) × (o.meet a b ≡ a → o.below a b ≡ true))

abbrev pub BelowIsJoin : Type 0
BelowIsJoin = OfTwo (λ o a b. (o.below a b ≡ true → o.join a b ≡ b) × (o.join a b ≡ b → o.below a b ≡ true))

-- of larger elements the meet, and the join, is larger
abbrev pub MeetIsMonotone : Type 0
MeetIsMonotone = OfThree (λ o a b c. o.below b c ≡ true → o.below (o.meet a b) (o.meet a c) ≡ true)

abbrev pub JoinIsMonotone : Type 0
JoinIsMonotone = OfThree (λ o a b c. o.below b c ≡ true → o.below (o.join a b) (o.join a c) ≡ true)

-- the bottom and the top are the units, and absorb
abbrev pub MeetWithTop : Type 0
MeetWithTop = OfOne (λ o a. o.meet a o.top ≡ a)

abbrev pub JoinWithBottom : Type 0
JoinWithBottom = OfOne (λ o a. o.join a o.bottom ≡ a)

abbrev pub MeetWithBottom : Type 0
MeetWithBottom = OfOne (λ o a. o.meet a o.bottom ≡ o.bottom)

abbrev pub JoinWithTop : Type 0
JoinWithTop = OfOne (λ o a. o.join a o.top ≡ o.top)

-- codes met one after the other are their greatest lower bound, and codes joined their least upper bound
abbrev pub MetAreMeets : Type 0
MetAreMeets = (o : Operations) → IsAlgebra o → (codes : List ℕ) → AreElements o.size codes → IsMeetOf o codes (met o codes)

abbrev pub JoinedAreJoins : Type 0
JoinedAreJoins = (o : Operations) → IsAlgebra o → (codes : List ℕ) → AreElements o.size codes → IsJoinOf o codes (joined o codes)

abbrev pub MeetsAreUnique : Type 0
MeetsAreUnique = (o : Operations) → IsAlgebra o → (codes : List ℕ) (m k : ℕ) → IsMeetOf o codes m → IsMeetOf o codes k → m ≡ k

abbrev pub JoinsAreUnique : Type 0
JoinsAreUnique = (o : Operations) → IsAlgebra o → (codes : List ℕ) (m k : ℕ) → IsJoinOf o codes m → IsJoinOf o codes k → m ≡ k

-- the product of lawful parts is an algebra
abbrev pub ProductsAreAlgebras : Type 0
ProductsAreAlgebras = (parts : List LatticeData) → AreLawful parts → IsAlgebra (product parts)

-- and what is the bound of a list digit by digit is the bound of the list
abbrev pub DigitwiseMeets : Type 0
DigitwiseMeets = (parts : List LatticeData) (codes : List ℕ) → AreLawful parts → AreElements (product parts).size codes → meet_codes parts codes ≡ met (product parts) codes

abbrev pub DigitwiseJoins : Type 0
DigitwiseJoins = (parts : List LatticeData) (codes : List ℕ) → AreLawful parts → AreElements (product parts).size codes → join_codes parts codes ≡ joined (product parts) codes

-- the digits of a bound are the bounds of the digits, and those of a negation the negations
abbrev pub DigitsOfMeets : Type 0
DigitsOfMeets =
    (parts : List LatticeData) (codes : List ℕ) → AreLawful parts
    → digits (sizes parts) (meet_codes parts codes) ≡ bound_digits (λ l row. meet_of l.order row) parts (map (digits (sizes parts)) codes)

abbrev pub DigitsOfJoins : Type 0
DigitsOfJoins =
    (parts : List LatticeData) (codes : List ℕ) → AreLawful parts
    → digits (sizes parts) (join_codes parts codes) ≡ bound_digits (λ l row. join_of l.order row) parts (map (digits (sizes parts)) codes)

abbrev pub DigitsOfNegations : Type 0
DigitsOfNegations =
    (parts : List LatticeData) (code : ℕ) → AreLawful parts → code < (product parts).size
    → digits (sizes parts) ((product parts).negation code) ≡ negation_digits parts (digits (sizes parts) code)
