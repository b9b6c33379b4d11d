-- The tuples that laws are judged at.
use Rattle.std.specs.Prelude.{ℕ, List, [], ◌∷◌}
use Rattle.xc_laws.specs.declared.breaks.Break.{Break}
use Rattle.xc_laws.specs.declared.law.Law.{Law}
use Rattle.xc_laws.specs.declared.tuple.Tuple.{Tuple}
use Rattle.xc_laws.specs.declared.tuple.Tuple.TheVariants.{One, Two, Three}

-- the elements of a tuple
abbrev pub elements_of : Tuple → List ℕ
elements_of (One a) = a ∷ []
elements_of (Two a b) = a ∷ b ∷ []
elements_of (Three a b c) = a ∷ b ∷ c ∷ []

-- the elements of a pair
abbrev pub pair_of : ℕ × ℕ → List ℕ
pair_of p = p.0 ∷ p.1 ∷ []

-- the break that a law and a tuple are
abbrev pub break_of : Law × Tuple → Break
break_of p = record { law = p.0; elements = elements_of p.1 }
