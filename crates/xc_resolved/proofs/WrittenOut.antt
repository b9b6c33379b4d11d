-- Abbreviations written out, where a formula may have names that are not known.
use Rattle.std.proofs.Common.{◌≡◌, ℕ, Option, Some, None, refl}
use Rattle.std.specs.Option.{option_map}
use Rattle.xc_ctl.specs.Trees.{Tree, Const, Not, Or, Ex, both}
use Rattle.xc_resolved.specs.Resolved.{prefixed, until}
use Rattle.xc_formula.specs.declared.prefix.Prefix.TheVariants.{AllGlobally}
use Rattle.xc_formula.specs.declared.prefix.Paths.{Paths}
use Rattle.xc_formula.specs.declared.prefix.Paths.TheVariants.{SomePath}

-- what holds at all next states
pub all_next_is : (o : Option Tree) → option_map Not (option_map Ex (option_map Not o)) ≡ option_map (λ (f : Tree). Not (Ex (Not f))) o
all_next_is None = refl
all_next_is (Some f) = refl

-- what holds at the end of some path, or of each
pub finally_is : (top : ℕ) (q : Paths) (o : Option Tree) → both (until q) (Some (Const top)) o ≡ option_map (until q (Const top)) o
finally_is top q None = refl
finally_is top q (Some f) = refl

-- what holds all along all paths
pub all_globally_is : (top : ℕ) (o : Option Tree) → option_map Not (option_map (until SomePath (Const top)) (option_map Not o)) ≡ option_map (prefixed top AllGlobally) o
all_globally_is top None = refl
all_globally_is top (Some f) = refl

-- an implication
pub implies_is : (o p : Option Tree) → both Or (option_map Not o) p ≡ both (λ (f g : Tree). Or (Not f) g) o p
implies_is None p = refl
implies_is (Some f) None = refl
implies_is (Some f) (Some g) = refl
