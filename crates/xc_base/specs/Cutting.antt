-- What the steps of the cutting give.
-- Words for the steps of the code: public clauses do not rest on them.
use Rattle.std.specs.Prelude.{◌≡◌, ℕ, ◌+◌, if◌then◌else◌, List, [], ◌∷◌, Option, Some}
use Rattle.xc_base.specs.Text.{joins_next}
use Rattle.xc_base.specs.declared.fault.TextFault.{TextFault}
use Rattle.xc_base.specs.declared.fault.TextFault.TheVariants.{Memory}

-- how many bytes from the first on belong to one token
unfoldable pub token_size : List ℕ → ℕ
token_size [] = 0
token_size (b ∷ bytes) = if joins_next b bytes then token_size bytes + 1 else 1

-- whether a fault is the one that was found, where memory is there
abbrev pub IsFaultOf : Option TextFault → TextFault → Type 0
IsFaultOf found Memory = Unit {0}
IsFaultOf found fault = found ≡ Some fault
