-- When a run is as expected.
use Rattle.std.specs.Prelude.{◌≡◌, ℕ, ◌<◌, nat_eq, List, length, map, IsTrue, IfSome, string_bytes}
use Rattle.std.specs.List.{starts_with}
use Rattle.case_texts.specs.declared.case.Expectation.{Expectation}
use Rattle.case_texts.specs.declared.case.Expectation.TheVariants.{Whole, PartOf, BeginsWith}
use Rattle.case_texts.specs.declared.case.Expected.{Expected}
use Rattle.case_texts.specs.declared.case.Ran.{Ran}

-- bytes are the text, or a prefix of it that lacks something, or begin with it
abbrev pub Meets : Expectation → List ℕ → Type 0
Meets (Whole text) bytes = bytes ≡ text.items
Meets (PartOf text) bytes = IsTrue (starts_with nat_eq text.items bytes) × (length bytes < length text.items)
Meets (BeginsWith text) bytes = IsTrue (starts_with nat_eq bytes text.items)

-- the ending, out, err and the names of the loads are as expected
pub record IsAsExpected (expected : Expected) (ran : Ran) : Type 0 where
  pub ending : ran.ending ≡ expected.ending
  pub out : Meets expected.out ran.out.items
  pub err : Meets expected.err ran.err.items
  pub failed : map string_bytes ran.failed.items ≡ map string_bytes expected.failed.items
  pub loads : IfSome expected.loads (λ names. map string_bytes ran.loads.items ≡ map string_bytes names.items)
