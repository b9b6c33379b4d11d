-- Counting cases.
use Rattle.std.specs.Prelude.{ℕ, ◌+◌, ◌-◌, ◌^◌, min, Bool, true, false}
use Rattle.case_texts.specs.declared.tally.Tally.{Tally}

-- one more, up to the greatest number of a `u64`
abbrev pub one_more : ℕ → ℕ
one_more n = min (n + 1) (2 ^ 64 - 1)

-- the counts after one more case, which passed or not
abbrev pub counted : Tally → Bool → Tally
counted tally true = record tally { passed = one_more tally.passed }
counted tally false = record tally { failed = one_more tally.failed }
