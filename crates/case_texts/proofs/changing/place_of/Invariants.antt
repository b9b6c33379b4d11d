use Rattle.std.proofs.Common.{◌≡◌, ℕ, ◌+◌, ◌<◌, ◌≤◌, length, MatchOption, IsTrue}
use Rattle.case_texts.specs.Changes.{is_line_at}
use Rattle.case_texts.proofs.changing.place_of.Given as goal

-- where no line was found, none stands below; else that one does, and no other below
abbrev pub invariant-loop-at : goal.invariant-loop-at
invariant-loop-at l = MatchOption l.found
    ((k : ℕ) → k < l.at → IsTrue (is_line_at l.text l.line k) → ⊥)
    (λ p. (p + length l.line ≤ length l.text) × IsTrue (is_line_at l.text l.line p) × ((k : ℕ) → k < l.at → IsTrue (is_line_at l.text l.line k) → k ≡ p))
