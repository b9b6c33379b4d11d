-- What a guard says where some of the places are known.
use Rattle.std.specs.Prelude.{◌≡◌, ℕ, Bool, true, false, ◌&&◌, ◌==◌, not, if◌then◌else◌, List, slice_index}
use Rattle.std.specs.List.{slice_index_or}
use Rattle.xc_expr.specs.Tests as tests
use Rattle.xc_machine.specs.declared.judgement.Judgement.{Judgement}
use Rattle.xc_machine.specs.declared.judgement.Judgement.TheVariants.{Holds, Fails, Open}

abbrev pub is_known : List Bool → ℕ → Bool
is_known known x = slice_index_or known x false

-- what is said by a truth value, where it is known
abbrev pub said : Bool → Bool → Judgement
said known holds = if known then (if holds then Holds else Fails) else Open

abbrev pub opposite : Judgement → Judgement
opposite Holds = Fails
opposite Fails = Holds
opposite Open = Open

abbrev pub in_both : Judgement → Judgement → Judgement
in_both Holds Holds = Holds
in_both Holds Open = Open
in_both Open Holds = Open
in_both Open Open = Open
in_both _ _ = Fails

abbrev pub in_one : Judgement → Judgement → Judgement
in_one a b = opposite (in_both (opposite a) (opposite b))

-- what a test says of places of which some are known
abbrev pub judged : tests.Test → List ℕ → List Bool → Judgement
judged tests.True places known = Holds
judged tests.False places known = Fails
judged (tests.Is x v) places known = said (is_known known x) (slice_index places x == v)
judged (tests.IsNot x v) places known = said (is_known known x) (not (slice_index places x == v))
judged (tests.Same x y) places known = said (is_known known x && is_known known y) (slice_index places x == slice_index places y)
judged (tests.Differ x y) places known = said (is_known known x && is_known known y) (not (slice_index places x == slice_index places y))
judged (tests.Not g) places known = opposite (judged g places known)
judged (tests.And g h) places known = in_both (judged g places known) (judged h places known)
judged (tests.Or g h) places known = in_one (judged g places known) (judged h places known)

-- whether a judgement is right of a truth value
abbrev pub IsRight : Judgement → Bool → Type 0
IsRight Holds b = b ≡ true
IsRight Fails b = b ≡ false
IsRight Open b = Unit {0}

-- a row of places has the known ones
pub record Agrees (places : List ℕ) (known : List Bool) (row : List ℕ) : Type 0 where
  pub same : (x : ℕ) → is_known known x ≡ true → slice_index row x ≡ slice_index places x
