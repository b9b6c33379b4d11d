-- The steps of fixpoints, by rows of transitions. No public clause rests on these words.
use Rattle.std.specs.Prelude.{ℕ, Bool, true, false, List}
use Rattle.xc_alg.specs.Operations.{Operations}
use Rattle.xc_fixpoint.specs.Steps.{Step}
use Rattle.xc_plain.specs.Successors.{next_by}
use Rattle.xc_plain.specs.declared.row.Row.{Row}
use Rattle.xc_plain.specs.declared.form.Form.{Form}
use Rattle.xc_plain.specs.declared.form.Form.TheVariants.{SomeUntil, EachUntil, Always}

-- what holds at all next states
abbrev pub all_next_by : Operations → List Row → (ℕ → ℕ) → ℕ → ℕ
all_next_by o rows z s = o.negation (next_by o rows (λ t. o.negation (z t)) s)

-- one step of each form, of the functions a and b of the node's children
abbrev pub always_by : Operations → List Row → (ℕ → ℕ) → Step
always_by o rows a z s = o.meet (a s) (next_by o rows z s)

abbrev pub some_until_by : Operations → List Row → (ℕ → ℕ) → (ℕ → ℕ) → Step
some_until_by o rows a b z s = o.join (b s) (o.meet (a s) (next_by o rows z s))

abbrev pub each_until_by : Operations → List Row → (ℕ → ℕ) → (ℕ → ℕ) → Step
each_until_by o rows a b z s = o.join (b s) (o.meet (a s) (o.meet (all_next_by o rows z s) (next_by o rows z s)))

abbrev pub step_by : Operations → List Row → Form → (ℕ → ℕ) → (ℕ → ℕ) → Step
step_by o rows SomeUntil a b z s = some_until_by o rows a b z s
step_by o rows EachUntil a b z s = each_until_by o rows a b z s
step_by o rows Always a b z s = always_by o rows a z s

-- the untils are reached going up from the bottom, the other going down from the top
abbrev pub goes_up : Form → Bool
goes_up Always = false
goes_up _ = true
