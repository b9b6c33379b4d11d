-- The longest chains upward, by their numbers of steps, and the test of antisymmetry.
-- Words for the steps of the code: public clauses do not rest on them.
use Rattle.std.specs.Prelude.{◌==◌, ◌&&◌, ◌||◌, not, ◌+◌, zero, suc, max, ℕ, Bool, cond, List, length}
use Rattle.std.specs.List.{list_all}
use Rattle.xc_theory.specs.Orders.{is_below, elements}

-- whether b is above a and is not a
abbrev pub is_over : List (List Bool) → ℕ → ℕ → Bool
is_over table a b = not (a == b) && is_below table a b

-- one more than the greatest of the levels of the numbers below m that pass, and 0 where none does
abbrev pub level_over : (ℕ → Bool) → (ℕ → ℕ) → ℕ → ℕ
level_over over level zero = 0
level_over over level (suc m) = cond (over m) (max (level_over over level m) (level m + 1)) (level_over over level m)

-- the steps of a longest chain upward from a that has at most k steps
abbrev pub steps_up : List (List Bool) → ℕ → ℕ → ℕ
steps_up table zero a = 0
steps_up table (suc k) a = level_over (is_over table a) (steps_up table k) (length table)

-- the greatest level of the numbers below m
abbrev pub greatest_level : (ℕ → ℕ) → ℕ → ℕ
greatest_level level zero = 0
greatest_level level (suc m) = max (greatest_level level m) (level m)

-- whether no other element is both above and below a
abbrev pub is_alone : List (List Bool) → ℕ → Bool
is_alone table a = list_all (λ b. a == b || not (is_below table a b && is_below table b a)) (elements table)
