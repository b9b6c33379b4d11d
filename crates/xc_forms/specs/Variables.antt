-- Variables, each with a list of named values. A state over them is the code of one place for each variable.
use Rattle.std.specs.Prelude.{ℕ, Bool, ◌&&◌, not, nat_le, List, [], length, map}
use Rattle.std.specs.List.{list_all, slice_index_or}
use Rattle.xc_theory.specs.Codes.{total}
use Rattle.xc_base.specs.Names.{has_twice}
use Rattle.xc_forms.specs.declared.domain.Domain.{Domain}

abbrev pub names_of : List Domain → List (List ℕ)
names_of vars = map (λ (d : Domain). d.name) vars

-- how many values each variable has
abbrev pub sizes_of : List Domain → List ℕ
sizes_of vars = map (λ (d : Domain). length d.values) vars

-- the names of a variable's values
abbrev pub values_at : List Domain → ℕ → List (List ℕ)
values_at vars x = (slice_index_or vars x (record { name = []; values = [] })).values

-- how many states there may be
abbrev pub state_limit : ℕ
state_limit = 1048576

-- 2 to 16 different values
abbrev pub is_domain : Domain → Bool
is_domain d = nat_le 2 (length d.values) && nat_le (length d.values) 16 && not (has_twice d.values)

-- 1 to 20 variables of different names, each with 2 to 16 different values, and at most 1,048,576 states
abbrev pub are_fit : List Domain → Bool
are_fit vars = nat_le 1 (length vars) && nat_le (length vars) 20 && not (has_twice (names_of vars)) && list_all is_domain vars && nat_le (total (sizes_of vars)) state_limit
