-- What statements of one kind say, where a function picks it from each of them.
use Rattle.std.specs.Prelude.{List, get_or, Option}
use Rattle.std.specs.List.{filter_map}

-- what the first statement of the kind says, or a default where there is none
abbrev pub first_of : {S X : Type 0} → (S → Option X) → X → List S → X
first_of in_it default statements = get_or (filter_map in_it statements) 0 default
