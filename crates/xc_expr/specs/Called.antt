-- Variables by their names.
use Rattle.std.specs.Prelude.{ℕ, Bool, List}
use Rattle.std.specs.Str.{bytes_eq}
use Rattle.xc_forms.specs.declared.domain.Domain.{Domain}

-- whether a variable has that name
abbrev pub is_called : List ℕ → Domain → Bool
is_called name d = bytes_eq name d.name
