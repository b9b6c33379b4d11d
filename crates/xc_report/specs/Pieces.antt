-- The pieces of the lines of values. No public clause rests on these words.
use Rattle.std.specs.Prelude.{ℕ, Bool, if◌then◌else◌, ◌==◌, List, ◌∷◌, ◌++◌, slice_index, codes}
use Rattle.std.specs.Fmt.{decimal}
use Rattle.xc_theory.specs.Codes.{digits}
use Rattle.xc_alg.specs.Products.{sizes}
use Rattle.xc_base.specs.Names.{name_at}
use Rattle.xc_forms.specs.declared.domain.Domain.{Domain}
use Rattle.xc_merge.specs.Merges.{Merge, viewpoint_at, parts_of}
use Rattle.xc_report.specs.Reports.{line, places_text, element_text}

-- a variable with the name of its value
abbrev pub place_text : Domain → ℕ → List ℕ
place_text d place = 32 ∷ d.name ++ codes "=" ++ name_at d.values place

-- what stands before the name of a digit
abbrev pub before : ℕ → ℕ
before part = if part == 0 then 32 else 44

-- the name of an element's digit of that part, with what stands before it
abbrev pub digit_text : Merge → ℕ → ℕ → List ℕ
digit_text m element part = before part ∷ name_at (viewpoint_at m part).lattice.names (slice_index (digits (sizes (parts_of m)) element) part)

-- the line of a state with that row of places and that element
abbrev pub state_text : Bool → Merge → ℕ → List ℕ → ℕ → List ℕ
state_text marked m s row element = line marked (codes "value " ++ decimal s ++ places_text m.plan.vars row ++ element_text m element)
