-- The machine that viewpoints merge to. Each viewpoint gives one digit of each value, by what it sees of the states.
use Rattle.std.specs.Prelude.{ℕ, Bool, not, ◌&&◌, ◌==◌, if◌then◌else◌, List, [], ◌++◌, length, map, filter, find, Option, Some, None}
use Rattle.std.specs.List.{list_all, range_with_len}
use Rattle.xc_theory.specs.Codes.{code_of}
use Rattle.xc_alg.specs.Products.{sizes}
use Rattle.xc_base.specs.Names.{place_of}
use Rattle.xc_view.specs.Meaning.{join_named, step_words, prop_words, is_initial}
use Rattle.xc_sigmap_lines.specs.MapFiles.{MapValue}
use Rattle.xc_sigmap_lines.specs.declared.parts.Stutter.{Stutter}
use Rattle.xc_sigmap_lines.specs.declared.parts.Tell.{Tell}
use Rattle.xc_sigmap_lines.specs.declared.parts.Told.{Told}
use Rattle.xc_sigmap_lines.specs.declared.parts.Told.TheVariants.{Named, Constant}
use Rattle.xc_ctl.specs.Frames.{Frame}
use Rattle.xc_merge.specs.Merges.{Merge, Viewpoint, viewpoint_at, for_each, parts_of}
use Rattle.xc_merge.specs.Projections.{states_of, projection}

-- whether s and t are different states that a viewpoint cannot tell apart
abbrev pub is_unseen : MapValue → ℕ → Viewpoint → ℕ → ℕ → Bool
is_unseen plan v p s t = not (s == t) && (projection plan v p s == projection plan v p t)

-- the stutter value of viewpoint v, where the map gives it one
abbrev pub stutter_words : MapValue → ℕ → List (List ℕ)
stutter_words plan v = map (λ (l : Stutter). l.value) (filter (λ (l : Stutter). l.viewpoint == v) plan.stutters)

-- the values of a step in a viewpoint: those of its own commands between what it sees, and its stutter value where it does not see
-- that the state changes
abbrev pub step_values : MapValue → ℕ → Viewpoint → ℕ → ℕ → List (List ℕ)
step_values plan v p s t = step_words p.view (projection plan v p s) (projection plan v p t) ++ (if is_unseen plan v p s t then stutter_words plan v else [])

-- the least upper bound, in a viewpoint's lattice, of the elements of these names
abbrev pub join_in : Viewpoint → List (List ℕ) → ℕ
join_in p words = join_named p.lattice.algebra.order p.lattice.names words

-- what a viewpoint gives to the step from s to t
abbrev pub step_digit : MapValue → ℕ → ℕ → ℕ → Viewpoint → ℕ
step_digit plan s t v p = join_in p (step_values plan v p s t)

-- the line on what viewpoint v tells of the map's proposition of that number
abbrev pub tells_of : ℕ → ℕ → Tell → Bool
tells_of v prop line = (line.viewpoint == v) && (line.prop == prop)

abbrev pub line_of : MapValue → ℕ → ℕ → Option Tell
line_of plan v prop = find (tells_of v prop) plan.tells

-- the value of a proposition of its own at what it sees of s, or a constant
abbrev pub digit_told : MapValue → ℕ → ℕ → Viewpoint → Told → ℕ
digit_told plan s v p (Named name) = join_in p (prop_words p.view name (projection plan v p s))
digit_told plan s v p (Constant word) = place_of p.lattice.names word

-- (In a merge without faults each viewpoint tells of each proposition.)
abbrev pub digit_by : MapValue → ℕ → ℕ → Viewpoint → Option Tell → ℕ
digit_by plan s v p None = 0
digit_by plan s v p (Some line) = digit_told plan s v p line.told

-- what a viewpoint gives to a proposition at s
abbrev pub prop_digit : MapValue → ℕ → ℕ → ℕ → Viewpoint → ℕ
prop_digit plan prop s v p = digit_by plan s v p (line_of plan v prop)

-- The merged machine: a frame over the product of the viewpoints' lattices. A value is the code of what each viewpoint gives.
unfoldable pub merged_frame : Merge → Frame
merged_frame m =
    record {
      parts = parts_of m;
      states = states_of m.plan;
      relation = λ s t. code_of (sizes (parts_of m)) (for_each m (step_digit m.plan s t));
      props = length m.plan.props;
      prop = λ k s. code_of (sizes (parts_of m)) (for_each m (prop_digit m.plan k s));
    }

-- whether what a viewpoint sees of a state is initial for it
abbrev pub is_initial_for : MapValue → ℕ → ℕ → Viewpoint → Bool
is_initial_for plan s v p = is_initial p.view (projection plan v p s)

-- A state is initial where it is so for each viewpoint. The initial states, in rising order.
abbrev pub is_merged_initial : Merge → ℕ → Bool
is_merged_initial m s = list_all (λ v. is_initial_for m.plan s v (viewpoint_at m v)) (range_with_len 0 (length m.viewpoints))

unfoldable pub initials_of : Merge → List ℕ
initials_of m = filter (is_merged_initial m) (range_with_len 0 (states_of m.plan))
