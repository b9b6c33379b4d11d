-- The text of a report on a merged machine: the line of the machine, and a block for each formula.
use Rattle.std.specs.Prelude.{ℕ, Bool, true, false, ◌==◌, ◌+◌, ◌-◌, List, [], ◌∷◌, ◌++◌, length, slice_index, count_by, Option, Some, None, codes}
use Rattle.std.specs.List.{flat_map, range_with_len}
use Rattle.std.specs.Fmt.{decimal}
use Rattle.xc_theory.specs.Codes.{digits}
use Rattle.xc_alg.specs.Products.{product, sizes}
use Rattle.xc_base.specs.Names.{name_at}
use Rattle.xc_forms.specs.declared.domain.Domain.{Domain}
use Rattle.xc_merge.specs.Merges.{Merge, name_of, viewpoint_at, parts_of, names_of_parts}
use Rattle.xc_merge.specs.Projections.{states_of, row_of}
use Rattle.xc_merge.specs.MergedFrames.{initials_of}
use Rattle.xc_ctl.specs.Trees.{Signature}
use Rattle.xc_ctl.specs.Tables.{node_at}
use Rattle.xc_ctl.specs.TableTrees.{formula_of}
use Rattle.xc_formula_text.specs.Texts.{text_of}
use Rattle.xc_ctl.specs.Rounds.{RoundsTable}
use Rattle.xc_ctl.specs.declared.kind.Kind.{Kind}
use Rattle.xc_ctl.specs.declared.kind.Kind.TheVariants.{Const, Atom, Not, And, Or, Ex, Eu, Au, Eg}

-- what the formulas over a machine are about
abbrev pub signature_of : Merge → Signature
signature_of m = record { props = m.plan.props; parts = names_of_parts m; bottom = (product (parts_of m)).bottom; top = (product (parts_of m)).top }

-- what stands before each line: in a marked report each is a comment
abbrev pub mark : Bool → List ℕ
mark true = codes "# "
mark false = []

-- a line of the report
abbrev pub line : Bool → List ℕ → List ℕ
line marked text = mark marked ++ text ++ 10 ∷ []

-- the machine: its states, its elements, their height, its initial states
abbrev pub head_text : Bool → Merge → ℕ → List ℕ
head_text marked m height =
    line marked
    (codes "map " ++ m.plan.name ++ codes " states " ++ decimal (states_of m.plan) ++ codes " elements " ++ decimal (product (parts_of m)).size
    ++ codes " height " ++ decimal height ++ codes " initial " ++ decimal (length (initials_of m)))

-- a formula with its number, written out
abbrev pub formula_text : Bool → Merge → ℕ → List Kind → List ℕ
formula_text marked m number nodes = line marked (codes "formula " ++ decimal number ++ 32 ∷ text_of (signature_of m) (formula_of nodes))

-- the word of a kind of fixpoint
abbrev pub kind_word : Kind → Option (List ℕ)
kind_word (Eu i j) = Some (codes "EU")
kind_word (Au i j) = Some (codes "AU")
kind_word (Eg i) = Some (codes "EG")
kind_word _ = None

-- for a node that is a fixpoint, after how many rounds it is reached
abbrev pub rounds_text : Bool → ℕ → ℕ → Option (List ℕ) → List ℕ
rounds_text marked node rounds None = []
rounds_text marked node rounds (Some word) = line marked (codes "rounds " ++ decimal node ++ 32 ∷ word ++ 32 ∷ decimal rounds)

-- what is told of a node by a table: nothing, but for a fixpoint
abbrev pub node_text : Bool → List Kind → RoundsTable → ℕ → List ℕ
node_text marked nodes table node = rounds_text marked node (table.rounds node) (kind_word (node_at nodes node))

-- the variables with the names of their values at the places of a row
abbrev pub places_text : List Domain → List ℕ → List ℕ
places_text (d ∷ vars) (place ∷ row) = 32 ∷ d.name ++ codes "=" ++ name_at d.values place ++ places_text vars row
places_text _ _ = []

-- the names of digits in a row, each of its part: that byte stands before the first name, and a comma before each other
abbrev pub digits_text : ℕ → List (List (List ℕ)) → List ℕ → List ℕ
digits_text before (names ∷ parts) (digit ∷ row) = before ∷ name_at names digit ++ digits_text 44 parts row
digits_text _ _ _ = []

-- an element: a blank, and the names of its digits with commas between them
abbrev pub element_text : Merge → ℕ → List ℕ
element_text m element = digits_text 32 (names_of_parts m) (digits (sizes (parts_of m)) element)

-- the value at a state
abbrev pub value_text : Bool → Merge → (ℕ → ℕ) → ℕ → List ℕ
value_text marked m f s = line marked (codes "value " ++ decimal s ++ places_text m.plan.vars (row_of m.plan s) ++ element_text m (f s))

-- whether viewpoint v gives that element of its lattice to a value
abbrev pub gives : Merge → ℕ → ℕ → ℕ → Bool
gives m v element value = slice_index (digits (sizes (parts_of m)) value) v == element

-- An element of viewpoint v, and at how many initial states the viewpoint gives it.
abbrev pub count_text : Merge → (ℕ → ℕ) → ℕ → ℕ → List ℕ
count_text m f v element = 32 ∷ name_at (viewpoint_at m v).lattice.names element ++ codes "=" ++ decimal (count_by (λ s. gives m v element (f s)) (initials_of m))

-- the share of viewpoint v: all elements of its lattice, in order
abbrev pub share_text : Bool → Merge → (ℕ → ℕ) → ℕ → List ℕ
share_text marked m f v = line marked (codes "share " ++ name_of m.plan v ++ flat_map (count_text m f v) (range_with_len 0 (length (viewpoint_at m v).lattice.names)))

-- the size of a diagram, where it is asked for
abbrev pub size_text : Bool → Option ℕ → List ℕ
size_text marked None = []
size_text marked (Some size) = line marked (codes "diagram " ++ decimal size)

-- What is told of a formula at the initial states by the function that it denotes.
abbrev pub values_text : Bool → Merge → (ℕ → ℕ) → List ℕ
values_text marked m f = flat_map (value_text marked m f) (initials_of m) ++ flat_map (share_text marked m f) (range_with_len 0 (length m.viewpoints))

-- A formula with that number, by what is told of its nodes: its text, the rounds of its fixpoints, its values and the shares.
abbrev pub block_text : Bool → Merge → ℕ → List Kind → RoundsTable → Option ℕ → List ℕ
block_text marked m number nodes table size =
    formula_text marked m number nodes
    ++ flat_map (node_text marked nodes table) (range_with_len 0 (length nodes))
    ++ values_text marked m (table.at (length nodes - 1))
    ++ size_text marked size
