-- How the words of formulas are looked up, and the nodes of trees.
-- Words for the steps of the code.
use Rattle.std.specs.Prelude.{ℕ, ◌+◌, ◌*◌, List, [], drop, Option}
use Rattle.std.specs.List.{position, slice_index_or}
use Rattle.std.specs.Option.{option_map}
use Rattle.std.specs.Str.{bytes_eq}
use Rattle.xc_theory.specs.Codes.{total}
use Rattle.xc_base.specs.Names.{name_at}
use Rattle.xc_ctl.specs.Trees.{Tree, Const, Atom, Not, And, Or, Ex, Eu, Au, Eg, sizes_of, element_named}
use Rattle.xc_ctl.specs.declared.kind.Kind.{Kind}
use Rattle.xc_ctl.specs.declared.kind.Kind.TheVariants as kinds

-- the node of a tree whose children have these numbers
abbrev pub kind_of : Tree → ℕ → ℕ → Kind
kind_of (Const c) i j = kinds.Const c
kind_of (Atom p) i j = kinds.Atom p
kind_of (Not t) i j = kinds.Not i
kind_of (And s t) i j = kinds.And i j
kind_of (Or s t) i j = kinds.Or i j
kind_of (Ex t) i j = kinds.Ex i
kind_of (Eu s t) i j = kinds.Eu i j
kind_of (Au s t) i j = kinds.Au i j
kind_of (Eg t) i j = kinds.Eg i

-- the names of the part at a place
abbrev pub part_at : List (List (List ℕ)) → ℕ → List (List ℕ)
part_at parts place = slice_index_or parts place []

-- where the name at a place stands in the part at that place
unfoldable pub digit_at : List (List (List ℕ)) → List (List ℕ) → ℕ → Option ℕ
digit_at parts values place = position (bytes_eq (name_at values place)) (part_at parts place)

-- how many elements the parts from a place on have together
unfoldable pub total_from : List (List (List ℕ)) → ℕ → ℕ
total_from parts place = total (sizes_of (drop place parts))

-- the code that comes of the digits before a place, which come to a code, and the names from there on
unfoldable pub element_from : ℕ → List (List (List ℕ)) → List (List ℕ) → ℕ → Option ℕ
element_from code parts values place = option_map (λ rest. code * total (sizes_of (drop place parts)) + rest) (element_named (drop place parts) (drop place values))

-- how many codes begin with digits that come to a code, and how many before those
unfoldable pub room : ℕ → List (List (List ℕ)) → ℕ → ℕ
room code parts place = (code + 1) * total (sizes_of (drop place parts))
