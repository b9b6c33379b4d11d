-- The files that are generated for a number and a size: two lattices, a view over each, the map that merges both, and
-- formulas. The size is the number of bits of a counter. The one command that can go sets its lowest bit that is 0.
use Rattle.std.specs.Prelude.{◌≡◌, ℕ, Bool, true, false, ◌+◌, ◌-◌, ◌%◌, ◌==◌, ◌&&◌, nat_le, if◌then◌else◌, List, [], ◌∷◌, ◌++◌, codes}
use Rattle.std.specs.List.{flat_map, range_with_len}
use Rattle.std.specs.Fmt.{decimal}
use Rattle.xc_base.specs.declared.shelf.File.{File}
use Rattle.xc_base.specs.Shelves.{Kept, empty_shelf}
use Rattle.xc_gen.specs.declared.side.Side.{Side}
use Rattle.xc_gen.specs.declared.side.Side.TheVariants.{Left, Right}
use Rattle.xc_gen.specs.declared.fault.GenFault.{GenFault}
use Rattle.xc_gen.specs.declared.fault.GenFault.TheVariants.{Size, Memory}

-- a line is ended by a line feed
abbrev pub line : List ℕ → List ℕ
line text = text ++ 10 ∷ []

-- the chain of three elements
unfoldable pub chain_text : List ℕ
chain_text =
    line (codes "lattice chain")
    ++ line (codes "elements F M T")
    ++ line (codes "below F M")
    ++ line (codes "below M T")
    ++ line (codes "not F T")
    ++ line (codes "not M M")
    ++ line (codes "not T F")

-- the diamond of four elements, where each of the two middle ones is its own negation
unfoldable pub diamond_text : List ℕ
diamond_text =
    line (codes "lattice diamond")
    ++ line (codes "elements F N B T")
    ++ line (codes "below F N")
    ++ line (codes "below F B")
    ++ line (codes "below N T")
    ++ line (codes "below B T")
    ++ line (codes "not F T")
    ++ line (codes "not N N")
    ++ line (codes "not B B")
    ++ line (codes "not T F")

-- the name of a viewpoint, and the file of its lattice
abbrev pub name_of : Side → List ℕ
name_of Left = codes "left"
name_of Right = codes "right"

abbrev pub lattice_of : Side → List ℕ
lattice_of Left = codes "chain.lat"
lattice_of Right = codes "diamond.lat"

-- the element with which a viewpoint's command sets bit i
abbrev pub weight : Side → ℕ → ℕ → List ℕ
weight Left number i = if (number + i) % 5 == 0 then codes "M" else codes "T"
weight Right number i = if (number + i) % 7 == 0 then codes "N" else if (number + i) % 7 == 5 then codes "B" else codes "T"

-- the variable of bit i, and the phrase that it has that value
abbrev pub bit : ℕ → List ℕ
bit i = codes "b" ++ decimal i

unfoldable pub has_value : ℕ → ℕ → List ℕ
has_value i value = bit i ++ codes "=" ++ decimal value

-- the phrase that bit i is 0, and all lower bits have that value
abbrev pub is_lowest : ℕ → ℕ → List ℕ
is_lowest i value = flat_map (λ j. has_value j value ++ codes "&") (range_with_len 0 i) ++ has_value i 0

-- the line that declares bit i
abbrev pub var_line : ℕ → List ℕ
var_line i = line (codes "var " ++ bit i ++ codes " 0 1")

-- the command that sets bit i where it is 0 and all lower bits are 1
abbrev pub command_line : Side → ℕ → ℕ → List ℕ
command_line side number i =
    line
    (codes "command set" ++ decimal i ++ codes " with " ++ weight side number i ++ codes " when " ++ is_lowest i 1 ++ codes " do " ++ bit i
    ++ codes ":=1")

-- A view of that many bits: all are 0 at first, and `last` says that the last one is 1.
unfoldable pub view_text : Side → ℕ → ℕ → List ℕ
view_text side number size =
    line (codes "view " ++ name_of side)
    ++ line (codes "lattice " ++ lattice_of side)
    ++ flat_map var_line (range_with_len 0 size)
    ++ line (codes "init " ++ is_lowest (size - 1) 0)
    ++ line (codes "prop last T when " ++ has_value (size - 1) 1)
    ++ flat_map (command_line side number) (range_with_len 0 size)

-- the line by which bit i goes to a viewpoint as it is
abbrev pub send_line : Side → ℕ → List ℕ
send_line side i = line (codes "send " ++ name_of side ++ codes " " ++ bit i ++ codes " " ++ bit i)

-- the map of both views, which see all bits
unfoldable pub map_text : ℕ → List ℕ
map_text size =
    line (codes "map gen")
    ++ line (codes "use left left.view")
    ++ line (codes "use right right.view")
    ++ flat_map var_line (range_with_len 0 size)
    ++ line (codes "prop last")
    ++ flat_map (send_line Left) (range_with_len 0 size)
    ++ flat_map (send_line Right) (range_with_len 0 size)
    ++ line (codes "tell left last last")
    ++ line (codes "tell right last last")

unfoldable pub formulas_text : List ℕ
formulas_text = line (codes "EF last") ++ line (codes "EG !last") ++ line (codes "AF last") ++ line (codes "AG EF last")

abbrev pub file : List ℕ → List ℕ → File
file name bytes = record { name = name; bytes = bytes }

-- the files for a number and a size
abbrev pub files_of : ℕ → ℕ → List File
files_of number size =
    file (codes "chain.lat") chain_text
    ∷ file (codes "diamond.lat") diamond_text
    ∷ file (codes "left.view") (view_text Left number size)
    ∷ file (codes "right.view") (view_text Right number size)
    ∷ file (codes "gen.map") (map_text size)
    ∷ file (codes "gen.ctl") formulas_text
    ∷ []

-- a shelf of these files and no others, on which no load was tried and no call is to fail
abbrev pub generated : ℕ → ℕ → Kept
generated number size = record empty_shelf { files = files_of number size }

-- the sizes for which there are files
abbrev pub is_size : ℕ → Bool
is_size size = nat_le 1 size && nat_le size 20

-- Another size is refused with its number. Want of memory is told only of a size for which there are files.
abbrev pub IsFaultOf : ℕ → GenFault → Type 0
IsFaultOf size (Size found) = (found ≡ size) × (is_size size ≡ false)
IsFaultOf size Memory = is_size size ≡ true
