-- The texts that the program writes.
use Rattle.std.specs.Prelude.{ℕ, List, [], ◌∷◌, ◌++◌, length, codes}
use Rattle.std.specs.List.{flat_map}
use Rattle.std.specs.Fmt.{decimal}
use Rattle.xc_theory.specs.Lattices.{bottom, top}
use Rattle.xc_lattice.specs.LatticeFiles.{LatticeValue}
use Rattle.xc_base.specs.Names.{name_at}
use Rattle.xc_base.specs.declared.fault.TextFault.{TextFault}
use Rattle.xc_base.specs.declared.fault.TextFault.TheVariants.{LongFile, BadByte, LongLine}
use Rattle.xc_base.specs.declared.fault.TextFault.TheVariants as texts
use Rattle.xc_base.specs.declared.fault.FileFault.{FileFault}
use Rattle.xc_base.specs.declared.fault.FileFault.TheVariants.{NoStatement, Repeated, Unknown, Count, Missing}
use Rattle.xc_base.specs.declared.fault.Counted.{Counted}
use Rattle.xc_base.specs.declared.fault.Counted.TheVariants as counted
use Rattle.xc_base.specs.declared.fault.Part.{Part}
use Rattle.xc_base.specs.declared.fault.Part.TheVariants as parts
use Rattle.xc_merge.specs.declared.fault.MergeFault.{MergeFault}
use Rattle.xc_merge.specs.declared.fault.MergeFault.TheVariants.{UnknownValue, UnknownName, NotTotal, Elements, NoInitial, Initial}
use Rattle.xc_merge.specs.declared.fault.MergeFault.TheVariants as faults
use Rattle.xc_laws.specs.declared.law.Law.{Law}
use Rattle.xc_laws.specs.declared.law.Law.TheVariants.{Antisymmetry, Meet, Join, Distributive, Involution, Antitone}

abbrev pub line : List ℕ → List ℕ
line text = text ++ 10 ∷ []

-- The out text for a lattice: its name, how many elements it has, its height, its least and its greatest element.
abbrev pub lattice_text : LatticeValue → ℕ → List ℕ
lattice_text v height = line (codes "lattice " ++ v.name ++ codes " elements " ++ decimal (length v.names) ++ codes " height " ++ decimal height ++ codes " bottom " ++ name_at v.names (bottom v.algebra) ++ codes " top " ++ name_at v.names (top v.algebra))

abbrev pub law_word : Law → List ℕ
law_word Antisymmetry = codes "antisymmetry"
law_word Meet = codes "meet"
law_word Join = codes "join"
law_word Distributive = codes "distributive"
law_word Involution = codes "involution"
law_word Antitone = codes "antitone"

-- The out text for a file that breaks a law: the law, and the names of the elements that break it.
abbrev pub broken_text : Law → List (List ℕ) → List ℕ
broken_text law names = line (codes "broken " ++ law_word law ++ flat_map (λ name. 32 ∷ name) names)

-- The err lines: for words that are no request, for a file that was not read, for a text that was not written, and out of
-- memory.
abbrev pub words_line : List ℕ
words_line = line (codes "refused words")

abbrev pub read_line : List ℕ → List ℕ
read_line name = line (codes "fault read " ++ name)

abbrev pub write_line : List ℕ
write_line = line (codes "fault write")

abbrev pub memory_line : List ℕ
memory_line = line (codes "fault memory")

-- for a text that is not cut into lines: the file, and the number of its first line that is at fault (out of memory has none)
abbrev pub text_line : List ℕ → TextFault → List ℕ
text_line file LongFile = line (codes "refused longfile " ++ file)
text_line file (BadByte number) = line (codes "refused byte " ++ file ++ 32 ∷ decimal number)
text_line file (LongLine number) = line (codes "refused longline " ++ file ++ 32 ∷ decimal number)
text_line file texts.Memory = memory_line

-- what a limit counts
abbrev pub counted_word : Counted → List ℕ
counted_word counted.Elements = codes "elements"
counted_word counted.Values = codes "values"
counted_word counted.States = codes "states"
counted_word counted.Commands = codes "commands"
counted_word counted.Props = codes "props"
counted_word counted.Uses = codes "uses"
counted_word counted.Formulas = codes "formulas"
counted_word counted.Nodes = codes "nodes"
counted_word counted.Text = codes "text"
counted_word counted.Lines = codes "lines"

-- what a file may lack
abbrev pub part_text : Part → List ℕ
part_text parts.Head = codes "head"
part_text parts.Elements = codes "elements"
part_text (parts.Not element) = codes "not " ++ element
part_text parts.Lattice = codes "lattice"
part_text parts.Var = codes "var"
part_text parts.Init = codes "init"
part_text parts.Uses = codes "use"
part_text parts.Formula = codes "formula"
part_text parts.Claim = codes "claim"
part_text parts.Root = codes "root"
part_text parts.Line = codes "line"

-- For a file whose statements are at fault: the file, and the line of its first fault; behind that what passes a limit, and how
-- many there are. Where no line is at fault, the part that the file lacks.
abbrev pub fault_line : List ℕ → FileFault → List ℕ
fault_line file (NoStatement number) = line (codes "refused grammar " ++ file ++ 32 ∷ decimal number)
fault_line file (Repeated number) = line (codes "refused repeated " ++ file ++ 32 ∷ decimal number)
fault_line file (Unknown number) = line (codes "refused unknown " ++ file ++ 32 ∷ decimal number)
fault_line file (Count number what found) = line (codes "refused count " ++ file ++ 32 ∷ decimal number ++ 32 ∷ counted_word what ++ 32 ∷ decimal found)
fault_line file (Missing part) = line (codes "refused missing " ++ file ++ 32 ∷ part_text part)

-- for a lattice that breaks a law, where the request is not to judge it
abbrev pub broken_line : List ℕ → Law → List (List ℕ) → List ℕ
broken_line file law names = line (codes "refused broken " ++ file ++ 32 ∷ law_word law ++ flat_map (λ name. 32 ∷ name) names)

-- For viewpoints that do not merge: a value that is no element, a name that the viewpoint does not have, what is not sent or told
-- whole, too many elements, no initial state, too many of them. A viewpoint has its name in the map. (Out of memory is no fault of
-- a merge.)
abbrev pub merge_line : MergeFault → List ℕ
merge_line (UnknownValue viewpoint value) = line (codes "refused value " ++ viewpoint ++ 32 ∷ value)
merge_line (UnknownName viewpoint name) = line (codes "refused name " ++ viewpoint ++ 32 ∷ name)
merge_line (NotTotal viewpoint name) = line (codes "refused total " ++ viewpoint ++ 32 ∷ name)
merge_line (Elements count) = line (codes "refused product " ++ decimal count)
merge_line NoInitial = line (codes "refused noinitial")
merge_line (Initial count) = line (codes "refused initial " ++ decimal count)
merge_line faults.Memory = memory_line

-- for too many states
abbrev pub states_line : ℕ → List ℕ
states_line count = line (codes "refused states " ++ decimal count)

-- for a size of which no files are generated
abbrev pub size_line : ℕ → List ℕ
size_line size = line (codes "refused size " ++ decimal size)
