-- The texts at small cases whose values are known from outside: a wrong definition does not check here.
use Rattle.std.specs.Fmt.{decimal, digits}
use Rattle.std.proofs.Common.{◌≡◌, ℕ, List, [], ◌∷◌, ◌++◌, codes, refl}
use Rattle.xc_theory.specs.Bounds.{first_meet, first_join}
use Rattle.xc_theory.proofs.Facts.{two, chain}
use Rattle.xc_lattice.specs.LatticeFiles.{LatticeValue}
use Rattle.xc_laws.specs.declared.law.Law.TheVariants.{Antisymmetry, Meet, Join, Distributive, Involution, Antitone}
use Rattle.xc_merge.specs.declared.fault.MergeFault.TheVariants.{UnknownValue, UnknownName, NotTotal, Elements, NoInitial, Initial}
use Rattle.xc_base.specs.declared.fault.TextFault.TheVariants.{LongFile, BadByte, LongLine}
use Rattle.xc_base.specs.declared.fault.FileFault.TheVariants.{NoStatement, Repeated, Unknown, Count, Missing}
use Rattle.xc_base.specs.declared.fault.Counted.TheVariants as counted
use Rattle.xc_base.specs.declared.fault.Part.TheVariants as parts
use Rattle.xc_lines.specs.Texts.{lattice_text, law_word, broken_text, words_line, text_line, counted_word, part_text, fault_line, broken_line, merge_line, states_line, size_line, read_line, write_line, memory_line}

abbrev lines : List ℕ → List ℕ
lines text = text ++ 10 ∷ []

abbrev of_two : LatticeValue
of_two = record { name = codes "two"; names = codes "F" ∷ codes "T" ∷ []; algebra = two }

abbrev of_chain : LatticeValue
of_chain = record { name = codes "chain"; names = codes "F" ∷ codes "M" ∷ codes "T" ∷ []; algebra = chain }

-- what is written of a lattice, and of one that is broken
pub lattice_texts : (lattice_text of_two 1 ≡ lines (codes "lattice two elements " ++ decimal 2 ++ codes " height " ++ decimal 1 ++ codes " bottom " ++ codes "F" ++ codes " top " ++ codes "T")) × (lattice_text of_chain 2 ≡ lines (codes "lattice chain elements " ++ decimal 3 ++ codes " height " ++ decimal 2 ++ codes " bottom " ++ codes "F" ++ codes " top " ++ codes "T"))
    × (broken_text Distributive (codes "a" ∷ codes "b" ∷ codes "c" ∷ []) ≡ lines (codes "broken distributive a b c")) × (broken_text Antisymmetry (codes "F" ∷ codes "T" ∷ []) ≡ lines (codes "broken antisymmetry F T"))
unfolding first_meet first_join
lattice_texts = (refl, refl, refl, refl)

-- the word of each law
pub law_words : (law_word Antisymmetry ≡ codes "antisymmetry") × (law_word Meet ≡ codes "meet") × (law_word Join ≡ codes "join") × (law_word Distributive ≡ codes "distributive") × (law_word Involution ≡ codes "involution") × (law_word Antitone ≡ codes "antitone")
law_words = (refl, refl, refl, refl, refl, refl)

-- the lines for err
pub err_lines : (words_line ≡ lines (codes "refused words")) × (broken_line (codes "m3.lat") Distributive (codes "a" ∷ codes "b" ∷ []) ≡ lines (codes "refused broken m3.lat distributive a b"))
    × (states_line 8192 ≡ lines (codes "refused states " ++ decimal 8192)) × (size_line 21 ≡ lines (codes "refused size " ++ decimal 21))
    × (read_line (codes "two.lat") ≡ lines (codes "fault read two.lat")) × (write_line ≡ lines (codes "fault write")) × (memory_line ≡ lines (codes "fault memory"))
err_lines = (refl, refl, refl, refl, refl, refl, refl)

-- for texts that are not cut, and for statements that are at fault
pub text_lines : (text_line (codes "a b.lat") LongFile ≡ lines (codes "refused longfile a b.lat")) × (text_line (codes "b.lat") (BadByte 2) ≡ lines (codes "refused byte b.lat 2")) × (text_line (codes "l.lat") (LongLine 2) ≡ lines (codes "refused longline l.lat 2"))
unfolding digits
text_lines = (refl, refl, refl)

pub fault_lines : (fault_line (codes "f") (NoStatement 1) ≡ lines (codes "refused grammar f 1")) × (fault_line (codes "f") (Repeated 2) ≡ lines (codes "refused repeated f 2")) × (fault_line (codes "f") (Unknown 3) ≡ lines (codes "refused unknown f 3"))
    × (fault_line (codes "k.lat") (Count 2 counted.Elements 65) ≡ lines (codes "refused count k.lat 2 elements 65")) × (fault_line (codes "big.map") (Count 23 counted.States 2097152) ≡ lines (codes "refused count big.map 23 states 2097152"))
    × (fault_line (codes "e.lat") (Missing parts.Head) ≡ lines (codes "refused missing e.lat head")) × (fault_line (codes "n.lat") (Missing (parts.Not (codes "M"))) ≡ lines (codes "refused missing n.lat not M")) × (fault_line (codes "m") (Missing parts.Uses) ≡ lines (codes "refused missing m use"))
    × (fault_line (codes "z.ctl") (Missing parts.Formula) ≡ lines (codes "refused missing z.ctl formula"))
unfolding digits
fault_lines = (refl, refl, refl, refl, refl, refl, refl, refl, refl)

-- what each limit counts, and each part that a file may lack
pub counted_words : (counted_word counted.Elements ≡ codes "elements") × (counted_word counted.Values ≡ codes "values") × (counted_word counted.States ≡ codes "states") × (counted_word counted.Commands ≡ codes "commands") × (counted_word counted.Props ≡ codes "props")
    × (counted_word counted.Uses ≡ codes "uses") × (counted_word counted.Formulas ≡ codes "formulas") × (counted_word counted.Nodes ≡ codes "nodes") × (counted_word counted.Text ≡ codes "text") × (counted_word counted.Lines ≡ codes "lines")
counted_words = (refl, refl, refl, refl, refl, refl, refl, refl, refl, refl)

pub part_texts : (part_text parts.Head ≡ codes "head") × (part_text parts.Elements ≡ codes "elements") × (part_text (parts.Not (codes "M")) ≡ codes "not M") × (part_text parts.Lattice ≡ codes "lattice") × (part_text parts.Var ≡ codes "var") × (part_text parts.Init ≡ codes "init")
    × (part_text parts.Uses ≡ codes "use") × (part_text parts.Formula ≡ codes "formula") × (part_text parts.Claim ≡ codes "claim") × (part_text parts.Root ≡ codes "root") × (part_text parts.Line ≡ codes "line")
part_texts = (refl, refl, refl, refl, refl, refl, refl, refl, refl, refl, refl)

-- the lines for viewpoints that do not merge
pub merge_lines : (merge_line (UnknownValue (codes "bob") (codes "X")) ≡ lines (codes "refused value bob X")) × (merge_line (UnknownName (codes "bob") (codes "y")) ≡ lines (codes "refused name bob y")) × (merge_line (NotTotal (codes "bob") (codes "x")) ≡ lines (codes "refused total bob x"))
    × (merge_line (Elements 8192) ≡ lines (codes "refused product " ++ decimal 8192)) × (merge_line NoInitial ≡ lines (codes "refused noinitial")) × (merge_line (Initial 8192) ≡ lines (codes "refused initial " ++ decimal 8192))
merge_lines = (refl, refl, refl, refl, refl, refl)
