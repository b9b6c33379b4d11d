-- Lattice files and the laws at small cases whose values are known from outside.
use Rattle.std.proofs.Common.{◌≡◌, ℕ, true, false, List, [], ◌∷◌, ◌++◌, replicate, Some, None, Result, Ok, Err, codes, refl, arith}
use Rattle.std.proofs.lemmas.Bool.{false≢true}
use Rattle.xc_theory.specs.Bounds.{first_meet, first_join}
use Rattle.xc_theory.proofs.Facts.{two, chain, diamond, m3, peak, circle}
use Rattle.xc_base.specs.declared.fault.FileFault.{FileFault}
use Rattle.xc_base.specs.declared.fault.FileFault.TheVariants.{NoStatement, Repeated, Unknown, Count, Missing}
use Rattle.xc_base.specs.declared.fault.Part.TheVariants as parts
use Rattle.xc_base.specs.declared.fault.Counted.TheVariants as counted
use Rattle.xc_base.specs.Text.{lines_of, tokens_from, rows_from}
use Rattle.xc_base.specs.Lines.{text_rows}
use Rattle.xc_base.specs.Formats.{Row}
use Rattle.xc_base.specs.Formats.AreStatements.{none}
use Rattle.xc_base.specs.Formats.IsFirstFault.{lacking}
use Rattle.xc_base.specs.Deciding.{line_of, statements_of, file_of, statement_fault}
use Rattle.xc_laws.specs.declared.law.Law.TheVariants.{Antisymmetry, Meet, Join, Distributive, Involution, Antitone}
use Rattle.xc_lattice.specs.declared.statement.Statement.{Statement}
use Rattle.xc_lattice.specs.declared.statement.Statement.TheVariants as stated
use Rattle.xc_laws.specs.Breaks.{tuples, first_tuple, first_break}
use Rattle.xc_lattice.specs.Deciding.{decide}
use Rattle.xc_lattice.specs.LatticeFiles.{LatticeValue, IsDue, is_repeated, is_unknown, element_excess, lattice_format, Says, IsVerdict, IsLattice}
use Rattle.xc_lattice.specs.LatticeFiles.Verdict.{Faulty}
use Rattle.xc_lattice.specs.Drafts.{pairs_of, negations_of}
use Rattle.xc_lattice.specs.Values.{IsFirstBreak}

-- pairs are tried with the first place slowest
pub pairs_in_order : tuples 2 2 ≡ (0 ∷ 0 ∷ []) ∷ (0 ∷ 1 ∷ []) ∷ (1 ∷ 0 ∷ []) ∷ (1 ∷ 1 ∷ []) ∷ []
unfolding tuples
pairs_in_order = refl

-- two, the chain and the diamond break no law
pub unbroken : (first_break two ≡ None) × (first_break chain ≡ None) × (first_break diamond ≡ None)
unfolding first_break first_tuple tuples first_meet first_join
unbroken = (refl, refl, refl)

-- m3 breaks distributivity first, at a, b and c
pub m3_breaks : first_break m3 ≡ Some (record { law = Distributive; elements = 1 ∷ 2 ∷ 3 ∷ [] })
unfolding first_break first_tuple tuples first_meet first_join
m3_breaks = refl

-- F and T each below the other; a and b with nothing below both
pub orders_break : (first_break (record { order = circle; negations = 1 ∷ 0 ∷ [] }) ≡ Some (record { law = Antisymmetry; elements = 0 ∷ 1 ∷ [] }))
    × (first_break (record { order = peak; negations = 0 ∷ 1 ∷ 2 ∷ [] }) ≡ Some (record { law = Meet; elements = 0 ∷ 1 ∷ [] }))
unfolding first_break first_tuple tuples first_meet first_join
orders_break = (refl, refl)

-- a and b above f, and nothing above both
pub join_breaks : first_break (record { order = (true ∷ true ∷ true ∷ []) ∷ (false ∷ true ∷ false ∷ []) ∷ (false ∷ false ∷ true ∷ []) ∷ []; negations = 0 ∷ 1 ∷ 2 ∷ [] })
    ≡ Some (record { law = Join; elements = 1 ∷ 2 ∷ [] })
unfolding first_break first_tuple tuples first_meet first_join
join_breaks = refl

-- the chain with T for the negation of M; two with each element its own negation
pub negations_break : (first_break (record chain { negations = 2 ∷ 2 ∷ 0 ∷ [] }) ≡ Some (record { law = Involution; elements = 1 ∷ [] }))
    × (first_break (record two { negations = 0 ∷ 1 ∷ [] }) ≡ Some (record { law = Antitone; elements = 0 ∷ 1 ∷ [] }))
unfolding first_break first_tuple tuples first_meet first_join
negations_break = (refl, refl)

-- the lines of a file, each ended by a line feed
abbrev line : List ℕ → List ℕ → List ℕ
line text more = text ++ 10 ∷ more

abbrev judged : List ℕ → Result (List Statement) FileFault
judged bytes = file_of lattice_format decide (text_rows bytes)

abbrev F : List ℕ
F = codes "F"

abbrev M : List ℕ
M = codes "M"

abbrev T : List ℕ
T = codes "T"

-- the lattice of two elements, and the same with no line feed at its end
pub two_is_read : (judged (line (codes "lattice two") (line (codes "elements F T") (line (codes "below F T") (line (codes "not F T") (line (codes "not T F") [])))))
    ≡ Ok (stated.Lattice (codes "two") ∷ stated.Elements (F ∷ T ∷ []) ∷ stated.Below F T ∷ stated.Not F T ∷ stated.Not T F ∷ []))
    × (judged (line (codes "lattice two") (line (codes "elements F T") (line (codes "not F T") (codes "not T F"))))
    ≡ Ok (stated.Lattice (codes "two") ∷ stated.Elements (F ∷ T ∷ []) ∷ stated.Not F T ∷ stated.Not T F ∷ []))
unfolding file_of statements_of line_of statement_fault decide lines_of tokens_from rows_from
two_is_read = (refl, refl)

-- an empty file lacks its head, one with a head its elements, and one with elements the first negation that is not there
pub parts_lack : (judged [] ≡ Err (Missing parts.Head)) × (judged (line (codes "lattice x") []) ≡ Err (Missing parts.Elements))
    × (judged (line (codes "lattice x") (line (codes "elements F M T") (line (codes "not F T") (line (codes "not T F") [])))) ≡ Err (Missing (parts.Not M)))
unfolding file_of statements_of line_of statement_fault decide lines_of tokens_from rows_from
parts_lack = (refl, refl, refl)

-- the first line with a fault decides, by its number in the text: here 5, behind a comment and an empty line
pub first_line : judged (line (codes "# x") (line (codes "lattice x") (line [] (line (codes "elements F T") (line (codes "below F X") (line (codes "oops") [])))))) ≡ Err (Unknown 5)
unfolding file_of statements_of line_of statement_fault decide lines_of tokens_from rows_from
first_line = refl

-- what is not due: elements first, a second head, a second line of elements, a name with a dot, elements of no name
pub not_due : (judged (line (codes "elements F T") []) ≡ Err (NoStatement 1)) × (judged (line (codes "lattice x") (line (codes "lattice x") [])) ≡ Err (NoStatement 2))
    × (judged (line (codes "lattice x") (line (codes "elements F T") (line (codes "elements F T") []))) ≡ Err (NoStatement 3))
    × (judged (line (codes "lattice x.y") []) ≡ Err (NoStatement 1)) × (judged (line (codes "lattice x") (line (codes "elements") [])) ≡ Err (NoStatement 2))
unfolding file_of statements_of line_of statement_fault decide lines_of tokens_from rows_from
not_due = (refl, refl, refl, refl, refl)

-- repeated goes before unknown, and before the count: a second negation of F by no element, and one name twice
pub repeated_first : (judged (line (codes "lattice x") (line (codes "elements F T") (line (codes "not F T") (line (codes "not F X") [])))) ≡ Err (Repeated 4))
    × (judged (line (codes "lattice x") (line (codes "elements F F") [])) ≡ Err (Repeated 2)) × (judged (line (codes "lattice x") (line (codes "elements F") [])) ≡ Err (Count 2 counted.Elements 1))
unfolding file_of statements_of line_of statement_fault decide lines_of tokens_from rows_from
repeated_first = (refl, refl, refl)

-- from 2 to 64 elements
pub sizes : (element_excess [] (stated.Elements (replicate 2 F)) ≡ None) × (element_excess [] (stated.Elements (replicate 64 F)) ≡ None)
    × (element_excess [] (stated.Elements (replicate 65 F)) ≡ Some (record { what = counted.Elements; found = 65 })) × (element_excess [] (stated.Elements (F ∷ [])) ≡ Some (record { what = counted.Elements; found = 1 }))
sizes = (refl, refl, refl, refl)

-- a `below` line may come again, and an element may be its own negation
pub never_repeated : (is_repeated (stated.Below F T ∷ []) (stated.Below F T) ≡ false) × (is_unknown (stated.Elements (F ∷ []) ∷ []) (stated.Not F F) ≡ false)
never_repeated = (refl, refl)

-- `below F T` says that 0 is below 1, and `not F T` that the negation of 0 is 1
pub gathered : (pairs_of (F ∷ T ∷ []) (stated.Below F T ∷ []) ≡ record { low = 0; high = 1 } ∷ [])
    × (negations_of (F ∷ M ∷ T ∷ []) (stated.Not F T ∷ stated.Not M M ∷ stated.Not T F ∷ []) ≡ 2 ∷ 1 ∷ 0 ∷ [])
gathered = (refl, refl)

-- the same by the definitions: a line that is due and two that are not
pub is_head : IsDue [] (codes "lattice" ∷ codes "x" ∷ []) (stated.Lattice (codes "x"))
is_head = record { spelled = refl; named = refl; placed = refl }

pub elements_first : IsDue [] (codes "elements" ∷ F ∷ T ∷ []) (stated.Elements (F ∷ T ∷ [])) → ⊥
elements_first h = false≢true h.placed

pub name_of_a_file : IsDue [] (codes "lattice" ∷ codes "x.y" ∷ []) (stated.Lattice (codes "x.y")) → ⊥
name_of_a_file h = false≢true h.named

-- an empty file is faulty, and is no lattice
pub empty_is_faulty : IsVerdict [] (Faulty (Missing parts.Head))
empty_is_faulty = lacking [] parts.Head (none []) refl

-- the break of m3 by the names of its elements
abbrev m3_value : LatticeValue
m3_value = record { name = codes "m3"; names = codes "0" ∷ codes "a" ∷ codes "b" ∷ codes "c" ∷ codes "1" ∷ []; algebra = m3 }

pub m3_is_broken : IsFirstBreak m3_value Distributive (codes "a" ∷ codes "b" ∷ codes "c" ∷ [])
m3_is_broken = record { elements = 1 ∷ 2 ∷ 3 ∷ []; broken = m3_breaks; named = refl }

pub m3_is_no_lattice : (rows : List Row) → IsLattice rows m3_value → ⊥
m3_is_no_lattice rows h = cc (h.unbroken, m3_breaks)

-- no statements say a lattice
pub nothing_said : Says [] m3_value → ⊥
nothing_said h = omega (arith, h.name.1)
