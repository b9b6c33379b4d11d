-- Operators and the judging of files at small cases whose values are known from outside.
use Rattle.std.proofs.Common.{◌≡◌, ◌≤◌, ℕ, false, ◌&&◌, not, cond, eqb, ltb, Result, List, [], ◌∷◌, ◌++◌, length, Option, Some, None, Ok, Err, codes, get_or, ap, subst, refl, sym, arith}
use Rattle.std.specs.List.{list_any}
use Rattle.std.proofs.lemmas.Bool.{false≢true}
use Rattle.xc_base.specs.declared.fault.FileFault.{FileFault}
use Rattle.xc_base.specs.declared.fault.FileFault.TheVariants.{NoStatement, Repeated, Unknown, Count, Missing}
use Rattle.xc_base.specs.declared.fault.Part.TheVariants as parts
use Rattle.xc_base.specs.declared.fault.Counted.TheVariants as counted
use Rattle.xc_base.specs.Operators.{Front, behind, chained, chain, chain_up_to, Shortens, Begins}
use Rattle.xc_base.specs.Formats.{Format, Row, IsFaultless, HasFault, IsAccepted, IsFirstFault}
use Rattle.xc_base.specs.Formats.HasFault.{no_statement, repeated as said_again, unknown, count}
use Rattle.xc_base.specs.Formats.AreStatements.{none, next}
use Rattle.xc_base.specs.Formats.IsFirstFault.{in_row, lacking}
use Rattle.xc_base.specs.Deciding.{line_of, statements_of, file_of, statement_fault}

-- one token, as a part of a chain; a pair of parts is written in brackets
abbrev one : List (List ℕ) → Option (Front (List ℕ))
one [] = None
one (token ∷ tokens) = Some (record { tree = token; rest = tokens })

abbrev bracketed : List ℕ → List ℕ → List ℕ
bracketed a b = codes "(" ++ a ++ b ++ codes ")"

-- operators group to the left, each with the part behind it, and what follows no operator is left
pub grouped : (chained (codes "|") bracketed one (codes "a" ∷ codes "|" ∷ codes "b" ∷ codes "|" ∷ codes "c" ∷ codes "d" ∷ []) ≡ Some (record { tree = codes "((ab)c)"; rest = codes "d" ∷ [] }))
    × (chained (codes "|") bracketed one (codes "a" ∷ codes "|" ∷ []) ≡ None) × (chained (codes "|") bracketed one (codes "a" ∷ codes "&" ∷ []) ≡ Some (record { tree = codes "a"; rest = codes "&" ∷ [] }))
unfolding chained chain chain_up_to
grouped = (refl, refl, refl)

pub marks : (behind (codes "do") (codes "do" ∷ codes "x" ∷ []) ≡ Some (codes "x" ∷ [])) × (behind (codes "do") (codes "x" ∷ codes "do" ∷ []) ≡ None) × (behind (codes "do") [] ≡ None)
marks = (refl, refl, refl)

-- what is left may not be longer than what was given; the tokens begin with what was read
pub grows : Shortens {T = ℕ} (λ tokens. Some (record { tree = 0; rest = [] ∷ tokens })) → ⊥
grows h = let wrong : 1 ≤ 0 = h.shorter [] (record { tree = 0; rest = [] ∷ [] }) refl in omega (arith, wrong)

pub begins : Begins (λ tokens tree. tokens ≡ tree ∷ []) (codes "a" ∷ codes "b" ∷ []) (record { tree = codes "a"; rest = codes "b" ∷ [] })
begins = record { front = codes "a" ∷ []; cut = refl; spelled = refl }

-- A kind of file for these facts. A statement is a token of one byte. It is repeated where it was said; 3 and 4 are unknown
-- behind another statement; 4 passes a limit; a file with no statement lacks its head.
abbrev Due : List ℕ → List (List ℕ) → ℕ → Type 0
Due before tokens s = tokens ≡ (s ∷ []) ∷ []

abbrev toy : Format ℕ ℕ
toy =
    record {
      Due = Due;
      repeated = λ before s. list_any (eqb s) before;
      unknown = λ before s. not (eqb (length before) 0) && ltb 2 s;
      count = λ before s. cond (eqb s 4) (Some (record { what = counted.Lines; found = s })) None;
      missing = λ statements. cond (eqb (length statements) 0) (Some parts.Head) None;
      Says = λ statements v. length statements ≡ v;
    }

abbrev toy_decide : List ℕ → List (List ℕ) → Option ℕ
toy_decide before ((s ∷ []) ∷ []) = Some s
toy_decide before _ = None

abbrev row : ℕ → ℕ → Row
row number s = record { number = number; tokens = (s ∷ []) ∷ [] }

abbrev judged : List Row → Result (List ℕ) FileFault
judged rows = file_of toy toy_decide rows

-- in a line: no statement, repeated, unknown, a limit, in this order
pub in_a_line : (judged (row 1 3 ∷ row 5 3 ∷ []) ≡ Err (Repeated 5)) × (judged (row 1 1 ∷ row 5 4 ∷ []) ≡ Err (Unknown 5)) × (judged (row 5 4 ∷ []) ≡ Err (Count 5 counted.Lines 4))
    × (judged (record { number = 5; tokens = [] } ∷ []) ≡ Err (NoStatement 5))
unfolding file_of statements_of line_of statement_fault
in_a_line = (refl, refl, refl, refl)

-- the first line with a fault decides, and a part lacks only where no line has one
pub in_a_file : (judged (row 1 1 ∷ row 2 1 ∷ row 3 4 ∷ []) ≡ Err (Repeated 2)) × (judged [] ≡ Err (Missing parts.Head)) × (judged (row 1 4 ∷ []) ≡ Err (Count 1 counted.Lines 4)) × (judged (row 1 1 ∷ row 2 2 ∷ []) ≡ Ok (1 ∷ 2 ∷ []))
unfolding file_of statements_of line_of statement_fault
in_a_file = (refl, refl, refl, refl)

-- the same by the definitions
pub faultless : IsFaultless toy [] ((1 ∷ []) ∷ []) 1
faultless = record { due = refl; first = refl; known = refl; few = refl }

pub not_faultless : IsFaultless toy (1 ∷ []) ((1 ∷ []) ∷ []) 1 → ⊥
not_faultless h = false≢true (sym h.first)

pub repeated : HasFault toy (1 ∷ []) (row 5 1) (Repeated 5)
repeated = said_again 1 refl refl

pub is_accepted : IsAccepted toy (row 1 1 ∷ []) 1
is_accepted = record { statements = 1 ∷ []; read = next [] (row 1 1) [] 1 [] faultless (none (1 ∷ [])); whole = refl; says = refl }

pub first_fault : IsFirstFault toy (row 1 1 ∷ row 5 1 ∷ row 6 1 ∷ []) (Repeated 5)
first_fault =
    in_row (row 1 1 ∷ []) (row 5 1) (row 6 1 ∷ []) (1 ∷ []) (Repeated 5) refl
    (next [] (row 1 1) [] 1 [] faultless (none (1 ∷ []))) repeated

pub headless : IsFirstFault toy [] (Missing parts.Head)
headless = lacking [] parts.Head (none []) refl

said : (s : ℕ) → (3 ∷ []) ∷ [] ≡ (s ∷ []) ∷ [] → s ≡ 3
said s due = sym (ap (λ (tokens : List (List ℕ)). get_or (get_or tokens 0 []) 0 0) due)

-- the row that says 3 again has this fault alone, though 3 is unknown there too
pub one_fault : {f : FileFault} → HasFault toy (3 ∷ []) (row 5 3) f → f ≡ Repeated 5
one_fault (no_statement nothing_due) = absurd (nothing_due 3 refl)
one_fault (said_again s due again) = refl
one_fault (unknown s due fresh found) = absurd (false≢true (sym (subst (λ (x : ℕ). list_any (eqb x) (3 ∷ []) ≡ false) (said s due) fresh)))
one_fault (count s e due fresh known excess) = absurd (false≢true (sym (subst (λ (x : ℕ). list_any (eqb x) (3 ∷ []) ≡ false) (said s due) fresh)))
