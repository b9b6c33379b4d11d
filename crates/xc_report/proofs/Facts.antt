-- The texts of a report at small cases that are known from outside: a wrong definition does not check here.
use Rattle.std.specs.Prelude.{if◌then◌else◌}
use Rattle.std.proofs.Common.{◌≡◌, ℕ, ◌+◌, List, [], ◌∷◌, ◌++◌, true, false, Some, None, codes, refl, ◌==◌}
use Rattle.std.specs.Fmt.{digits}
use Rattle.xc_theory.specs.Bounds.{first_meet, first_join}
use Rattle.xc_theory.proofs.Facts.{two, chain}
use Rattle.xc_alg.specs.Products.{product}
use Rattle.xc_base.specs.Canonical.{spaced}
use Rattle.xc_expr.specs.Tests as tests
use Rattle.xc_lattice.specs.LatticeFiles.{LatticeValue}
use Rattle.xc_view.specs.ViewFiles.{ViewValue}
use Rattle.xc_merge.specs.Merges.{Merge}
use Rattle.xc_merge.specs.MergedFrames.{initials_of}
use Rattle.xc_ctl.specs.TableTrees.{trees_of}
use Rattle.xc_ctl.specs.Rounds.{RoundsTable}
use Rattle.xc_ctl.specs.declared.kind.Kind.TheVariants.{Const, Atom, Not, And, Ex, Eu, Au, Eg}
use Rattle.xc_report.specs.Reports.{signature_of, head_text, value_text, share_text, node_text, size_text, values_text, block_text}

abbrev lines : List ℕ → List ℕ
lines text = text ++ 10 ∷ []

abbrev of_two : LatticeValue
of_two = record { name = codes "two"; names = codes "F" ∷ codes "T" ∷ []; algebra = two }

abbrev of_chain : LatticeValue
of_chain = record { name = codes "chain"; names = codes "F" ∷ codes "M" ∷ codes "T" ∷ []; algebra = chain }

-- a view of one variable that begins at its first value, and one that begins at both
abbrev narrow : ViewValue
narrow = record { name = codes "seen"; lattice = codes "x.lat"; vars = record { name = codes "x"; values = codes "0" ∷ codes "1" ∷ [] } ∷ []; init = tests.Is 0 0; props = []; commands = [] }

abbrev wide : ViewValue
wide = record { name = codes "seen"; lattice = codes "x.lat"; vars = record { name = codes "x"; values = codes "0" ∷ codes "1" ∷ [] } ∷ []; init = tests.True; props = []; commands = [] }

-- two viewpoints that look at it alike, over two elements and over three
abbrev merge : ViewValue → Merge
merge view =
    record {
      plan = record {
        name = codes "pair";
        uses = record { name = codes "alice"; file = codes "alice.view" } ∷ record { name = codes "bob"; file = codes "bob.view" } ∷ [];
        vars = record { name = codes "x"; values = codes "0" ∷ codes "1" ∷ [] } ∷ [];
        props = codes "p" ∷ [];
        sends = record { viewpoint = 0; variable = codes "x"; from = 0; pairs = [] } ∷ record { viewpoint = 1; variable = codes "x"; from = 0; pairs = [] } ∷ [];
        tells = [];
        stutters = [];
      };
      viewpoints = record { view = view; lattice = of_two } ∷ record { view = view; lattice = of_chain } ∷ [];
    }

abbrev pair : Merge
pair = merge narrow

-- a table in which the node of that number has that value everywhere, the others another, and each node as many rounds as its number
abbrev told : ℕ → ℕ → RoundsTable
told node value = record { states = 2; nodes = node + 1; at = λ i s. if i == node then value else 1; rounds = λ i. i; round_at = λ i k s. value }

-- what its formulas are about
pub signature_of_pair : ((signature_of pair).top ≡ 5) × ((signature_of pair).bottom ≡ 0) × ((signature_of pair).props ≡ codes "p" ∷ [])
unfolding first_meet first_join product
signature_of_pair = (refl, refl, refl)

-- the line of the machine
pub heads : (head_text false pair 3 ≡ lines (codes "map pair states 2 elements 6 height 3 initial 1")) × (head_text true (merge wide) 3 ≡ lines (codes "# map pair states 2 elements 6 height 3 initial 2"))
unfolding digits initials_of product
heads = (refl, refl)

-- the value at a state that is not the first one, the first viewpoint's name before the second's
pub values : (value_text false pair (λ s. 2) 1 ≡ lines (codes "value 1 x=1 F,T")) × (value_text true pair (λ s. 3) 0 ≡ lines (codes "# value 0 x=0 T,F"))
unfolding digits
values = (refl, refl)

-- shares at initial states alone, with all elements
pub shares : (share_text false pair (λ s. 4 + s) 1 ≡ lines (codes "share bob F=0 M=1 T=0")) × (share_text false (merge wide) (λ s. 4 + s) 1 ≡ lines (codes "share bob F=0 M=1 T=1"))
    × (share_text true (merge wide) (λ s. 4 + s) 0 ≡ lines (codes "# share alice F=0 T=2"))
unfolding digits initials_of
shares = (refl, refl, refl)

-- rounds of fixpoints alone
pub rounds : (node_text false (Const 5 ∷ Atom 0 ∷ Eu 0 1 ∷ []) (told 2 0) 1 ≡ []) × (node_text false (Const 5 ∷ Atom 0 ∷ Au 0 1 ∷ []) (told 2 0) 2 ≡ lines (codes "rounds 2 AU 2")) × (node_text true (Atom 0 ∷ Not 0 ∷ Eg 1 ∷ []) (told 2 0) 2 ≡ lines (codes "# rounds 2 EG 2"))
unfolding digits
rounds = (refl, refl, refl)

-- the size of a diagram, where there is one
pub diagrams : (size_text false (Some 20) ≡ lines (codes "diagram 20")) × (size_text true (Some 0) ≡ lines (codes "# diagram 0")) × (size_text false None ≡ [])
unfolding digits
diagrams = (refl, refl, refl)

-- whole blocks
pub next_states : block_text false pair 1 (Atom 0 ∷ Ex 0 ∷ []) (told 1 4) None
    ≡ lines (codes "formula 1 EX p") ++ lines (codes "value 0 x=0 T,M") ++ lines (codes "share alice F=0 T=1") ++ lines (codes "share bob F=0 M=1 T=0")
unfolding digits first_meet first_join initials_of product trees_of spaced
next_states = refl

pub reached : block_text false pair 3 (Const 5 ∷ Atom 0 ∷ Eu 0 1 ∷ []) (told 2 4) (Some 1)
    ≡ lines (codes "formula 3 E[true U p]") ++ lines (codes "rounds 2 EU 2") ++ lines (codes "value 0 x=0 T,M") ++ lines (codes "share alice F=0 T=1") ++ lines (codes "share bob F=0 M=1 T=0") ++ lines (codes "diagram 1")
unfolding digits first_meet first_join initials_of product trees_of spaced
reached = refl

pub kept : block_text true pair 4 (Atom 0 ∷ Not 0 ∷ Eg 1 ∷ []) (told 2 0) None
    ≡ lines (codes "# formula 4 EG!p") ++ lines (codes "# rounds 2 EG 2") ++ lines (codes "# value 0 x=0 F,F") ++ lines (codes "# share alice F=1 T=0") ++ lines (codes "# share bob F=1 M=0 T=0")
unfolding digits first_meet first_join initials_of product trees_of spaced
kept = refl

pub named : block_text false pair 1 (Const 4 ∷ Atom 0 ∷ Not 1 ∷ And 0 2 ∷ []) (told 3 4) None
    ≡ lines (codes "formula 1 {T,M}&!p") ++ lines (codes "value 0 x=0 T,M") ++ lines (codes "share alice F=0 T=1") ++ lines (codes "share bob F=0 M=1 T=0")
unfolding digits first_meet first_join initials_of product trees_of spaced
named = refl

-- what is told of a formula by its function alone
pub told_of_values : values_text false pair (λ s. 0) ≡ lines (codes "value 0 x=0 F,F") ++ lines (codes "share alice F=1 T=0") ++ lines (codes "share bob F=1 M=0 T=0")
unfolding digits initials_of
told_of_values = refl

-- a whole report: the line of the machine, then the formulas, numbered from 1 on
pub reported : head_text false pair 3 ++ block_text false pair 1 (Atom 0 ∷ Ex 0 ∷ []) (told 1 4) None ++ block_text false pair 2 (Const 5 ∷ []) (told 0 5) None
    ≡ lines (codes "map pair states 2 elements 6 height 3 initial 1") ++ lines (codes "formula 1 EX p") ++ lines (codes "value 0 x=0 T,M") ++ lines (codes "share alice F=0 T=1") ++ lines (codes "share bob F=0 M=1 T=0")
    ++ lines (codes "formula 2 true") ++ lines (codes "value 0 x=0 T,T") ++ lines (codes "share alice F=0 T=1") ++ lines (codes "share bob F=0 M=0 T=1")
unfolding digits first_meet first_join initials_of product trees_of spaced
reported = refl
