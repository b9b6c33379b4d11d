-- The formulas that tables stand for, at small cases by hand: a wrong definition does not check here.
use Rattle.std.proofs.Common.{◌≡◌, List, [], ◌∷◌, Option, Some, option_and_then, inl, inr, codes, refl, sym, ◌∙◌, ap}
use Rattle.xc_base.specs.Canonical.{spaced}
use Rattle.xc_base.specs.Formats.AreStatements.{none, next}
use Rattle.xc_base.specs.Operators.{chained, chain as chain_on, chain_up_to}
use Rattle.xc_formula.specs.Written as written
use Rattle.xc_formula.specs.Written.IsSpelled.{name, factor, summand, conclusion}
use Rattle.xc_formula.specs.FormulaReading as reading
use Rattle.xc_formula.specs.FormulaReading.{names, one_name, atom, implications, implications_up_to, basic, nested, sum, implication}
use Rattle.xc_formula.specs.Reading.{formula_in}
use Rattle.xc_formula_text.specs.Rereading.{IsGiven, IsOneLine}
use Rattle.xc_ctl.specs.Trees.{Signature, Tree, Const, Atom, Not, And, Or, Ex, Eu, Au, Eg}
use Rattle.xc_resolved.specs.Resolved.{resolved}
use Rattle.xc_ctl.specs.Tables.{nodes_of}
use Rattle.xc_ctl.specs.TableTrees.{trees_of, formula_of}
use Rattle.xc_formula_text.specs.Texts.{tokens_of, text_of}
use Rattle.xc_ctl.specs.declared.kind.Kind.{Kind}
use Rattle.xc_ctl.specs.declared.kind.Kind.TheVariants as kinds
use Rattle.xc_formula_text.proofs.Rereading.{given_tree}

-- one proposition p over two and the chain: the bottom is F,F, which is 0, and the top T,T, which is 5
abbrev pair : Signature
pair = record { props = codes "p" ∷ []; parts = (codes "F" ∷ codes "T" ∷ []) ∷ (codes "F" ∷ codes "M" ∷ codes "T" ∷ []) ∷ []; bottom = 0; top = 5 }

-- each kind of node, the first child on the left
pub leaves_stand : (formula_of (kinds.Const 3 ∷ []) ≡ Const 3) × (formula_of (kinds.Atom 0 ∷ []) ≡ Atom 0)
unfolding trees_of
leaves_stand = (refl, refl)

pub parents_stand : (formula_of (kinds.Atom 0 ∷ kinds.Not 0 ∷ []) ≡ Not (Atom 0)) × (formula_of (kinds.Atom 0 ∷ kinds.Ex 0 ∷ []) ≡ Ex (Atom 0)) × (formula_of (kinds.Atom 0 ∷ kinds.Eg 0 ∷ []) ≡ Eg (Atom 0))
    × (formula_of (kinds.Atom 0 ∷ kinds.Const 5 ∷ kinds.And 1 0 ∷ []) ≡ And (Const 5) (Atom 0)) × (formula_of (kinds.Atom 0 ∷ kinds.Const 5 ∷ kinds.Or 0 1 ∷ []) ≡ Or (Atom 0) (Const 5))
    × (formula_of (kinds.Atom 0 ∷ kinds.Const 5 ∷ kinds.Eu 1 0 ∷ []) ≡ Eu (Const 5) (Atom 0)) × (formula_of (kinds.Atom 0 ∷ kinds.Const 5 ∷ kinds.Au 0 1 ∷ []) ≡ Au (Atom 0) (Const 5))
unfolding trees_of
parents_stand = (refl, refl, refl, refl, refl, refl, refl)

-- the last node is the formula: nodes that are not below it say nothing, and one below two parents stands for two
abbrev shared : List Kind
shared = kinds.Atom 0 ∷ kinds.Or 0 0 ∷ kinds.And 1 1 ∷ []

pub last_stands : (formula_of (kinds.Atom 0 ∷ kinds.Const 5 ∷ kinds.Ex 0 ∷ []) ≡ Ex (Atom 0)) × (formula_of shared ≡ And (Or (Atom 0) (Atom 0)) (Or (Atom 0) (Atom 0)))
unfolding trees_of
last_stands = (refl, refl)

-- the table of a tree stands for it
pub tables_stand : (formula_of (nodes_of (And (Atom 0) (Not (Atom 0)))) ≡ And (Atom 0) (Not (Atom 0))) × (formula_of (nodes_of (Au (Ex (Const 4)) (Or (Atom 0) (Const 5)))) ≡ Au (Ex (Const 4)) (Or (Atom 0) (Const 5)))
unfolding trees_of
tables_stand = (refl, refl)

-- so that tables have texts
pub tables_printed : (text_of pair (formula_of shared) ≡ codes "(p|p)&(p|p)") × (text_of pair (formula_of (kinds.Const 4 ∷ kinds.Atom 0 ∷ kinds.Not 1 ∷ kinds.And 0 2 ∷ [])) ≡ codes "{T,M}&!p")
unfolding trees_of spaced
tables_printed = (refl, refl)

-- the printed tokens are read as the formula: brackets where it has them, the top and the bottom by their words
abbrev reread : Tree → Option Tree
reread t = option_and_then (resolved pair) (formula_in (tokens_of pair t))

pub read_again : (reread (And (Atom 0) (And (Or (Atom 0) (Atom 0)) (Atom 0))) ≡ Some (And (Atom 0) (And (Or (Atom 0) (Atom 0)) (Atom 0)))) × (reread (Or (Atom 0) (Or (Const 5) (Atom 0))) ≡ Some (Or (Atom 0) (Or (Const 5) (Atom 0))))
    × (reread (Not (And (Atom 0) (Const 0))) ≡ Some (Not (And (Atom 0) (Const 0)))) × (reread (Eg (Ex (Or (Const 4) (Atom 0)))) ≡ Some (Eg (Ex (Or (Const 4) (Atom 0)))))
    × (reread (Eu (Or (Atom 0) (Atom 0)) (Au (Const 2) (Atom 0))) ≡ Some (Eu (Or (Atom 0) (Atom 0)) (Au (Const 2) (Atom 0))))
unfolding formula_in implication implications implications_up_to sum reading.product reading.until basic nested atom names one_name chained chain_on chain_up_to
read_again = (refl, refl, refl, refl, refl)

-- a file of one line, ended or not
pub one_lines : IsOneLine (codes "p") (codes "p") × IsOneLine (codes "p") (112 ∷ 10 ∷ []) × (IsOneLine (codes "p") (112 ∷ 10 ∷ 10 ∷ []) → ⊥)
one_lines = (inl refl, inr refl, λ h. elim h [ inl e ↦ cc | inr e ↦ cc ])

-- `p` is given by a file that has it in its third line
pub given : IsGiven pair (kinds.Atom 0 ∷ [])
unfolding spaced
given =
    record {
      rows = record { number = 3; tokens = codes "p" ∷ [] } ∷ [];
      before = [];
      behind = [];
      accepted =
          record {
            statements = written.Name (codes "p") ∷ [];
            read = next [] _ [] _ [] (record { due = conclusion 512 _ _ (summand 512 _ _ (factor 512 _ _ (name 512 (codes "p") refl))); first = refl; known = refl; few = refl }) (none _);
            whole = refl;
            says = refl;
          };
    }

-- no file gives a table in which two parents share a node
pub not_given : IsGiven pair shared → ⊥
unfolding trees_of
not_given g =
    let tree = given_tree pair shared refl g in
    let same : shared ≡ nodes_of (formula_of shared) = tree.1 ∙ ap nodes_of (sym tree.2) in
    cc
