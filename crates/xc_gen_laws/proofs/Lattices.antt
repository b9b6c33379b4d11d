-- The chain and the diamond are read from their files.
use Rattle.std.proofs.Common.{◌≡◌, ℕ, zero, suc, ◌<◌, Bool, true, false, ◌&&◌, ◌||◌, not, ltb, List, [], ◌∷◌, length, get_or, codes, None, Ok, refl, subst, arith}
use Rattle.std.specs.List.{list_all, range_with_len}
use Rattle.std.proofs.lemmas.Bool.{and_parts, false≢true, ltb-true}
use Rattle.std.proofs.lemmas.List.Sums.{AllPass-from_list_all}
use Rattle.xc_theory.specs.Bounds.{first_meet, first_join}
use Rattle.xc_theory.specs.Orders.{is_below, Leads, Reaches, IsSquare, IsSpannedBy}
use Rattle.xc_theory.proofs.Ranges.{all_range_at}
use Rattle.xc_base.specs.Deciding.{line_of, statements_of, file_of, statement_fault}
use Rattle.xc_base.specs.Formats.{IsAccepted}
use Rattle.xc_base.specs.Lines.{text_rows}
use Rattle.xc_base.specs.Text.{lines_of, tokens_from, rows_from}
use Rattle.xc_base.proofs.Deciding.{gives_statements}
use Rattle.xc_order.specs.Pairs.{IsListed}
use Rattle.xc_order.specs.declared.order.Pair.{Pair}
use Rattle.xc_laws.specs.Breaks.{tuples, first_tuple, first_break}
use Rattle.xc_lattice.specs.Deciding.{decide}
use Rattle.xc_lattice.specs.LatticeFiles.{lattice_format, IsVerdict}
use Rattle.xc_lattice.specs.LatticeFiles.Verdict.{Lawful}
use Rattle.xc_lattice.specs.declared.statement.Statement.{Statement}
use Rattle.xc_lattice.specs.declared.statement.Statement.TheVariants.{Lattice, Elements, Below, Not}
use Rattle.xc_lattice.proofs.Deciding.{decides}
use Rattle.xc_lattice.proofs.Drafts.{IsDraft-from_whole}
use Rattle.xc_lattice.proofs.Said.{says_gathered}
use Rattle.xc_gen.specs.Generated.{chain_text, diamond_text}
use Rattle.xc_gen_laws.proofs.Checks.{chain, diamond}

abbrev pair : ℕ → ℕ → Pair
pair a b = record { low = a; high = b }

-- whether what is above the upper of a pair is above its lower
abbrev leads_on : ℕ → List (List Bool) → Pair → Bool
leads_on n table p = ltb p.high n && list_all (λ b. not (is_below table p.high b) || is_below table p.low b) (range_with_len 0 n)

abbrev is_closed : ℕ → List (List Bool) → List Pair → Bool
is_closed n table pairs = list_all (λ a. is_below table a a) (range_with_len 0 n) && list_all (leads_on n table) pairs

implied : (x y : Bool) → (not x || y) ≡ true → x ≡ true → y ≡ true
implied true y h e = h
implied false y h e = absurd (false≢true e)

module _ (n : ℕ) (table : List (List Bool)) (pairs : List Pair) (closed : is_closed n table pairs ≡ true) where
  step : (a x : ℕ) → IsListed pairs a x → leads_on n table (pair a x) ≡ true
  step a x h =
      subst (λ (p : Pair). leads_on n table p ≡ true) h.2
      (AllPass-from_list_all (leads_on n table) pairs (and_parts (list_all (λ c. is_below table c c) (range_with_len 0 n)) (list_all (leads_on n table) pairs) closed).1 h.0 (pair a x) h.1)

  leads_up : (steps : List ℕ) (a b : ℕ) → a < n → b < n → Leads (IsListed pairs) a steps b → is_below table a b ≡ true
  leads_up [] a b a_in b_in e =
      subst (λ (x : ℕ). is_below table a x ≡ true) e
      (all_range_at (λ c. is_below table c c) 0 n a (and_parts (list_all (λ c. is_below table c c) (range_with_len 0 n)) (list_all (leads_on n table) pairs) closed).0 (omega arith) (omega arith))
  leads_up (x ∷ steps) a b a_in b_in h =
      let both = and_parts (ltb x n) (list_all (λ c. not (is_below table x c) || is_below table a c) (range_with_len 0 n)) (step a x h.0) in
      let x_in : x < n = ltb-true x n both.0 in
      implied (is_below table x b) (is_below table a b)
      (all_range_at (λ c. not (is_below table x c) || is_below table a c) 0 n b both.1 (omega arith) (omega arith))
      (leads_up steps x b x_in b_in h.1)

-- the chain
abbrev chain_pairs : List Pair
chain_pairs = pair 0 1 ∷ pair 1 2 ∷ []

chain_paths : (a b : ℕ) → a < 3 → b < 3 → is_below chain.algebra.order a b ≡ true → Reaches (IsListed chain_pairs) a b
chain_paths zero zero h k e = ([], refl)
chain_paths zero (suc zero) h k e = (1 ∷ [], ((0, omega arith, refl), refl))
chain_paths zero (suc (suc zero)) h k e = (1 ∷ 2 ∷ [], ((0, omega arith, refl), ((1, omega arith, refl), refl)))
chain_paths zero (suc (suc (suc b))) h k e = absurd (omega arith)
chain_paths (suc zero) zero h k e = absurd (false≢true e)
chain_paths (suc zero) (suc zero) h k e = ([], refl)
chain_paths (suc zero) (suc (suc zero)) h k e = (2 ∷ [], ((1, omega arith, refl), refl))
chain_paths (suc zero) (suc (suc (suc b))) h k e = absurd (omega arith)
chain_paths (suc (suc zero)) zero h k e = absurd (false≢true e)
chain_paths (suc (suc zero)) (suc zero) h k e = absurd (false≢true e)
chain_paths (suc (suc zero)) (suc (suc zero)) h k e = ([], refl)
chain_paths (suc (suc zero)) (suc (suc (suc b))) h k e = absurd (omega arith)
chain_paths (suc (suc (suc a))) b h k e = absurd (omega arith)

chain_columns : (a : ℕ) → a < 3 → length (get_or chain.algebra.order a []) ≡ 3
chain_columns zero h = refl
chain_columns (suc zero) h = refl
chain_columns (suc (suc zero)) h = refl
chain_columns (suc (suc (suc a))) h = absurd (omega arith)

chain_spanned : IsSpannedBy 3 (IsListed chain_pairs) chain.algebra.order
chain_spanned =
    record {
      square = record { rows = refl; columns = chain_columns };
      reached = chain_paths;
      below = λ a b h k path. leads_up 3 chain.algebra.order chain_pairs refl path.0 a b h k path.1;
    }

abbrev chain_statements : List Statement
chain_statements =
    Lattice (codes "chain") ∷ Elements (codes "F" ∷ codes "M" ∷ codes "T" ∷ []) ∷ Below (codes "F") (codes "M") ∷ Below (codes "M") (codes "T")
    ∷ Not (codes "F") (codes "T") ∷ Not (codes "M") (codes "M") ∷ Not (codes "T") (codes "F") ∷ []

chain_is_read : file_of lattice_format decide (text_rows chain_text) ≡ Ok chain_statements
unfolding file_of statements_of line_of statement_fault decide lines_of tokens_from rows_from chain_text
chain_is_read = refl

chain_is_unbroken : first_break chain.algebra ≡ None
unfolding first_break first_tuple tuples first_meet first_join
chain_is_unbroken = refl

pub chain_is_lawful : IsVerdict (text_rows chain_text) (Lawful chain)
chain_is_lawful =
    let whole = (gives_statements lattice_format decide decides (text_rows chain_text) chain_statements).0 chain_is_read in
    let draft = IsDraft-from_whole (text_rows chain_text) chain_statements whole.read whole.whole in
    record {
      accepted =
          record {
            statements = chain_statements;
            read = whole.read;
            whole = whole.whole;
            says = says_gathered chain_statements draft whole.whole chain.name chain.names chain.algebra.negations chain.algebra.order refl refl refl chain_spanned;
          };
      unbroken = chain_is_unbroken;
    }

-- the diamond
abbrev diamond_pairs : List Pair
diamond_pairs = pair 0 1 ∷ pair 0 2 ∷ pair 1 3 ∷ pair 2 3 ∷ []

diamond_paths : (a b : ℕ) → a < 4 → b < 4 → is_below diamond.algebra.order a b ≡ true → Reaches (IsListed diamond_pairs) a b
diamond_paths zero zero h k e = ([], refl)
diamond_paths zero (suc zero) h k e = (1 ∷ [], ((0, omega arith, refl), refl))
diamond_paths zero (suc (suc zero)) h k e = (2 ∷ [], ((1, omega arith, refl), refl))
diamond_paths zero (suc (suc (suc zero))) h k e = (1 ∷ 3 ∷ [], ((0, omega arith, refl), ((2, omega arith, refl), refl)))
diamond_paths zero (suc (suc (suc (suc b)))) h k e = absurd (omega arith)
diamond_paths (suc zero) zero h k e = absurd (false≢true e)
diamond_paths (suc zero) (suc zero) h k e = ([], refl)
diamond_paths (suc zero) (suc (suc zero)) h k e = absurd (false≢true e)
diamond_paths (suc zero) (suc (suc (suc zero))) h k e = (3 ∷ [], ((2, omega arith, refl), refl))
diamond_paths (suc zero) (suc (suc (suc (suc b)))) h k e = absurd (omega arith)
diamond_paths (suc (suc zero)) zero h k e = absurd (false≢true e)
diamond_paths (suc (suc zero)) (suc zero) h k e = absurd (false≢true e)
diamond_paths (suc (suc zero)) (suc (suc zero)) h k e = ([], refl)
diamond_paths (suc (suc zero)) (suc (suc (suc zero))) h k e = (3 ∷ [], ((3, omega arith, refl), refl))
diamond_paths (suc (suc zero)) (suc (suc (suc (suc b)))) h k e = absurd (omega arith)
diamond_paths (suc (suc (suc zero))) zero h k e = absurd (false≢true e)
diamond_paths (suc (suc (suc zero))) (suc zero) h k e = absurd (false≢true e)
diamond_paths (suc (suc (suc zero))) (suc (suc zero)) h k e = absurd (false≢true e)
diamond_paths (suc (suc (suc zero))) (suc (suc (suc zero))) h k e = ([], refl)
diamond_paths (suc (suc (suc zero))) (suc (suc (suc (suc b)))) h k e = absurd (omega arith)
diamond_paths (suc (suc (suc (suc a)))) b h k e = absurd (omega arith)

diamond_columns : (a : ℕ) → a < 4 → length (get_or diamond.algebra.order a []) ≡ 4
diamond_columns zero h = refl
diamond_columns (suc zero) h = refl
diamond_columns (suc (suc zero)) h = refl
diamond_columns (suc (suc (suc zero))) h = refl
diamond_columns (suc (suc (suc (suc a)))) h = absurd (omega arith)

diamond_spanned : IsSpannedBy 4 (IsListed diamond_pairs) diamond.algebra.order
diamond_spanned =
    record {
      square = record { rows = refl; columns = diamond_columns };
      reached = diamond_paths;
      below = λ a b h k path. leads_up 4 diamond.algebra.order diamond_pairs refl path.0 a b h k path.1;
    }

abbrev diamond_statements : List Statement
diamond_statements =
    Lattice (codes "diamond") ∷ Elements (codes "F" ∷ codes "N" ∷ codes "B" ∷ codes "T" ∷ [])
    ∷ Below (codes "F") (codes "N") ∷ Below (codes "F") (codes "B") ∷ Below (codes "N") (codes "T") ∷ Below (codes "B") (codes "T")
    ∷ Not (codes "F") (codes "T") ∷ Not (codes "N") (codes "N") ∷ Not (codes "B") (codes "B") ∷ Not (codes "T") (codes "F") ∷ []

diamond_is_read : file_of lattice_format decide (text_rows diamond_text) ≡ Ok diamond_statements
unfolding file_of statements_of line_of statement_fault decide lines_of tokens_from rows_from diamond_text
diamond_is_read = refl

diamond_is_unbroken : first_break diamond.algebra ≡ None
unfolding first_break first_tuple tuples first_meet first_join
diamond_is_unbroken = refl

pub diamond_is_lawful : IsVerdict (text_rows diamond_text) (Lawful diamond)
diamond_is_lawful =
    let whole = (gives_statements lattice_format decide decides (text_rows diamond_text) diamond_statements).0 diamond_is_read in
    let draft = IsDraft-from_whole (text_rows diamond_text) diamond_statements whole.read whole.whole in
    record {
      accepted =
          record {
            statements = diamond_statements;
            read = whole.read;
            whole = whole.whole;
            says = says_gathered diamond_statements draft whole.whole diamond.name diamond.names diamond.algebra.negations diamond.algebra.order refl refl refl diamond_spanned;
          };
      unbroken = diamond_is_unbroken;
    }
