-- The steps of a reader of formulas.
use Rattle.std.proofs.Common.{◌≡◌, ℕ, ◌+◌, ◌<◌, true, List, [], ◌∷◌, ◌++◌, length, drop, Some, None, Result, Ok, Err, refl, sym, ◌∙◌, ap, subst, arith}
use Rattle.std.specs.List.{list_all}
use Rattle.xc_theory.specs.Codes.{total}
use Rattle.std.proofs.lemmas.List.{drop_all, map-append, length-map}
use Rattle.xc_base.specs.declared.fault.FileFault.{FileFault}
use Rattle.xc_base.specs.declared.fault.FileFault.TheVariants.{Missing}
use Rattle.xc_base.specs.declared.fault.Part.TheVariants as parts
use Rattle.xc_base.specs.declared.fault.Stop.{Stop}
use Rattle.xc_base.specs.declared.fault.Stop.TheVariants.{File, Memory}
use Rattle.xc_base.specs.Formats.{Row, IsAccepted, IsFirstFault}
use Rattle.xc_base.specs.Deciding.{Gives, line_of, on_ok, statements_of, file_of}
use Rattle.xc_base.specs.Lines.{row_at}
use Rattle.xc_base.proofs.Rows.{row_first}
use Rattle.xc_base.proofs.Deciding.{statements_of-end, statements_of-next, statements_of-stops, gives_statements, gives_faults}
use Rattle.xc_formula.specs.Written.{Written}
use Rattle.xc_ctl.specs.Trees.{Signature, sizes_of, is_fit}
use Rattle.xc_resolved.specs.Resolved.{resolved}
use Rattle.xc_ctl.specs.Tables.{is_table_in}
use Rattle.xc_formula_text.specs.FormulaFiles.{missing_part, table_in, tables_of, formula_format, IsStop}
use Rattle.xc_formula_text.specs.Deciding.{decide, row_table, tables_in, HasRead}
use Rattle.xc_ctl.specs.declared.formula.Formula.{Formula}
use Rattle.xc_ctl.specs.declared.kind.Kind.{Kind}
use Rattle.xc_formula_text.proofs.Deciding.{decides, table_ok, row_is}
use Rattle.xc_formula_text.proofs.Ranges.{tables_in_range}

module _ (n : Signature) (rows : List Row) where
  -- no row is read
  pub none_read : HasRead n rows 0 []
  none_read = record { formulas = []; rest = refl; same = refl }

  -- the table of a row is that of a formula, or the row has the fault
  formula_of : (table : List Kind) (o : Result Written FileFault) → on_ok o (table_ok n) ≡ Ok table → (f : Written) × (o ≡ Ok f) × (table_in (resolved n f) ≡ table)
  formula_of table (Ok f) e = let same : table_in (resolved n f) ≡ table = cc in (f, refl, same)
  formula_of table (Err fault) e = cc

  -- and its fault is that of the row
  fault_of : (fault : FileFault) (o : Result Written FileFault) → on_ok o (table_ok n) ≡ Err fault → o ≡ Err fault
  fault_of fault (Ok f) e = cc
  fault_of fault (Err other) e = cc

  -- there are as many tables as formulas
  read_count : (place : ℕ) (tables : List (List Kind)) (h : HasRead n rows place tables) → length tables ≡ length h.formulas
  read_count place tables h = ap (λ (ts : List (List Kind)). length ts) h.same ∙ length-map h.formulas (λ (f : Written). table_in (resolved n f))

  -- what is said of the row at a place, of the rest of the rows
  here : (place : ℕ) (tables : List (List Kind)) (h : HasRead n rows place tables) → row_table n (length tables) (row_at rows place) ≡ on_ok (line_of (formula_format n) decide h.formulas (row_at rows place)) (table_ok n)
  here place tables h = ap (λ (k : ℕ). row_table n k (row_at rows place)) (read_count place tables h) ∙ row_is n h.formulas (row_at rows place)

  -- the rest of the rows begins with that row
  rest_split : (place : ℕ) (tables : List (List Kind)) (h : HasRead n rows place tables) → place < length rows
      → statements_of (formula_format n) decide [] rows ≡ statements_of (formula_format n) decide h.formulas (row_at rows place ∷ drop (place + 1) rows)
  rest_split place tables h within = sym h.rest ∙ ap (statements_of (formula_format n) decide h.formulas) (row_first rows place within)

  -- one row more is read
  pub more_read : (place : ℕ) (tables : List (List Kind)) (table : List Kind) → HasRead n rows place tables → place < length rows → row_table n (length tables) (row_at rows place) ≡ Ok table
      → HasRead n rows (place + 1) (tables ++ table ∷ [])
  more_read place tables table h within e =
      let found = formula_of table (line_of (formula_format n) decide h.formulas (row_at rows place)) (sym (here place tables h) ∙ e) in
      let f = found.0 in
      record {
        formulas = h.formulas ++ f ∷ [];
        rest =
            sym (statements_of-next (formula_format n) decide h.formulas (row_at rows place) (drop (place + 1) rows) f found.1)
            ∙ sym (rest_split place tables h within);
        same =
            ap (λ (ts : List (List Kind)). ts ++ table ∷ []) h.same
            ∙ ap (λ (t : List Kind). tables_of n h.formulas ++ t ∷ []) (sym found.2)
            ∙ sym (map-append (λ (g : Written). table_in (resolved n g)) h.formulas (f ∷ []));
      }

  -- the fault of all rows is that of the file
  stopped : (fault : FileFault) → statements_of (formula_format n) decide [] rows ≡ Err fault → IsFirstFault (formula_format n) rows fault
  unfolding file_of
  stopped fault e = (gives_faults (formula_format n) decide (decides n) rows fault).0 (rw e refl)

  -- a row has a fault
  pub stops_at : (place : ℕ) (tables : List (List Kind)) (stop : Stop) → HasRead n rows place tables → place < length rows → Gives {T = List Kind} (Err stop) (row_table n (length tables) (row_at rows place)) → IsStop n rows stop
  stops_at place tables (File fault) h within e =
      let at = fault_of fault (line_of (formula_format n) decide h.formulas (row_at rows place)) (sym (here place tables h) ∙ e) in
      stopped fault (rest_split place tables h within ∙ statements_of-stops (formula_format n) decide h.formulas (row_at rows place) (drop (place + 1) rows) fault at)
  stops_at place tables Memory h within e = tt

  -- behind the last row all are formulas
  all_read : (tables : List (List Kind)) (h : HasRead n rows (length rows) tables) → statements_of (formula_format n) decide [] rows ≡ Ok h.formulas
  all_read tables h =
      sym h.rest ∙ ap (statements_of (formula_format n) decide h.formulas) (drop_all (length rows) rows (omega arith)) ∙ statements_of-end (formula_format n) decide h.formulas

  -- no part lacks where there is a table
  some_formula : (formulas : List Written) (t : List Kind) (more : List (List Kind)) → t ∷ more ≡ tables_of n formulas → missing_part formulas ≡ None
  some_formula [] t more e = cc
  some_formula (f ∷ formulas) t more e = refl

  -- then the file is accepted
  table_accepted : (t : List Kind) (more : List (List Kind)) → HasRead n rows (length rows) (t ∷ more) → IsAccepted (formula_format n) rows (t ∷ more)
  unfolding file_of
  table_accepted t more h =
      let all = all_read (t ∷ more) h in
      let some = some_formula h.formulas t more h.same in
      let w = (gives_statements (formula_format n) decide (decides n) rows h.formulas).0 (rw (all, some) refl) in
      record { statements = h.formulas; read = w.read; whole = w.whole; says = h.same }

  -- where there is no table, there is no formula
  no_formula : (formulas : List Written) → [] ≡ tables_of n formulas → missing_part formulas ≡ Some parts.Formula
  no_formula [] e = refl
  no_formula (f ∷ formulas) e = cc

  -- then one lacks
  none_lacks : HasRead n rows (length rows) [] → IsStop n rows (File (Missing parts.Formula))
  unfolding file_of
  none_lacks h =
      let all = all_read [] h in
      let none = no_formula h.formulas h.same in
      (gives_faults (formula_format n) decide (decides n) rows (Missing parts.Formula)).0 (rw (all, none) refl)

-- the tables of the code with one formula more
pub tables_more : (formulas : List Formula) (f : Formula) → tables_in (formulas ++ f ∷ []) ≡ tables_in formulas ++ f.nodes ∷ []
tables_more formulas f = map-append (λ (g : Formula). g.nodes) formulas (f ∷ [])

-- there are as many tables as formulas
pub tables_count : (formulas : List Formula) → length (tables_in formulas) ≡ length formulas
tables_count formulas = length-map formulas (λ (g : Formula). g.nodes)

-- all steps of the rows
pub ruleset row_steps = (none_read, more_read, stops_at, tables_more, tables_count)

-- what is read of a file, where there is a formula and where there is none
pub read_accepted : (n : Signature) (rows : List Row) (formulas : List Formula) → HasRead n rows (length rows) (tables_in formulas) → 0 < length formulas → IsAccepted (formula_format n) rows (tables_in formulas)
read_accepted n rows [] h some = absurd (omega arith)
read_accepted n rows (f ∷ formulas) h some = table_accepted n rows f.nodes (tables_in formulas) h

-- with no formula the file lacks one
pub read_lacks : (n : Signature) (rows : List Row) (formulas : List Formula) → HasRead n rows (length rows) (tables_in formulas) → length formulas ≡ 0 → IsStop n rows (File (Missing parts.Formula))
read_lacks n rows [] h none = none_lacks n rows h
read_lacks n rows (f ∷ formulas) h none = absurd (omega arith)

-- what is read is in range
pub read_range : (n : Signature) (rows : List Row) (formulas : List Formula) → is_fit n ≡ true → HasRead n rows (length rows) (tables_in formulas) → list_all (is_table_in (total (sizes_of n.parts)) (length n.props)) (tables_in formulas) ≡ true
read_range n rows formulas fit h =
    subst (λ (tables : List (List Kind)). list_all (is_table_in (total (sizes_of n.parts)) (length n.props)) tables ≡ true) (sym h.same) (tables_in_range n h.formulas fit)

-- all steps of a file
pub ruleset file_steps = (read_accepted, read_lacks, read_range)
