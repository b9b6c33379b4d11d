-- The steps of a reader of map files.
use Rattle.std.proofs.Common.{◌≡◌, ℕ, ◌+◌, ◌<◌, ◌≤◌, length, drop, List, [], ◌∷◌, ◌++◌, Result, Ok, Err, sym, ◌∙◌, ap}
use Rattle.std.proofs.lemmas.List.{drop_all}
use Rattle.xc_base.specs.declared.fault.FileFault.{FileFault}
use Rattle.xc_base.specs.declared.fault.Stop.{Stop}
use Rattle.xc_base.specs.declared.fault.Stop.TheVariants.{File, Memory}
use Rattle.xc_base.specs.Formats.{Row}
use Rattle.xc_base.specs.Deciding.{Gives, line_of, statements_of}
use Rattle.xc_base.specs.Lines.{row_at}
use Rattle.xc_base.proofs.Rows.{row_first}
use Rattle.xc_base.proofs.Deciding.{statements_of-end, statements_of-next, statements_of-stops, line_sound}
use Rattle.xc_sigmap.specs.Drafts.{IsFair}
use Rattle.xc_sigmap_lines.specs.declared.statement.Statement.{Statement}
use Rattle.xc_sigmap.proofs.Fair.{next_is_fair}
use Rattle.xc_sigmap_lines.proofs.Deciding.{decides}
use Rattle.xc_sigmap_lines.specs.MapFiles.{map_format}
use Rattle.xc_sigmap_lines.specs.Deciding.{decide}

-- a row that is read gives one more fair statement
pub row_is_fair : (before : List Statement) (row : Row) (s : Statement) → IsFair before → line_of map_format decide before row ≡ Ok s → IsFair (before ++ s ∷ [])
row_is_fair before row s h e = next_is_fair before row.tokens s h (line_sound map_format decide decides before row s e)

-- the rest of the rows, from a place that is read on, is what it was before
pub rest_after : (before all : List Statement) (rows : List Row) (i : ℕ) (s : Statement) → all ≡ before ++ s ∷ [] → i < length rows → line_of map_format decide before (row_at rows i) ≡ Ok s
    → statements_of map_format decide all (drop (i + 1) rows) ≡ statements_of map_format decide before (drop i rows)
rest_after before all rows i s together within h =
    ap (λ (ss : List Statement). statements_of map_format decide ss (drop (i + 1) rows)) together
    ∙ sym (ap (statements_of map_format decide before) (row_first rows i within) ∙ statements_of-next map_format decide before (row_at rows i) (drop (i + 1) rows) s h)

-- the fault at a place is that of the rest
pub stops_at : (before : List Statement) (rows : List Row) (i : ℕ) (stop : Stop) (all : Result (List Statement) FileFault)
    → statements_of map_format decide before (drop i rows) ≡ all → i < length rows → Gives {T = Statement} (Err stop) (line_of map_format decide before (row_at rows i)) → Gives {T = List Statement} (Err stop) all
stops_at before rows i (File f) all same within h =
    sym same ∙ ap (statements_of map_format decide before) (row_first rows i within) ∙ statements_of-stops map_format decide before (row_at rows i) (drop (i + 1) rows) f h
stops_at before rows i Memory all same within h = tt

-- behind the last row all are read
pub rest_ends : (before : List Statement) (rows : List Row) (i : ℕ) → length rows ≤ i → statements_of map_format decide before (drop i rows) ≡ Ok before
rest_ends before rows i h = ap (statements_of map_format decide before) (drop_all i rows h) ∙ statements_of-end map_format decide before
