-- What a reader gives is the judgement of the file, and each file has one.
use Rattle.std.proofs.Common.{◌≡◌, List, Result, Ok, Err, IfErr, None, refl, sym, ◌∙◌, ap, subst, ◌⊎◌, inl, inr}
use Rattle.std.specs.Result.{IsErrAnd}
use Rattle.xc_base.specs.declared.fault.FileFault.{FileFault}
use Rattle.xc_base.specs.declared.fault.Stop.{Stop}
use Rattle.xc_base.specs.declared.fault.Stop.TheVariants.{File, Memory}
use Rattle.xc_base.specs.Formats.{Row, IsAccepted, IsFirstFault}
use Rattle.xc_base.specs.Deciding.{file_of}
use Rattle.xc_base.specs.Judging.{AreWhole}
use Rattle.xc_base.proofs.Deciding.{gives_statements, gives_faults, statements_are_unique, first_faults_are_unique, accepted_has_no_fault, each_is_judged}
use Rattle.xc_view.specs.ViewFiles.{ViewValue, missing_part, view_of, view_format}
use Rattle.xc_view_lines.specs.ViewLines.{Statement}
use Rattle.xc_view.specs.Deciding.{decide}
use Rattle.xc_view.specs.Laws.{ViewsAreUnique, FaultsAreUnique, AcceptedHasNoFault, EachIsJudged}
use Rattle.xc_view_lines.specs.Statements.{GivesAs}
use Rattle.xc_view.specs.Views.{IsStop}
use Rattle.xc_view.specs.declared.view.View.{View}
use Rattle.xc_view.proofs.Deciding.{decides}

-- a whole file lacks no part
pub none_is_missing : (rows : List Row) (ss : List Statement) → file_of view_format decide rows ≡ Ok ss → missing_part ss ≡ None
none_is_missing rows ss h = ((gives_statements view_format decide decides rows ss).0 h).whole

-- and says the view of its statements
pub view_accepted : (rows : List Row) (ss : List Statement) (v : ViewValue) → file_of view_format decide rows ≡ Ok ss → v ≡ view_of ss → IsAccepted view_format rows v
view_accepted rows ss v h e =
    let whole = (gives_statements view_format decide decides rows ss).0 h in
    record { statements = ss; read = whole.read; whole = whole.whole; says = e }

-- a fault of the rows is their first
pub stop_is_first : {T : Type 0} (show : T → List Statement) (rows : List Row) (stop : Stop) → GivesAs show (Err stop) (file_of view_format decide rows) → IsStop rows stop
stop_is_first show rows (File fault) h = (gives_faults view_format decide decides rows fault).0 h
stop_is_first show rows Memory h = tt

-- the reader hands the stop on
pub stopped_is_first : (rows : List Row) (stop : Stop) → IsStop rows stop → (r : Result View Stop) → IsErrAnd r (λ other. other ≡ stop) → IfErr r (IsStop rows)
stopped_is_first rows stop h (Ok v) e = absurd e
stopped_is_first rows stop h (Err other) e = subst (IsStop rows) (sym e) h

-- each file has one judgement
pub views_are_unique : ViewsAreUnique
views_are_unique rows v w hv hw =
    hv.says ∙ ap view_of (statements_are_unique view_format decide decides rows hv.statements hw.statements hv.read hw.read) ∙ sym hw.says

-- one first fault
pub faults_are_unique : FaultsAreUnique
faults_are_unique rows fault other h k = first_faults_are_unique view_format decide decides rows fault other h k

-- never both
pub accepted_is_faultless : AcceptedHasNoFault
accepted_is_faultless rows v fault h k = accepted_has_no_fault view_format decide decides rows v fault h k

-- a whole file says the view of its statements
judged_by : (rows : List Row) → ((ss : List Statement) × AreWhole view_format rows ss) ⊎ ((fault : FileFault) × IsFirstFault view_format rows fault) → ((v : ViewValue) × IsAccepted view_format rows v) ⊎ ((fault : FileFault) × IsFirstFault view_format rows fault)
judged_by rows (inl (ss, whole)) = inl (view_of ss, record { statements = ss; read = whole.read; whole = whole.whole; says = refl })
judged_by rows (inr faulty) = inr faulty

-- each has one
pub files_are_judged : EachIsJudged
files_are_judged rows = judged_by rows (each_is_judged view_format decide decides rows)
