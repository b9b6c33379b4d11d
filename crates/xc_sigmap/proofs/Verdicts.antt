-- What a reader gives is the judgement of the file, and each file has one.
use Rattle.std.proofs.Common.{◌≡◌, List, Result, Ok, Err, IfErr, None, refl, sym, ◌∙◌, ap, subst, ◌⊎◌, inl, inr}
use Rattle.std.specs.Result.{IsErrAnd}
use Rattle.xc_base.specs.declared.fault.FileFault.{FileFault}
use Rattle.xc_base.specs.declared.fault.Stop.{Stop}
use Rattle.xc_base.specs.declared.fault.Stop.TheVariants.{File, Memory}
use Rattle.xc_base.specs.Formats.{Row, IsAccepted, IsFirstFault}
use Rattle.xc_base.specs.Deciding.{file_of}
use Rattle.xc_base.specs.Judging.{AreWhole}
use Rattle.xc_base.proofs.Deciding.{gives_statements, gives_faults, statements_are_unique, first_faults_are_unique, accepted_has_no_fault, each_is_judged}
use Rattle.xc_sigmap_lines.specs.MapFiles.{MapValue, missing_part, map_of, map_format}
use Rattle.xc_sigmap_lines.specs.declared.statement.Statement.{Statement}
use Rattle.xc_sigmap_lines.specs.Deciding.{decide}
use Rattle.xc_sigmap.specs.Laws.{MapsAreUnique, FaultsAreUnique, AcceptedHasNoFault, EachIsJudged}
use Rattle.xc_sigmap.specs.Drafts.{GivesAs}
use Rattle.xc_sigmap.specs.Maps.{IsStop}
use Rattle.xc_sigmap.specs.declared.sigmap.SigMap.{SigMap}
use Rattle.xc_sigmap_lines.proofs.Deciding.{decides}

-- a whole file lacks no part
pub none_is_missing : (rows : List Row) (ss : List Statement) → file_of map_format decide rows ≡ Ok ss → missing_part ss ≡ None
none_is_missing rows ss h = ((gives_statements map_format decide decides rows ss).0 h).whole

-- and says the map of its statements
pub map_accepted : (rows : List Row) (ss : List Statement) (v : MapValue) → file_of map_format decide rows ≡ Ok ss → v ≡ map_of ss → IsAccepted map_format rows v
map_accepted rows ss v h e =
    let whole = (gives_statements map_format decide decides rows ss).0 h in
    record { statements = ss; read = whole.read; whole = whole.whole; says = e }

-- a fault of the rows is their first
pub stop_is_first : {T : Type 0} (show : T → List Statement) (rows : List Row) (stop : Stop) → GivesAs show (Err stop) (file_of map_format decide rows) → IsStop rows stop
stop_is_first show rows (File fault) h = (gives_faults map_format decide decides rows fault).0 h
stop_is_first show rows Memory h = tt

-- the reader hands the stop on
pub stopped_is_first : (rows : List Row) (stop : Stop) → IsStop rows stop → (r : Result SigMap Stop) → IsErrAnd r (λ other. other ≡ stop) → IfErr r (IsStop rows)
stopped_is_first rows stop h (Ok v) e = absurd e
stopped_is_first rows stop h (Err other) e = subst (IsStop rows) (sym e) h

-- each file has one judgement
pub maps_are_unique : MapsAreUnique
maps_are_unique rows v w hv hw =
    hv.says ∙ ap map_of (statements_are_unique map_format decide decides rows hv.statements hw.statements hv.read hw.read) ∙ sym hw.says

-- one first fault
pub faults_are_unique : FaultsAreUnique
faults_are_unique rows fault other h k = first_faults_are_unique map_format decide decides rows fault other h k

-- never both
pub accepted_is_faultless : AcceptedHasNoFault
accepted_is_faultless rows v fault h k = accepted_has_no_fault map_format decide decides rows v fault h k

-- a whole file says the map of its statements
judged_by : (rows : List Row) → ((ss : List Statement) × AreWhole map_format rows ss) ⊎ ((fault : FileFault) × IsFirstFault map_format rows fault) → ((v : MapValue) × IsAccepted map_format rows v) ⊎ ((fault : FileFault) × IsFirstFault map_format rows fault)
judged_by rows (inl (ss, whole)) = inl (map_of ss, record { statements = ss; read = whole.read; whole = whole.whole; says = refl })
judged_by rows (inr faulty) = inr faulty

-- each has one
pub files_are_judged : EachIsJudged
files_are_judged rows = judged_by rows (each_is_judged map_format decide decides rows)
