-- The stages that open a file: what comes of a course that begins with one.
use Rattle.std.proofs.Common.{◌≡◌, ℕ, List, Result, Ok, Err, IfOk, IfErr, None, ap}
use Rattle.std.specs.Result.{IsErrAnd}
use Rattle.xc_base.specs.Formats.{Row, IsAccepted}
use Rattle.xc_base.specs.Lines.{text_rows}
use Rattle.xc_base.specs.Shelves.{Shelved, IsLoaded}
use Rattle.xc_base.specs.Text.{text_fault}
use Rattle.xc_base.specs.declared.shelf.File.{File}
use Rattle.xc_lattice.specs.LatticeFiles.{Verdict, Faulty, lattice_format}
use Rattle.xc_view.specs.ViewFiles.{view_format}
use Rattle.xc_view.specs.Views.{value_of as view_of}
use Rattle.xc_view.specs.declared.view.View.{View}
use Rattle.xc_sigmap_lines.specs.MapFiles.{map_format}
use Rattle.xc_sigmap.specs.Maps.{value_of as map_of}
use Rattle.xc_sigmap.specs.declared.sigmap.SigMap.{SigMap}
use Rattle.xc_formula_text.specs.FormulaFiles.{formula_format}
use Rattle.xc_ctl.specs.Formulas.{nodes_in}
use Rattle.xc_ctl.specs.Trees.{Signature}
use Rattle.xc_ctl.specs.declared.formula.Formulas.{Formulas}
use Rattle.xc_lines.specs.declared.halt.Halt.{Halt}
use Rattle.xc_course.specs.Courses.{Course, Event, Ends, Refusal}
use Rattle.xc_course.specs.Courses.Reads.{faulty, accepted}
use Rattle.xc_course.specs.FileKinds.{FileKind, Lattices, Views, Maps, Formulas as FormulasOver, Found, ComesOf, ReadsKind, limit_of}
use Rattle.xc_course.specs.Loads.{TellsSame}
use Rattle.xc_course.specs.Trees.{Tree, Open, Happens}
use Rattle.xc_course.specs.Works.{GoesOn, LeavesOn, Stops}
use Rattle.xc_course.proofs.Working.{came_by, halt_kept, kept_on, passed_on, same_told, told_on}
use Rattle.xc_stages.specs.Loaded.{CountsOn, IsFaultRefusal, IsLoadHalt, IsRead, IsUnread, IsVerdictOf, verdict_of}
use Rattle.xc_stages.specs.declared.lattices.Judged.{Judged}
use Rattle.xc_stages.specs.declared.lattices.Judged.TheVariants.{Broken, Lawful}
use Rattle.xc_stages.proofs.Loading.{load_goes_on, load_halted, cut_goes_on, unread_came}

module _ (kind : FileKind) (name : List ℕ) where
  -- what comes behind the rows
  abbrev pub behind : (Found kind → Tree) → List Row → Course
  behind next = ReadsKind kind name (λ found. Happens (next found))

  -- a file that was not loaded
  not_loaded : (before now : Shelved) (halt : Halt) → IsLoadHalt name before now halt → LeavesOn before.told now.told halt → TellsSame before.told now.told → Stops (Open kind name) before now halt
  not_loaded before now halt is kept files = λ next out. record { came = load_halted (limit_of kind) name (behind next) before now out halt is; kept = kept; files = files }

  pub load_stops : {X : Type 0} (before now : Shelved) (result : Result X Halt) (halt : Halt) → IsErrAnd result (λ e. e ≡ halt) → IsLoadHalt name before now halt → LeavesOn before.told now.told halt → TellsSame before.told now.told → IfErr result (Stops (Open kind name) before now)
  load_stops before now result halt passed is kept files = passed_on (Stops (Open kind name) before now) result halt passed (not_loaded before now halt is kept files)

  module _ (bytes : List ℕ) (before now : Shelved) (loaded : IsLoaded before.told name (limit_of kind) bytes) (same : now.told ≡ before.told) (counts : CountsOn before now) where
    -- one that was, and was read
    opened : (found : Found kind) → text_fault (limit_of kind) bytes ≡ None → ((next : Found kind → Course) (m : ℕ → List File) (e : Event) → next found m e → ReadsKind kind name next (text_rows bytes) m e) → GoesOn (Open kind name) before now found
    opened found sound reads = λ next after out out_after result h. record {
      came = load_goes_on (limit_of kind) name (behind next) bytes before now after out out_after result loaded same counts
          (cut_goes_on (limit_of kind) name (behind next) bytes now after out out_after result sound
          (came_by (Happens (next found)) (behind next (text_rows bytes)) (reads (λ f. Happens (next f))) now after out out_after result h.came));
      kept = kept_on before.told now.told after.told result same h.kept;
      files = told_on before.told now.told after.told same h.files;
    }

    -- and one that was not read
    not_read : (P : List Row → List ℕ → Type 0) (halt : Halt) → IsUnread P (limit_of kind) name bytes halt → ((next : Found kind → Course) (line : List ℕ) (m : ℕ → List File) → P (text_rows bytes) line → ReadsKind kind name next (text_rows bytes) m (Ends (Refusal line))) → Stops (Open kind name) before now halt
    not_read P halt unread refused = λ next out. record {
      came = load_goes_on (limit_of kind) name (behind next) bytes before now now out out (Err halt) loaded same counts
          (unread_came (limit_of kind) name (behind next) P bytes now out halt (λ line m p. refused (λ f. Happens (next f)) line m p) unread);
      kept = kept_on before.told now.told now.told (Err halt) same (halt_kept now.told halt);
      files = told_on before.told now.told now.told same (same_told now.told);
    }

-- each kind of file, as the code reads it
module _ (name bytes : List ℕ) (before now : Shelved) (loaded : IsLoaded before.told name 1048576 bytes) (same : now.told ≡ before.told) (counts : CountsOn before now) where
  pub map_opens : (result : Result SigMap Halt) → IfOk result (λ m. IsRead (IsAccepted map_format) 1048576 bytes (map_of m)) → IfOk result (λ m. GoesOn (Open Maps name) before now (map_of m))
  map_opens (Ok m) h = opened Maps name bytes before now loaded same counts (map_of m) h.sound (λ next moments e p. accepted (map_of m) h.read p)
  map_opens (Err halt) h = tt

  pub map_stops : (result : Result SigMap Halt) → IfErr result (IsUnread (IsFaultRefusal map_format name) 1048576 name bytes) → IfErr result (Stops (Open Maps name) before now)
  map_stops (Ok m) h = tt
  map_stops (Err halt) h = not_read Maps name bytes before now loaded same counts (IsFaultRefusal map_format name) halt h (λ next line moments r. faulty r.fault r.first (ap (λ l. Ends (Refusal l)) r.told))

  pub view_opens : (result : Result View Halt) → IfOk result (λ v. IsRead (IsAccepted view_format) 1048576 bytes (view_of v)) → IfOk result (λ v. GoesOn (Open Views name) before now (view_of v))
  view_opens (Ok v) h = opened Views name bytes before now loaded same counts (view_of v) h.sound (λ next moments e p. accepted (view_of v) h.read p)
  view_opens (Err halt) h = tt

  pub view_stops : (result : Result View Halt) → IfErr result (IsUnread (IsFaultRefusal view_format name) 1048576 name bytes) → IfErr result (Stops (Open Views name) before now)
  view_stops (Ok v) h = tt
  view_stops (Err halt) h = not_read Views name bytes before now loaded same counts (IsFaultRefusal view_format name) halt h (λ next line moments r. faulty r.fault r.first (ap (λ l. Ends (Refusal l)) r.told))

  comes_of : (judged : Judged) (next : Verdict → Course) (moments : ℕ → List File) (e : Event) → next (verdict_of judged) moments e → ComesOf name next (verdict_of judged) moments e
  comes_of (Broken law elements) next moments e p = p
  comes_of (Lawful l) next moments e p = p

  pub lattice_opens : (result : Result Judged Halt) → IfOk result (IsRead IsVerdictOf 1048576 bytes) → IfOk result (λ j. GoesOn (Open Lattices name) before now (verdict_of j))
  lattice_opens (Ok j) h = opened Lattices name bytes before now loaded same counts (verdict_of j) h.sound (λ next moments e p. record { verdict = verdict_of j; judged = h.read; comes = comes_of j next moments e p })
  lattice_opens (Err halt) h = tt

  pub lattice_stops : (result : Result Judged Halt) → IfErr result (IsUnread (IsFaultRefusal lattice_format name) 1048576 name bytes) → IfErr result (Stops (Open Lattices name) before now)
  lattice_stops (Ok j) h = tt
  lattice_stops (Err halt) h = not_read Lattices name bytes before now loaded same counts (IsFaultRefusal lattice_format name) halt h (λ next line moments r. record { verdict = Faulty r.fault; judged = r.first; comes = ap (λ l. Ends (Refusal l)) r.told })

  pub formulas_open : (n : Signature) (result : Result Formulas Halt) → IfOk result (λ fs. IsRead (IsAccepted (formula_format n)) 1048576 bytes (nodes_in fs)) → IfOk result (λ fs. GoesOn (Open (FormulasOver n) name) before now (nodes_in fs))
  formulas_open n (Ok fs) h = opened (FormulasOver n) name bytes before now loaded same counts (nodes_in fs) h.sound (λ next moments e p. accepted (nodes_in fs) h.read p)
  formulas_open n (Err halt) h = tt

  pub formulas_stop : (n : Signature) (result : Result Formulas Halt) → IfErr result (IsUnread (IsFaultRefusal (formula_format n) name) 1048576 name bytes) → IfErr result (Stops (Open (FormulasOver n) name) before now)
  formulas_stop n (Ok fs) h = tt
  formulas_stop n (Err halt) h = not_read (FormulasOver n) name bytes before now loaded same counts (IsFaultRefusal (formula_format n) name) halt h (λ next line moments r. faulty r.fault r.first (ap (λ l. Ends (Refusal l)) r.told))
