-- What a reader gives is the verdict on the file.
use Rattle.std.proofs.Common.{◌≡◌, List, Result, Ok, Err, IfOk, IfErr, None, sym, subst}
use Rattle.std.specs.Result.{IsErrAnd}
use Rattle.xc_base.specs.declared.fault.Stop.{Stop}
use Rattle.xc_base.specs.declared.fault.Stop.TheVariants as stops
use Rattle.xc_base.specs.Formats.{Row}
use Rattle.xc_base.specs.Deciding.{Gives, file_of}
use Rattle.xc_base.specs.Judging.{AreWhole}
use Rattle.xc_base.proofs.Deciding.{gives_statements, gives_faults}
use Rattle.xc_lattice.specs.declared.lattice.Lattice.{Lattice}
use Rattle.xc_lattice.specs.declared.statement.Statement.{Statement}
use Rattle.xc_lattice.specs.declared.fault.LatFault.{LatFault}
use Rattle.xc_lattice.specs.declared.fault.LatFault.TheVariants.{File, Broken, Memory}
use Rattle.xc_lattice.specs.LatticeFiles.{LatticeValue, Says, IsLattice, lattice_format, missing_part}
use Rattle.xc_lattice.specs.Deciding.{decide}
use Rattle.xc_lattice.specs.Drafts.{IsDraft, IsReady}
use Rattle.xc_lattice.specs.Stops.{fault_of}
use Rattle.xc_lattice.specs.Values.{value_of, IsFault, IsRefusal, IsAdmitted}
use Rattle.xc_lattice.proofs.Deciding.{decides}
use Rattle.xc_lattice.proofs.Drafts.{IsDraft-from_whole}
use Rattle.xc_lattice.proofs.Said.{IsReady-from_Says}

whole_file : (rows : List Row) (ss : List Statement) → file_of lattice_format decide rows ≡ Ok ss → AreWhole lattice_format rows ss
whole_file rows ss h = (gives_statements lattice_format decide decides rows ss).0 h

pub no_part_lacks : (rows : List Row) (ss : List Statement) → file_of lattice_format decide rows ≡ Ok ss → missing_part ss ≡ None
no_part_lacks rows ss h = (whole_file rows ss h).whole

pub file_is_draft : (rows : List Row) (ss : List Statement) → file_of lattice_format decide rows ≡ Ok ss → IsDraft ss
file_is_draft rows ss h = let whole = whole_file rows ss h in IsDraft-from_whole rows ss whole.read whole.whole

pub file_is_ready : (rows : List Row) (ss : List Statement) (v : LatticeValue) → file_of lattice_format decide rows ≡ Ok ss → Says ss v → IsReady v
file_is_ready rows ss v h says = IsReady-from_Says ss (file_is_draft rows ss h) v says

-- the lattice, where what the file says is admitted
pub lattice_is_verdict : (rows : List Row) (ss : List Statement) (v : LatticeValue) (l : Lattice) → file_of lattice_format decide rows ≡ Ok ss → Says ss v → IsAdmitted v l → IsLattice rows (value_of l)
lattice_is_verdict rows ss v l h says admitted =
    let whole = whole_file rows ss h in
    subst (λ (w : LatticeValue). IsLattice rows w) (sym admitted.same)
    (record { accepted = record { statements = ss; read = whole.read; whole = whole.whole; says = says }; unbroken = admitted.unbroken })

-- the fault, where a law is broken
pub refusal_is_fault : (rows : List Row) (ss : List Statement) (v : LatticeValue) (fault : LatFault) → file_of lattice_format decide rows ≡ Ok ss → Says ss v → IsRefusal v fault → IsFault rows fault
refusal_is_fault rows ss v (File fault) h says refused = absurd refused
refusal_is_fault rows ss v (Broken law names) h says refused =
    let whole = whole_file rows ss h in
    record {
      value = v;
      elements = refused.elements;
      accepted = record { statements = ss; read = whole.read; whole = whole.whole; says = says };
      broken = refused.broken;
      named = refused.named;
    }
refusal_is_fault rows ss v Memory h says refused = tt

-- the fault, where the statements stop
pub stop_is_fault : (rows : List Row) (stop : Stop) → Gives {T = List Statement} (Err stop) (file_of lattice_format decide rows) → IsFault rows (fault_of stop)
stop_is_fault rows (stops.File fault) h = (gives_faults lattice_format decide decides rows fault).0 h
stop_is_fault rows stops.Memory h = tt

pub admitted_is_verdict : (rows : List Row) (ss : List Statement) (v : LatticeValue) → file_of lattice_format decide rows ≡ Ok ss → Says ss v
    → (r : Result Lattice LatFault) → IfOk r (IsAdmitted v) → IfOk r (λ l. IsLattice rows (value_of l))
admitted_is_verdict rows ss v h says (Ok l) admitted = lattice_is_verdict rows ss v l h says admitted
admitted_is_verdict rows ss v h says (Err fault) admitted = tt

pub refused_is_fault : (rows : List Row) (ss : List Statement) (v : LatticeValue) → file_of lattice_format decide rows ≡ Ok ss → Says ss v
    → (r : Result Lattice LatFault) → IfErr r (IsRefusal v) → IfErr r (IsFault rows)
refused_is_fault rows ss v h says (Ok l) refused = tt
refused_is_fault rows ss v h says (Err fault) refused = refusal_is_fault rows ss v fault h says refused

pub stopped_is_fault : (rows : List Row) (stop : Stop) → Gives {T = List Statement} (Err stop) (file_of lattice_format decide rows)
    → (r : Result Lattice LatFault) → IsErrAnd r (λ fault. fault ≡ fault_of stop) → IfErr r (IsFault rows)
stopped_is_fault rows stop h (Ok l) e = absurd e
stopped_is_fault rows stop h (Err fault) e = subst (IsFault rows) (sym e) (stop_is_fault rows stop h)
