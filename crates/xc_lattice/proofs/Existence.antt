-- Each lattice file has a verdict.
use Rattle.std.proofs.Common.{◌≡◌, ◌<◌, List, map, Option, Some, None, Result, Ok, Err, length, refl, arith}
use Rattle.xc_base.specs.declared.fault.FileFault.{FileFault}
use Rattle.xc_base.specs.Formats.{Row, IsAccepted}
use Rattle.xc_base.specs.Judging.{AreWhole}
use Rattle.xc_base.specs.Deciding.{file_of}
use Rattle.xc_base.proofs.Deciding.{gives_statements, gives_faults}
use Rattle.xc_laws.specs.declared.breaks.Break.{Break}
use Rattle.xc_lattice.specs.declared.statement.Statement.{Statement}
use Rattle.xc_laws.specs.Breaks.{first_break}
use Rattle.xc_lattice.specs.LatticeFiles.{LatticeValue, lattice_format, Verdict, IsVerdict}
use Rattle.xc_base.specs.Names.{name_at}
use Rattle.xc_lattice.specs.LatticeFiles.Verdict.{Faulty, Unlawful, Lawful}
use Rattle.xc_lattice.specs.Laws.{EachHasVerdict}
use Rattle.xc_lattice.specs.Deciding.{decide}
use Rattle.xc_lattice.specs.Drafts.{IsDraft, pairs_of, negations_of}
use Rattle.xc_lattice.proofs.Deciding.{decides}
use Rattle.xc_lattice.proofs.Drafts.{IsDraft-from_whole}
use Rattle.xc_lattice.proofs.Said.{pairs_in_range, gathered_says}
use Rattle.xc_lattice.proofs.Spanning.{spanned_table}

-- an accepted file, by the first break of what it says
verdict_on : (rows : List Row) (v : LatticeValue) (o : Option Break) → first_break v.algebra ≡ o → IsAccepted lattice_format rows v → (a : Verdict) × IsVerdict rows a
verdict_on rows v None e h = (Lawful v, record { accepted = h; unbroken = e })
verdict_on rows v (Some b) e h =
    (Unlawful b.law (map (name_at v.names) b.elements), record { value = v; elements = b.elements; accepted = h; broken = e; named = refl })

-- a whole file
whole_verdict : (rows : List Row) (ss : List Statement) → AreWhole lattice_format rows ss → (a : Verdict) × IsVerdict rows a
whole_verdict rows ss whole =
    let d : IsDraft ss = IsDraft-from_whole rows ss whole.read whole.whole in
    let some : 0 < length d.names = omega (arith, d.some) in
    let spanned = spanned_table (length d.names) (pairs_of d.names ss) some d.few (pairs_in_range ss d) in
    let v : LatticeValue = record { name = d.name; names = d.names; algebra = record { order = spanned.0; negations = negations_of d.names ss } } in
    verdict_on rows v (first_break v.algebra) refl
    (record { statements = ss; read = whole.read; whole = whole.whole; says = gathered_says ss d whole.whole (negations_of d.names ss) spanned.0 refl spanned.1 })

verdict_by : (rows : List Row) (o : Result (List Statement) FileFault) → file_of lattice_format decide rows ≡ o → (a : Verdict) × IsVerdict rows a
verdict_by rows (Ok ss) e = whole_verdict rows ss ((gives_statements lattice_format decide decides rows ss).0 e)
verdict_by rows (Err f) e = (Faulty f, (gives_faults lattice_format decide decides rows f).0 e)

pub each_has_verdict : EachHasVerdict
each_has_verdict rows = verdict_by rows (file_of lattice_format decide rows) refl
