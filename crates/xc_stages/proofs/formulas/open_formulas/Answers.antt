use Rattle.xc_course.specs.FileKinds.{Formulas as FormulasOver}
use Rattle.xc_machine.specs.Machines.{merge_of}
use Rattle.xc_report.specs.Reports.{signature_of}
use Rattle.xc_stages.proofs.Opening.{load_stops, formulas_open, formulas_stop}
use Rattle.xc_stages.proofs.formulas.open_formulas.Goals as goal

pub returns-in_err-bytes-clause-stops : goal.returns-in_err-bytes-clause-stops
returns-in_err-bytes-clause-stops g c =
    load_stops (FormulasOver (signature_of (merge_of c.args.machine.now))) c.args.name.now (g.S.Shelf.seen c.args.shelf.now) (g.S.Shelf.seen c.load.new.shelf) c.from_residual.result c.in_err-bytes.field-0.0 c.from_residual.ensures.1 c.in_err-bytes.ensures.stopped c.in_err-bytes.ensures.kept c.in_err-bytes.ensures.files

pub returns-clause-goes_on : goal.returns-clause-goes_on
returns-clause-goes_on g c =
    formulas_open c.args.name.now c.deref.result.now (g.S.Shelf.seen c.args.shelf.now) (g.S.Shelf.seen c.load.new.shelf) (rw c.deref.ensures.value c.in_ok-bytes.ensures.loaded) c.in_ok-bytes.ensures.kept c.in_ok-bytes.ensures.counts (signature_of (merge_of c.args.machine.now)) c.formulas_in.result c.formulas_in.ensures.read

pub returns-clause-stops : goal.returns-clause-stops
returns-clause-stops g c =
    formulas_stop c.args.name.now c.deref.result.now (g.S.Shelf.seen c.args.shelf.now) (g.S.Shelf.seen c.load.new.shelf) (rw c.deref.ensures.value c.in_ok-bytes.ensures.loaded) c.in_ok-bytes.ensures.kept c.in_ok-bytes.ensures.counts (signature_of (merge_of c.args.machine.now)) c.formulas_in.result c.formulas_in.ensures.stopped
