use Rattle.xc_course.specs.FileKinds.{Maps}
use Rattle.xc_stages.proofs.Opening.{load_stops, map_opens, map_stops}
use Rattle.xc_stages.proofs.maps.open_map.Goals as goal

pub returns-in_err-bytes-clause-stops : goal.returns-in_err-bytes-clause-stops
returns-in_err-bytes-clause-stops g c =
    load_stops Maps c.args.name.now (g.S.Shelf.seen c.args.shelf.now) (g.S.Shelf.seen c.load.new.shelf) c.from_residual.result c.in_err-bytes.field-0.0 c.from_residual.ensures.1 c.in_err-bytes.ensures.stopped c.in_err-bytes.ensures.kept c.in_err-bytes.ensures.files

pub returns-clause-goes_on : goal.returns-clause-goes_on
returns-clause-goes_on g c =
    map_opens c.args.name.now c.deref.result.now (g.S.Shelf.seen c.args.shelf.now) (g.S.Shelf.seen c.load.new.shelf) (rw c.deref.ensures.value c.in_ok-bytes.ensures.loaded) c.in_ok-bytes.ensures.kept c.in_ok-bytes.ensures.counts c.map_in.result c.map_in.ensures.read

pub returns-clause-stops : goal.returns-clause-stops
returns-clause-stops g c =
    map_stops c.args.name.now c.deref.result.now (g.S.Shelf.seen c.args.shelf.now) (g.S.Shelf.seen c.load.new.shelf) (rw c.deref.ensures.value c.in_ok-bytes.ensures.loaded) c.in_ok-bytes.ensures.kept c.in_ok-bytes.ensures.counts c.map_in.result c.map_in.ensures.stopped
