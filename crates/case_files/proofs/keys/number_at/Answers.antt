use Rattle.toml.specs.Data.{as_integer}
use Rattle.case_files.proofs.Reading.{read_there, read_absent}
use Rattle.case_files.proofs.keys.number_at.Goals as goal

pub returns-in-Some-number_of : goal.returns-in-Some-number_of
returns-in-Some-number_of c = read_there as_integer c.get.result c.args.key.now c.args.table.now c.in-Some.value _ c.get.ensures.value c.in-Some.is c.in-Some-number_of.ensures

pub returns-in-None : goal.returns-in-None
returns-in-None c = read_absent as_integer c.get.result c.args.key.now c.args.table.now c.get.ensures.value c.in-None.is
