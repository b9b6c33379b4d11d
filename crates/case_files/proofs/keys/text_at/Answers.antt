use Rattle.toml.specs.Data.{as_str}
use Rattle.case_files.proofs.Reading.{read_there, read_absent}
use Rattle.case_files.proofs.keys.text_at.Goals as goal

pub returns-in-Some-as_str : goal.returns-in-Some-as_str
returns-in-Some-as_str c = read_there as_str c.get.result c.args.key.now c.args.table.now c.in-Some.value _ c.get.ensures.value c.in-Some.is (rw (← c.as_str.ensures, c.in-Some-as_str.is))

pub returns-in-None : goal.returns-in-None
returns-in-None c = read_absent as_str c.get.result c.args.key.now c.args.table.now c.get.ensures.value c.in-None.is
