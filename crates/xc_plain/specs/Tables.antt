-- What a table tells.
use Rattle.xc_ctl.specs.Rounds.{RoundsTable}
use Rattle.xc_plain.specs.Nodes.{rounds_in}
use Rattle.xc_plain.specs.declared.table.PlainTable.{PlainTable}

abbrev pub table_of : PlainTable → RoundsTable
table_of table = rounds_in table.states table.nodes
