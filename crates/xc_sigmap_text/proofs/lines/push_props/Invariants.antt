use Rattle.std.proofs.Common.{◌≡◌, ◌++◌, drop}
use Rattle.xc_sigmap_lines.specs.declared.statement.Statement.TheVariants.{Prop}
use Rattle.xc_sigmap_text.specs.Written.{written}
use Rattle.xc_sigmap_text.proofs.lines.push_props.Given as goal

abbrev pub invariant-loop-name : goal.invariant-loop-name
invariant-loop-name l = l.text ++ written Prop (drop l.name-index l.props) ≡ l.fn.text ++ written Prop l.props
