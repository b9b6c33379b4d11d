use Rattle.std.proofs.Common.{◌≡◌, drop}
use Rattle.xc_merge.specs.Finding.{prop_values}
use Rattle.xc_merge.proofs.words.look_for_props.Given as goal

abbrev pub invariant-loop-line : goal.invariant-loop-line
invariant-loop-line l = prop_values l.viewpoint l.names (drop l.line-index l.lines) ≡ prop_values l.viewpoint l.names l.lines
