use Rattle.std.proofs.Common.{◌≡◌, drop}
use Rattle.xc_view.specs.Views.{value_of as view_of}
use Rattle.xc_merge.specs.Finding.{sent}
use Rattle.xc_merge.proofs.lines.look_in_sends.Given as goal

abbrev pub invariant-loop-line : goal.invariant-loop-line
invariant-loop-line l = sent l.viewpoint l.number (view_of l.view) (drop l.line-index l.lines) ≡ sent l.viewpoint l.number (view_of l.view) l.lines
