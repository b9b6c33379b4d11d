-- The settings that are read and the tokens that are left come to what all tokens come to.
use Rattle.std.proofs.Common.{◌≡◌, ◌≤◌, []}
use Rattle.xc_base.specs.Lines.{texts}
use Rattle.xc_expr.specs.ActionReading.{reads_from}
use Rattle.xc_expr.proofs.action_parser.parse_settings.Given as goal

abbrev pub invariant-loop-place : goal.invariant-loop-place
invariant-loop-place l = record {
  order : l.start ≤ l.place;
  known : reads_from l.settings (texts l.tokens) l.start l.place ≡ reads_from [] (texts l.tokens) 0 0;
}
