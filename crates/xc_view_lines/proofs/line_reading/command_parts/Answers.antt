use Rattle.std.proofs.Common.{sym, ◌∙◌, ap, map}
use Rattle.std.specs.Option.{option_map}
use Rattle.xc_expr.specs.Written.{written, set}
use Rattle.xc_view_lines.proofs.Commands.{command_read, action_lacks}
use Rattle.xc_view_lines.proofs.line_reading.command_parts.Goals as goal

pub returns : goal.returns
returns c =
    command_read c.args.name.now c.args.value.now c.args.tokens.now c.in-Some.place c.in-Some.ensures c.in_ok-name.name c.in_ok-value.value c.in-Some-2.guard c.in-Some-3.action
    (c.in_ok-name.ensures) (c.in_ok-value.ensures)
    (sym (ap (option_map written) c.in-Some-2.is) ∙ c.in_ok-guard.ensures)
    (sym (ap (option_map (map set)) c.in-Some-3.is) ∙ c.in_ok-action.ensures)

pub returns-in_default-3 : goal.returns-in_default-3
returns-in_default-3 c =
    action_lacks c.args.name.now c.args.value.now c.args.tokens.now c.in-Some.place c.in-Some.ensures c.in-Some-2.guard
    (sym (ap (option_map written) c.in-Some-2.is) ∙ c.in_ok-guard.ensures)
    (sym (ap (option_map (map set)) c.in_default-3.is) ∙ c.in_ok-action.ensures)
