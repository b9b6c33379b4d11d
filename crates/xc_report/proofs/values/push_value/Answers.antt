use Rattle.std.proofs.Common.{◌≡◌, ℕ, List, true, take, sym, ap, subst, ◌∙◌}
use Rattle.xc_forms.specs.Variables.{are_fit}
use Rattle.xc_forms.specs.declared.domain.Domain.{Domain}
use Rattle.xc_sigmap_lines.specs.MapFiles.{MapValue}
use Rattle.xc_machine.specs.Machines.{merge_of}
use Rattle.xc_report.proofs.Framed.{declared_parts}
use Rattle.xc_report.proofs.Telling.{row_digits, places_digits}
use Rattle.xc_report.proofs.values.push_value.Goals as goal

pub places_of-places-requires-clause-fit : goal.places_of-places-requires-clause-fit
places_of-places-requires-clause-fit c =
    subst (λ (vars : List Domain). are_fit vars ≡ true) (sym (c.vars-vars.ensures ∙ ap (λ (plan : MapValue). plan.vars) c.map.ensures)) (declared_parts (merge_of c.args.machine.now).plan c.is_framed.ensures.map).fit

pub push_state-requires-clause-row : goal.push_state-requires-clause-row
push_state-requires-clause-row c =
    row_digits (merge_of c.args.machine.now) c.args.state (take c.len.result c.places_of-places.result) c.requires.state
    (places_digits (merge_of c.args.machine.now) c.vars-vars.result.now c.args.state (take c.len.result c.places_of-places.result) (c.vars-vars.ensures ∙ ap (λ (plan : MapValue). plan.vars) c.map.ensures) c.requires.state
    (ap (λ (n : ℕ). take n c.places_of-places.result) c.len.ensures ∙ c.places_of-places.ensures))
