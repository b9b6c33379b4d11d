use Rattle.std.proofs.Common.{[], ◌∷◌, option_map, sym, ap, ◌∙◌}
use Rattle.xc_laws.specs.Tuples.{elements_of}
use Rattle.xc_laws.proofs.Finding.{tuples_one}
use Rattle.xc_laws.proofs.bounded.Bounded.first_one.Goals as goal

pub returns-in_err-a : goal.returns-in_err-a
returns-in_err-a c = ap (option_map elements_of) c.from_residual.ensures ∙ ap (option_map (λ b. b ∷ [])) c.in_err-a.ensures ∙ sym (tuples_one _ _)

pub returns : goal.returns
returns c = ap (option_map (λ b. b ∷ [])) c.in_ok-a.ensures ∙ sym (tuples_one _ _)
