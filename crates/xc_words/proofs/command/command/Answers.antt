use Rattle.std.proofs.Common.{rules, ◌≡◌, ◌∙◌, ap₂, codes}
use Rattle.std.proofs.lemmas.Result.{IfOk-weaker}
use Rattle.clap.specs.Words.{rule_of, with_rule}
use Rattle.xc_words.specs.CommandLine.{flag_rule, mode_rule}
use Rattle.xc_words.proofs.command.command.Goals as goal

pub returns : goal.returns
returns c =
    let mode_is : rule_of c.new.result ≡ mode_rule = search rules in
    let witness_is : rule_of c.flag.result ≡ flag_rule (codes "witness") = search rules in
    let plain_is : rule_of c.flag-2.result ≡ flag_rule (codes "plain") = search rules in
    let size_is : rule_of c.flag-3.result ≡ flag_rule (codes "size") = search rules in
    let one = c.in_ok-arg.ensures.shape (search rules) ∙ ap₂ with_rule c.bare.ensures mode_is in
    let two = c.in_ok-arg-2.ensures.shape (search rules) ∙ ap₂ with_rule one c.files.ensures.rule in
    let three = c.in_ok-arg-3.ensures.shape (search rules) ∙ ap₂ with_rule two witness_is in
    let four = c.in_ok-arg-4.ensures.shape (search rules) ∙ ap₂ with_rule three plain_is in
    IfOk-weaker c.arg-5.result _ _ (λ m h. h.shape (search rules) ∙ ap₂ with_rule four size_is) c.arg-5.ensures
