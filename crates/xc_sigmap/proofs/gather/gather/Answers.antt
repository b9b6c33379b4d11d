use Rattle.std.proofs.Common.{◌∙◌}
use Rattle.xc_sigmap.proofs.Gathered.{names_are_few, gathered, gathered_sound}
use Rattle.xc_sigmap.proofs.gather.gather.Goals as goal

pub send_lines-requires-clause-few : goal.send_lines-requires-clause-few
send_lines-requires-clause-few c = names_are_few c.args.draft c.as_slice-statements.result.now c.requires c.as_slice-statements.ensures

pub tells-requires-clause-few : goal.tells-requires-clause-few
tells-requires-clause-few c = names_are_few c.args.draft c.as_slice-statements.result.now c.requires c.as_slice-statements.ensures

pub stutters-requires-clause-few : goal.stutters-requires-clause-few
stutters-requires-clause-few c = names_are_few c.args.draft c.as_slice-statements.result.now c.requires c.as_slice-statements.ensures

pub of-requires : goal.of-requires
of-requires c =
    gathered_sound c.args.draft c.as_slice-statements.result.now c.requires c.as_slice-statements.ensures
    c.index-statements-0.result c.index-statements-0.is
    c.in_ok-name.name c.in_ok-sends.sends c.in_ok-tells.tells c.in_ok-stutters.stutters
    c.in_ok-name.ensures c.in_ok-sends.ensures c.in_ok-tells.ensures c.in_ok-stutters.ensures

pub returns : goal.returns
returns c =
    c.of.ensures
    ∙ gathered c.args.draft c.as_slice-statements.result.now c.requires c.as_slice-statements.ensures
    c.index-statements-0.result c.index-statements-0.is
    c.in_ok-name.name c.in_ok-sends.sends c.in_ok-tells.tells c.in_ok-stutters.stutters
    c.in_ok-name.ensures c.in_ok-sends.ensures c.in_ok-tells.ensures c.in_ok-stutters.ensures
