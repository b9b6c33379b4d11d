use Rattle.xc_plain.proofs.Telling.{some_until_arm, each_until_arm, always_arm}
use Rattle.xc_plain.proofs.node.node_rows.Goals as goal

pub returns-in_ok-iterates-in-Eu : goal.returns-in_ok-iterates-in-Eu
returns-in_ok-iterates-in-Eu g c =
    some_until_arm (g.M.Framed.frame c.args.model.now) (g.met.M.Framed.is_frame c.args.model.now) c.args.rows.now c.requires.rows c.args.table.now c.requires.some c.requires.table c.args.kind c.requires.children _ _ _ _ _ c.in-Eu.is c.function_of-left-in-Eu.ensures c.function_of-right-in-Eu.ensures c.in_ok-iterates-in-Eu.ensures.rounds c.in_ok-iterates-in-Eu.ensures.few

pub returns-in_ok-iterates-in-Au : goal.returns-in_ok-iterates-in-Au
returns-in_ok-iterates-in-Au g c =
    each_until_arm (g.M.Framed.frame c.args.model.now) (g.met.M.Framed.is_frame c.args.model.now) c.args.rows.now c.requires.rows c.args.table.now c.requires.some c.requires.table c.args.kind c.requires.children _ _ _ _ _ c.in-Au.is c.function_of-left-in-Au.ensures c.function_of-right-in-Au.ensures c.in_ok-iterates-in-Au.ensures.rounds c.in_ok-iterates-in-Au.ensures.few

pub returns-in_ok-iterates-in-Eg : goal.returns-in_ok-iterates-in-Eg
returns-in_ok-iterates-in-Eg g c =
    always_arm (g.M.Framed.frame c.args.model.now) (g.met.M.Framed.is_frame c.args.model.now) c.args.rows.now c.requires.rows c.args.table.now c.requires.some c.requires.table c.args.kind c.requires.children _ _ _ c.in-Eg.is c.function_of-codes-in-Eg.ensures c.in_ok-iterates-in-Eg.ensures.rounds c.in_ok-iterates-in-Eg.ensures.few
