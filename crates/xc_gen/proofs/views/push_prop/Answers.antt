use Rattle.std.proofs.Common.{codes}
use Rattle.xc_gen.specs.Generated.{has_value}
use Rattle.xc_gen.proofs.Rows.{three_pushed}
use Rattle.xc_gen.proofs.views.push_prop.Goals as goal

pub returns : goal.returns
returns c =
    three_pushed c.push_piece-2.result c.args.text.now (codes "prop last T when ") (has_value c.args.last 1) (codes "\n") _ _ _
    c.in_ok-push_piece.ensures c.in_ok-push_phrase.ensures c.push_piece-2.ensures
