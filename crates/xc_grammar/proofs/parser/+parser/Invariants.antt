use Rattle.std.proofs.Common.{◌≡◌, ◌+◌, ◌-◌, ◌*◌, length}
use Rattle.xc_base.specs.Lines.{texts}
use Rattle.xc_base.specs.Operators.{chain}
use Rattle.xc_grammar.specs.Reading.{level}
use Rattle.xc_grammar.proofs.parser.+parser.Given as goal

-- no slice is so long that a tree at a smaller depth would count as much
abbrev pub decreases-nested : goal.decreases-nested
decreases-nested g l = 36893488147419103232 * l.depth

abbrev pub decreases-basic : goal.decreases-basic
decreases-basic g l = 36893488147419103232 * l.depth + 1

abbrev pub decreases-level : goal.decreases-level
decreases-level g l = 36893488147419103232 * l.depth + 2 + l.count

abbrev pub decreases-whole : goal.decreases-whole
decreases-whole g l = 36893488147419103232 * l.depth + 16 + length l.tokens.now

abbrev pub decreases-pair_of : goal.decreases-pair_of
decreases-pair_of g l = 36893488147419103232 * l.depth + 17 + length l.rest.now

abbrev pub decreases-in_brackets : goal.decreases-in_brackets
decreases-in_brackets g l = 36893488147419103232 * l.depth + 18 + length l.rest.now

abbrev pub decreases-under : goal.decreases-under
decreases-under g l = 36893488147419103232 * l.depth + 19 + length l.rest.now

abbrev pub decreases-deeper : goal.decreases-deeper
decreases-deeper g l = 36893488147419103232 * l.depth + 20 + length l.tokens.now

abbrev pub invariant-level-loop-more : goal.invariant-level-loop-more
invariant-level-loop-more g l =
    chain (g.E.Expression.grammar.mark (l.count - 1)) (g.E.Expression.grammar.join (l.count - 1)) (level g.E.Expression.grammar g.E.Expression.atom_in (l.count - 1) l.depth) (g.E.Expression.tree l.tree) (texts l.rest)
    ≡ level g.E.Expression.grammar g.E.Expression.atom_in l.count l.depth (texts l.tokens)

abbrev pub decreases-level-loop-more : goal.decreases-level-loop-more
decreases-level-loop-more g l = length l.rest
