use Rattle.xc_grammar.proofs.Trees.{tree_sound, tree_complete, tree_unique}
use Rattle.xc_grammar.proofs.laws.trees_are_read.Goals as goal

pub returns-clause-read : goal.returns-clause-read
returns-clause-read g c = let e = g.E.Expression in λ d tokens t. (tree_sound e.grammar e.atom_in c.requires d tokens t, tree_complete e.grammar e.atom_in c.requires d tokens t)

pub returns-clause-unique : goal.returns-clause-unique
returns-clause-unique g c = let e = g.E.Expression in λ d tokens t u. tree_unique e.grammar e.atom_in c.requires d tokens t u
