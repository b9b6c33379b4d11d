use Rattle.std.proofs.Common.{◌≡◌, IfOk, ◌∙◌, subst}
use Rattle.xc_ctl.specs.Formulas.{tree_of}
use Rattle.xc_ctl.specs.Trees.{Tree}
use Rattle.xc_ctl.proofs.TableTrees.{last_tree}
use Rattle.xc_ctl.proofs.rebuilt.formula_of.Goals as goal

pub returns : goal.returns
returns c =
    let same = last_tree c.args.formula.now.nodes _ _ c.nodes.ensures.table (c.as_slice-nodes.ensures ∙ c.nodes.ensures.nodes) c.node_at.ensures in
    subst (λ (t : Tree). IfOk c.tree_on.result (λ tree. tree_of tree ≡ t)) same c.tree_on.ensures
