use Rattle.xc_ctl.proofs.numbering.+push_nodes.Given as goal

abbrev pub decreases-push_nodes : goal.decreases-push_nodes
decreases-push_nodes l = goal.size-push_nodes l
