use Rattle.bbm_page_map.proofs.nodes.+node_for.Given as goal

abbrev pub decreases-node_for : goal.decreases-node_for
decreases-node_for l = l.depth
