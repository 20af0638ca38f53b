-- A node below a place tells the place and the node above.
use Rattle.bbm_rules.proofs.Common.{◌≡◌, ℕ, arith, Node, node_below}

pub place_same : (n n' : Node) (place place' q q' : ℕ) → node_below n place q ≡ node_below n' place' q' → place ≡ place'
place_same n n' place place' q q' e = grind arith

pub above_same : (n n' : Node) (place place' q q' : ℕ) → n.page ≡ n'.page → node_below n place q ≡ node_below n' place' q' → n ≡ n'
above_same n n' place place' q q' page e = grind arith
