use Rattle.bbm_rules.proofs.Common.{◌≡◌, ◌<◌, ◌+◌, ◌*◌, rules, index_of}
use Rattle.bbm_regimes.specs.World.{input_pages}
use Rattle.bbm_oracle_trees.proofs.Pages.{below_fits}
use Rattle.bbm_oracle_trees.proofs.node.Node.below.Goals as goal

pub invariant_of-result : goal.invariant_of-result
invariant_of-result c =
    let low : c.self.inside.level < 3 = rw (← c.self.view_is) at c.requires in
    let start : c.start.result ≡ c.self.inside.base + index_of c.args.place * input_pages c.self.inside.level =
    rw (← c.self.view_is) at c.start.ensures in
    let deeper : c.unwrap.result ≡ c.self.inside.level + 1 = search rules in
    rw (deeper, start) (below_fits c.self.inside.base c.args.place c.self.inside.level low c.self.invariant)
