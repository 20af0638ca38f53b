use Rattle.bbm_rules.proofs.Common.{append_assoc, refl}
use Rattle.bbm_oracle_trees.proofs.Pages.{nodes_of_pages_more}
use Rattle.bbm_oracle_trees.proofs.starts.add_pages.Goals as goal

pub loop-index-preserved : goal.loop-index-preserved
loop-index-preserved c =
    let start = c.args.start.now in
    let more = nodes_of_pages_more start.kind start.level start.root start.first start.root c.loop-index.index in
    rw (
      c.in_ok-add.ensures,
      c.loop-index.invariant,
      more,
      c.behind.ensures,
      c.input_pages-size.ensures.value,
      c.new.ensures.items,
      append_assoc,
    ) refl
