use Rattle.bbm_rules.proofs.Common.{ap, sym, ◌∙◌, Heading}
use Rattle.bbm_rules.specs.Held.{empties_tables}
use Rattle.bbm_oracle_trees.specs.Past.{notes}
use Rattle.bbm_oracle_trees.proofs.Emptying.{emptied_next, none_emptied}
use Rattle.bbm_oracle_trees.proofs.emptied.emptied_after.Goals as goal

pub returns-in_ok-now : goal.returns-in_ok-now
returns-in_ok-now g c =
    emptied_next c.args.taken.now c.args.event.now c.args.before.now c.in_ok-now.now.items
    (ap (λ (h : Heading). empties_tables h.version) (sym c.header.ensures) ∙ sym c.empties_tables.ensures
    ∙ c.if-empties_tables.true)
    c.requires c.in_ok-now.ensures

pub returns-else-empties_tables : goal.returns-else-empties_tables
returns-else-empties_tables g c =
    none_emptied c.args.taken.now.heading c.args.taken.now.trust (notes c.args.taken.now) c.new.result.items
    c.new.ensures.items
    (ap (λ (h : Heading). empties_tables h.version) (sym c.header.ensures) ∙ sym c.empties_tables.ensures
    ∙ c.if-empties_tables.false)
