use Rattle.bbm_rules.proofs.Common.{◌≡◌, rules, true, ◌∙◌, refl}
use Rattle.bbm_oracle_trees.specs.Past.{notes}
use Rattle.bbm_judge.specs.TablePages.{over}
use Rattle.bbm_judge.proofs.TableLemmas.{least_bad}
use Rattle.bbm_judge.proofs.table_rules.mapped_table.Goals as goal

pub returns : goal.returns
returns g c =
    let past = c.args.history.now in
    let on : past.heading.words.isolated ≡ true = search rules in
    c.lesser.ensures
    ∙ least_bad past.heading past.trust (notes past) c.args.event.now
    (over past.heading past.trust (notes past) c.args.event.now c.in_ok-attached.attached) c.extend_from_slice.new.self.items
    c.in_ok-made.made.items c.in_ok-least.least c.least_unclean.result on c.in_ok-attached.ensures.over
    (rw (c.in_ok-extend_from_slice.ensures.items, c.deref.ensures.value, c.in_ok-tables.ensures) refl)
    (c.in_ok-made.ensures ∙ c.in_ok-attached.ensures.made)
    (rw c.deref-2.ensures.value at c.in_ok-least.ensures)
    (rw c.deref-3.ensures.value at c.least_unclean.ensures)
