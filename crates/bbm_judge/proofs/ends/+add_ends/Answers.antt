use Rattle.bbm_rules.proofs.Common.{◌≡◌, ◌+◌, ◌<◌, ◌++◌, List, true, flat_map, rules, ap, ◌∙◌, take_all}
use Rattle.bbm_rules.proofs.Common.{End, is_fresh}
use Rattle.bbm_oracle_trees.specs.Past.{notes}
use Rattle.bbm_judge.proofs.Paths.{ends_through, through}
use Rattle.bbm_judge.proofs.ends.+add_ends.Goals as goal

pub returns : goal.returns
returns g t c =
    let past = c.args.history.now in
    let fresh : is_fresh past.heading past.trust (notes past) c.args.page ≡ true = search rules in
    let low : c.args.level < 3 = search rules in
    let deeper : c.in-Some.below ≡ c.args.level + 1 = search rules in
    c.loop-next.invariant
    ∙ ap (λ (ends : List End). c.args.ends.now.items ++ ends)
    (ap (flat_map (through past.heading past.trust (notes past) c.args.kind c.in-Some.below))
    (take_all c.loop-next.next-index c.deref-next-items.result.now c.loop-next-test.false)
    ∙ ends_through past.heading past.trust (notes past) c.args.kind c.args.level c.in-Some.below c.args.page
    c.deref-next-items.result.now deeper low fresh (c.deref-next-items.ensures.value ∙ c.in_ok-pages.ensures))
