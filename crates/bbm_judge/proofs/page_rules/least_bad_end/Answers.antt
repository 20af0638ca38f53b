use Rattle.bbm_rules.proofs.Common.{ℕ, List, ap, ◌∙◌, all_ends, pages_of, least, repeated, judged_ends, unfresh}
use Rattle.bbm_oracle_trees.specs.Past.{notes}
use Rattle.bbm_judge.proofs.Leasts.{least_both}
use Rattle.bbm_judge.proofs.page_rules.least_bad_end.Goals as goal

pub returns : goal.returns
returns g c =
    let past = c.args.history.now in
    c.lesser.ensures
    ∙ least_both (unfresh past.heading past.trust (notes past) (pages_of (judged_ends c.args.event.now c.args.attached.now)))
    (repeated (pages_of (all_ends c.args.attached.now))) c.least_unfresh.result c.least_repeated.result
    (c.least_unfresh.ensures
    ∙ ap (λ (ps : List ℕ). least (unfresh past.heading past.trust (notes past) ps)) (c.deref.ensures.value ∙ c.in_ok-judged.ensures))
    (c.least_repeated.ensures ∙ ap (λ (ps : List ℕ). least (repeated ps)) (c.deref-2.ensures.value ∙ c.in_ok-all.ensures))
