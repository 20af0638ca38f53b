use Rattle.bbm_rules.proofs.Common.{◌∙◌, sym}
use Rattle.bbm_judge.proofs.Leasts.{repeated_found, repeated_now}
use Rattle.bbm_judge.proofs.least.with_repeated.Goals as goal

pub returns-then-is_at_most : goal.returns-then-is_at_most
returns-then-is_at_most c = repeated_found c.args.found c.args.page c.args.behind.now c.requires
    (sym c.is_at_most.ensures ∙ c.if-is_at_most.true)

pub returns-then-has_page : goal.returns-then-has_page
returns-then-has_page c = rw c.get.ensures.value (repeated_now c.args.found c.args.page c.args.behind.now c.requires
    (sym c.is_at_most.ensures ∙ c.if-is_at_most.false) (sym c.has_page.ensures ∙ c.if-has_page.true))
