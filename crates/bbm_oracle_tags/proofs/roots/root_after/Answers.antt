use Rattle.bbm_rules.proofs.Common.{◌∙◌, sym}
use Rattle.bbm_oracle_tags.proofs.RootLemmas.{found-elsewhere, none-here, kept-elsewhere}
use Rattle.bbm_oracle_tags.proofs.roots.root_after.Goals as goal

pub returns-else-get-page : goal.returns-else-get-page
returns-else-get-page c = λ h e. rw c.in-Root.is (e
    ∙ found-elsewhere h c.in-Root.pe c.in-Root.kind c.in-Root.lock c.in-Root.at c.args.page
    (λ same. c.if-get-page.false (c.get.ensures.value ∙ same)))

pub returns-then-get-page-2 : goal.returns-then-get-page-2
returns-then-get-page-2 c = λ h e. rw c.in-Unroot.is (
    none-here h c.in-Unroot.pe c.in-Unroot.at c.args.page
    (sym c.get-in-Unroot.ensures.value ∙ c.if-get-page-2.true))

pub returns-else-get-page-2 : goal.returns-else-get-page-2
returns-else-get-page-2 c = λ h e. rw c.in-Unroot.is (e
    ∙ kept-elsewhere h c.in-Unroot.pe c.in-Unroot.at c.args.page
    (λ same. c.if-get-page-2.false (c.get-in-Unroot.ensures.value ∙ same)))
