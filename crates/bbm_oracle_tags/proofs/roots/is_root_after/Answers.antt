use Rattle.bbm_rules.proofs.Common.{◌∙◌, sym}
use Rattle.bbm_oracle_tags.proofs.RootLemmas.{root-here, root-elsewhere, retired-here, retired-elsewhere}
use Rattle.bbm_oracle_tags.proofs.roots.is_root_after.Goals as goal

pub returns-then-get-page : goal.returns-then-get-page
returns-then-get-page c = λ h e. rw c.in-Root.is (c.same_kind.ensures
    ∙ root-here h c.in-Root.pe c.in-Root.declared c.args.kind c.in-Root.lock c.in-Root.at c.args.page
    (sym c.get.ensures.value ∙ c.if-get-page.true))

pub returns-else-get-page : goal.returns-else-get-page
returns-else-get-page c = λ h e. rw c.in-Root.is (e
    ∙ root-elsewhere h c.in-Root.pe c.in-Root.declared c.args.kind c.in-Root.lock c.in-Root.at c.args.page
    (λ same. c.if-get-page.false (c.get.ensures.value ∙ same)))

pub returns-then-get-page-2 : goal.returns-then-get-page-2
returns-then-get-page-2 c = λ h e. rw c.in-Unroot.is (
    retired-here h c.in-Unroot.pe c.args.kind c.in-Unroot.at c.args.page
    (sym c.get-in-Unroot.ensures.value ∙ c.if-get-page-2.true))

pub returns-else-get-page-2 : goal.returns-else-get-page-2
returns-else-get-page-2 c = λ h e. rw c.in-Unroot.is (e
    ∙ retired-elsewhere h c.in-Unroot.pe c.args.kind c.in-Unroot.at c.args.page
    (λ same. c.if-get-page-2.false (c.get-in-Unroot.ensures.value ∙ same)))
