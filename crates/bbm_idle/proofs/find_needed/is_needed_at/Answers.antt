use Rattle.bbm_idle.proofs.Common.{Patterns, needed_by, takes_of}
use Rattle.bbm_rules.proofs.Common.{◌≡◌, Bool, ◌&&◌, ◌||◌, reverse, ap, ◌∙◌, IfOk-weaker, any, first_pages, kept_at}
use Rattle.bbm_regimes.specs.PeMask.{pe_in}
use Rattle.bbm_idle.proofs.FindTags.{takes_kept}
use Rattle.bbm_idle.proofs.find_needed.is_needed_at.Goals as goal

pub returns-else-has : goal.returns-else-has
returns-else-has c =
    let h = reverse c.args.before.now in
    let takes : Bool = any (takes_of c.args.header.now h c.args.event.now c.args.pe) (first_pages h) in
    IfOk-weaker c.keeps_some.result
    (λ (b : Bool). b ≡ any (λ r. kept_at c.args.header.now Patterns c.args.pe r.root r.tag h)
    c.args.effect.now.taken.now)
    (λ (b : Bool). b ≡ needed_by c.args.header.now h c.args.event.now (pe_in c.args.effect.now.added) c.args.pe)
    (λ b e. e
    ∙ takes_kept (λ g k e. (c.law_equality_tests.ensures.tags g k).0 e) c.args.header.now h c.args.event.now c.args.pe
    c.args.effect.now.taken.now c.requires
    ∙ ap (λ (b : Bool). b || takes) c.if-has.ensures
    ∙ ap (λ (b : Bool). b && (pe_in c.args.effect.now.added c.args.pe || takes)) c.if-reaches.ensures)
    c.keeps_some.ensures
