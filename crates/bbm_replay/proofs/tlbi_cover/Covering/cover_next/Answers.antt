use Rattle.bbm_replay.proofs.Common.{marks_at, restless_place, IsCovered}
use Rattle.bbm_rules.proofs.Common.{◌≡◌, ℕ, true, is_some, sym, ◌∙◌, ap, arith, page_of}
use Rattle.bbm_replay.specs.declared.tlbi_cover.pages.PageCover.{PageCover}
use Rattle.bbm_replay.proofs.Findings.{if_some}
use Rattle.bbm_replay.proofs.tlbi_cover.Covering.cover_next.Goals as goal

pub returns-then-get-clause-here : goal.returns-then-get-clause-here
returns-then-get-clause-here c =
    let map = c.args.map.now in
    let here = c.restless_at.ensures.place in
    let page = ap page_of here in
    if_some (λ (k : PageCover). (a : ℕ) → page_of a ≡ k.page → is_some (marks_at map a) ≡ true
    → IsCovered map c.args.self.now k.cover a) c.args.alike.now c.in-Some.known c.in-Some.is c.requires.alike
    (restless_place map c.args.i)
    (omega (arith, page, c.if-get.true, c.get.ensures.value, c.get-in-Some.ensures.value, c.page-page.ensures))
    (ap (λ a. is_some (marks_at map a)) (sym here) ∙ c.restless_at.ensures.broken)
