use Rattle.bbm_replay.proofs.Common.{node_in, marks_at, restless_place, Marks, notes}
use Rattle.bbm_rules.proofs.Common.{◌≡◌, true, false, is_some, Option, Some, sym, ◌∙◌, ap, arith, true≢false, has_page}
use Rattle.bbm_rules.proofs.Common.{cover_at, page_of, Patterns, Tlbi}
use Rattle.bbm_tlbi_scope.specs.declared.entry.Cover.TheVariants.{None as NoCover}
use Rattle.bbm_replay.proofs.Findings.{covered_at}
use Rattle.bbm_replay.proofs.Found.{found_at, none_at}
use Rattle.bbm_replay.proofs.SamePage.{page_alike}
use Rattle.bbm_replay.proofs.Skips.{place_unnamed}
use Rattle.bbm_replay.proofs.tlbi_cover.Covering.cover_page.Goals as goal

pub returns-in_default-clause-here : goal.returns-in_default-clause-here
returns-in_default-clause-here c heading h pe op xt issued =
    let place = c.restless_at-place.result in
    absurd (true≢false (sym c.restless_at-place.ensures.broken
    ∙ ap (λ (x : Option Marks). is_some x) (issued.1.told.outside place
    (none_at (node_in c.args.self.now.index.now (page_of place)) place c.path_of.result c.in_default.is
    c.path_of.ensures))))

pub returns-then-not-has_page-clause-here : goal.returns-then-not-has_page-clause-here
returns-then-not-has_page-clause-here c =
    covered_at c.args.map.now c.args.self.now c.cover_of-cover.result c.args.i c.restless_at-place.result
    c.restless_core.result c.restless_at-place.ensures.place c.restless_core.ensures c.cover_of-cover.ensures

pub returns-then-not-has_page-clause-alike : goal.returns-then-not-has_page-clause-alike
returns-then-not-has_page-clause-alike c a same broken heading h pe op xt issued =
    let by = c.args.self.now in
    let map = c.args.map.now in
    let place = restless_place map c.args.i in
    let here = c.restless_at-place.ensures.place in
    let page = ap page_of here in
    let unpaged : has_page by.named.now.scope.family ≡ false = sym c.has_page.ensures ∙ c.if-not-has_page.true in
    covered_at c.args.map.now c.args.self.now c.cover_of-cover.result c.args.i c.restless_at-place.result
    c.restless_core.result c.restless_at-place.ensures.place c.restless_core.ensures c.cover_of-cover.ensures
    heading h pe op xt issued
    ∙ page_alike (c.law_notes_keep_the_events.ensures heading Patterns h) issued.1 unpaged place a
    (omega (arith, page, same, c.page-page.ensures))
    (ap (λ x. is_some (marks_at map x)) (sym here) ∙ c.restless_at-place.ensures.broken) broken

pub returns-then-names_none-clause-here : goal.returns-then-names_none-clause-here
returns-then-names_none-clause-here c =
    covered_at c.args.map.now c.args.self.now c.cover_of-cover.result c.args.i c.restless_at-place.result
    c.restless_core.result c.restless_at-place.ensures.place c.restless_core.ensures c.cover_of-cover.ensures

pub returns-then-names_none-clause-alike : goal.returns-then-names_none-clause-alike
returns-then-names_none-clause-alike c a same broken heading h pe op xt issued =
    let by = c.args.self.now in
    let map = c.args.map.now in
    let place = c.restless_at-place.result in
    let n = found_at (node_in by.index.now (page_of place)) place c.path_of.result c.in-Some.path
    c.in-Some.is c.path_of.ensures in
    let page : page_of a ≡ page_of place = omega (arith, same, c.page-page.ensures) in
    let is : node_in by.index.now (page_of a) ≡ Some n.0 = ap (node_in by.index.now) page ∙ n.1 in
    let paged : has_page by.named.now.scope.family ≡ true = sym c.has_page.ensures ∙ c.if-not-has_page.false in
    let none : cover_at heading Patterns (notes heading h) (Tlbi pe op xt) a ≡ NoCover
    = place_unnamed (c.law_notes_keep_the_events.ensures heading Patterns h) issued.1 paged n.0 a is
    (c.names_none.ensures c.if-names_none.true n.0 n.2 a) in
    c.in-None.is ∙ sym none

pub returns-else-names_none-clause-here : goal.returns-else-names_none-clause-here
returns-else-names_none-clause-here c =
    covered_at c.args.map.now c.args.self.now c.cover_of-cover.result c.args.i c.restless_at-place.result
    c.restless_core.result c.restless_at-place.ensures.place c.restless_core.ensures c.cover_of-cover.ensures

pub returns-in_default-cover : goal.returns-in_default-cover
returns-in_default-cover c =
    record {
      here = covered_at c.args.map.now c.args.self.now c.cover_of-cover.result c.args.i c.restless_at-place.result
          c.restless_core.result c.restless_at-place.ensures.place c.restless_core.ensures c.cover_of-cover.ensures;
      alike = tt;
    }
