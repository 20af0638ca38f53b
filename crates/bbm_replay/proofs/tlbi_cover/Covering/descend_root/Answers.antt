use Rattle.bbm_replay.proofs.Common.{node_in, core_at, IsSettled, MetFromAll}
use Rattle.bbm_rules.proofs.Common.{sym, ◌∙◌, ap, subst, page_count, Declared, same_Some}
use Rattle.bbm_replay.proofs.tlbi_cover.Covering.descend_root.Goals as goal

pub returns-clause-met : goal.returns-clause-met
returns-clause-met c root is covers =
    let by = c.args.self.now in
    let node = node_in by.index.now in
    let core = core_at c.args.map.now in
    let settled = IsSettled c.args.map.now by c.descend_pages.new.found.items in
    let same = c.root.view_is ∙ same_Some c.in-Some.root root (sym c.in-Some.is ∙ c.nth.ensures ∙ is) in
    let count = c.page_count.ensures.value ∙ ap (λ (r : Declared). page_count by.header.now.world r.kind) same in
    subst (λ (r : Declared). MetFromAll node core c.args.input r.page (page_count by.header.now.world root.kind) settled) same
    (subst (λ n. MetFromAll node core c.args.input c.root.inside.page n settled) count c.in_ok-descend_pages.ensures.met)
