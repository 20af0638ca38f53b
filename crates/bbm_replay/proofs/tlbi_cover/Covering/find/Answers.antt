use Rattle.bbm_replay.proofs.Common.{node_in, Heading, core_at, IsSettled, MetFromAll, NamesOne}
use Rattle.bbm_rules.proofs.Common.{◌≤◌, sym, subst, page_count, Patterns}
use Rattle.bbm_replay.specs.OnePage.{FitsSearch}
use Rattle.bbm_replay.specs.declared.tlbi_cover.Search.{Search}
use Rattle.bbm_replay.specs.declared.tlbi_cover.TheConstants.{ONE_BY_ONE}
use Rattle.bbm_replay.proofs.Unmet.{uncovered}
use Rattle.bbm_replay.proofs.tlbi_cover.Covering.find.Goals as goal

pub add_each-requires : goal.add_each-requires
add_each-requires c =
    let few : c.restless.result ≤ ONE_BY_ONE
    = subst (λ (x : Search). FitsSearch c.args.self.now.named.now.scope c.restless.result x) c.in-Each.is
    c.search.ensures in
    record { fits = c.requires.fits; count = subst (λ n. n ≤ ONE_BY_ONE) c.restless.ensures.count few }

pub returns-in_ok-descend_all-in-WayTo-clause-settled : goal.returns-in_ok-descend_all-in-WayTo-clause-settled
returns-in_ok-descend_all-in-WayTo-clause-settled c =
    let by = c.args.self.now in
    let map = c.args.map.now in
    let index = by.index.now in
    let items = c.descend_all.new.found.items in
    let met = c.in_ok-descend_all-in-WayTo.ensures.met in
    let one : NamesOne by.named.now.scope c.in-WayTo.page
    = subst (λ (x : Search). FitsSearch by.named.now.scope c.restless.result x) c.in-WayTo.is c.search.ensures in
    λ yes a broken missed heading h pe op xt issued.
    let m = issued.1 in
    sym (uncovered (c.laws.ensures heading) (c.law_starts.ensures heading)
    (c.law_notes_keep_the_events.ensures heading Patterns h) m c.restless.ensures.aligned c.in-WayTo.page one (IsSettled map by items)
    (λ r at covers. subst (λ (x : Heading). MetFromAll (node_in index) (core_at map) c.in-WayTo.page r.page
    (page_count x.world r.kind) (IsSettled map by items)) issued.0 (met heading h r m.stands at covers))
    a broken (λ has. sym (has broken missed heading h pe op xt issued)))
