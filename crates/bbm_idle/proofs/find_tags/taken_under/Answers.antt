use Rattle.bbm_idle.proofs.Common.{is_taken}
use Rattle.bbm_rules.proofs.Common.{any, rules}
use Rattle.bbm_idle.proofs.FindLists.{any_more}
use Rattle.bbm_idle.proofs.find_tags.taken_under.Goals as goal

pub loop-page-preserved : goal.loop-page-preserved
loop-page-preserved c = λ test.
    any_more (λ page. any (is_taken c.args.scope.now c.args.vmid page test) c.args.known.now) _ (any test c.loop-page.taken.items)
    (any test c.add_taken.new.taken.items) c.args.pages.now c.loop-page.page-index c.page-item.result (search rules)
    c.loop-page-test.true c.page-item.is (c.loop-page.invariant test) (c.in_ok-add_taken.ensures test)
