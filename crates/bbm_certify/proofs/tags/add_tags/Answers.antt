use Rattle.bbm_certify.proofs.Common.{IsTaken}
use Rattle.bbm_certify.proofs.DueAdds.{each_all, each_more, each_none}
use Rattle.bbm_certify.proofs.tags.add_tags.Goals as goal

pub loop-holding-init : goal.loop-holding-init
loop-holding-init c = λ e h is. each_none (λ x y. IsTaken c.args.header.now h e x y) c.args.due.now.items

pub loop-holding-preserved : goal.loop-holding-preserved
loop-holding-preserved c = λ e h is.
    each_more (λ x y. IsTaken c.args.header.now h e x y) c.args.known.now c.loop-holding.holding-index c.holding-item.result
    c.loop-holding-test.true c.holding-item.is c.args.due.now.items c.loop-holding.due.items c.add_lost.new.due.items
    (c.loop-holding.invariant e h is) (c.in_ok-add_lost.ensures e h is)

pub returns : goal.returns
returns c = λ e h is.
    each_all (λ x y. IsTaken c.args.header.now h e x y) c.args.known.now c.loop-holding.holding-index c.args.due.now.items
    c.loop-holding.due.items c.loop-holding-test.false (c.loop-holding.invariant e h is)
