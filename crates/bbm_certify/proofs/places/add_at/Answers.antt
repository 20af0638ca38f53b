use Rattle.bbm_certify.proofs.Common.{notes_of, notes, IsDueIn, Adds}
use Rattle.bbm_rules.proofs.Common.{◌≡◌, Some, None, reverse, subst, sym, on_ok_weaker, page_of, Heading, node_of}
use Rattle.bbm_certify.proofs.DueAdds.{at_found, at_none}
use Rattle.bbm_certify.proofs.places.add_at.Goals as goal

pub returns-in-Some : goal.returns-in-Some
returns-in-Some c =
    let past = c.args.history.now in
    let found : node_of past.heading past.trust (notes past) (page_of c.args.place) ≡ Some c.in-Some.node.now =
    sym (rw c.page.ensures at c.in-Some.ensures) in
    on_ok_weaker c.add_in.result (λ adds newest k.
    at_found past.heading past.trust (notes past) newest (notes_of (reverse c.args.log.now)) c.args.place c.in-Some.node.now
    c.args.due.now.items c.add_in.new.due.items found
    (subst (λ (g : Heading). Adds (IsDueIn g c.in-Some.node.now c.args.place newest (notes_of (reverse c.args.log.now)))
    c.args.due.now.items c.add_in.new.due.items) c.header.ensures (adds newest k))) c.add_in.ensures

pub returns-in-None : goal.returns-in-None
returns-in-None c = λ newest k.
    let past = c.args.history.now in
    let nowhere : node_of past.heading past.trust (notes past) (page_of c.args.place) ≡ None =
    sym (rw c.page.ensures at c.in-None.ensures) in
    at_none past.heading past.trust (notes past) newest (notes_of (reverse c.args.log.now)) c.args.place c.args.due.now.items nowhere
