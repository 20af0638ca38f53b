use Rattle.bbm_certify.proofs.Common.{notes_of}
use Rattle.bbm_rules.proofs.Common.{◌+◌, ◌-◌, length, take, drop, reverse, ap, sym, ◌∙◌, on_ok_weaker, last_valid, Node}
use Rattle.bbm_certify.proofs.DueAdds.{in_found, in_none, newest_part}
use Rattle.bbm_certify.proofs.Searches.{behind}
use Rattle.bbm_certify.proofs.places.add_in.Goals as goal

pub returns-in-Some : goal.returns-in-Some
returns-in-Some c =
    let log = c.args.log.now in
    let i = c.in-Some.write.index in
    let part = take (length log - (i + 1)) (drop (i + 1) log) in
    on_ok_weaker c.add_since.result (λ adds newest k.
    in_found c.args.header.now c.args.node.now c.args.place newest log c.in-Some.write part c.args.due.now.items
    c.add_since.new.due.items
    (ap (λ (m : Node). last_valid m.kind m.level c.args.place (notes_of (reverse log))) (sym c.node.view_is)
    ∙ c.in-Some.ensures.found) (behind log i)
    (adds newest (newest_part newest c.args.answer.now log part i c.in-Some.ensures.within (behind log i) k)))
    c.add_since.ensures

pub returns-in-None : goal.returns-in-None
returns-in-None c = λ newest k.
    in_none c.args.header.now c.args.node.now c.args.place newest c.args.log.now c.args.due.now.items
    (ap (λ (m : Node). last_valid m.kind m.level c.args.place (notes_of (reverse c.args.log.now))) (sym c.node.view_is)
    ∙ c.in-None.ensures.found)
