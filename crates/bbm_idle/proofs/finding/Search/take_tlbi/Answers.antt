use Rattle.bbm_idle.proofs.Common.{notes_of, notes, needed_by, place_adds, is_needed, TreePlace}
use Rattle.bbm_rules.proofs.Common.{◌≡◌, Bool, List, reverse, sym, ap, ◌∙◌, IfOk-weaker, note, any, Noted}
use Rattle.bbm_rules.proofs.Common.{some_pe, Heading}
use Rattle.bbm_regimes.specs.PeMask.{pe_in}
use Rattle.bbm_idle.proofs.FindPlaces.{adds_stand, needed_is}
use Rattle.bbm_idle.proofs.finding.Search.take_tlbi.Goals as goal

pub returns-clause-needed : goal.returns-clause-needed
returns-clause-needed c =
    let h = reverse c.args.before.now in
    let past = c.args.self.now.history in
    let tlbi : Noted = note past.heading past.trust (notes past) c.args.event.now in
    IfOk-weaker c.is_needed.result
    (λ (b : Bool). b ≡ some_pe c.args.header.now.pes
    (needed_by c.args.header.now h c.args.event.now (pe_in c.newest_adds-added.result)))
    (λ (b : Bool). b ≡ is_needed c.args.header.now h c.args.event.now)
    (λ b k. k ∙ needed_is c.args.header.now h c.args.event.now (pe_in c.newest_adds-added.result)
    (λ p. c.newest_adds-added.ensures tlbi (notes past)
    (ap notes_of c.log.ensures ∙ c.in_ok-take.ensures.taken) p
    ∙ ap (λ (g : Heading). any (place_adds g (notes past) tlbi p) c.deref-3.result.now)
    (sym c.requires.stands.history.kept.heading_is)
    ∙ ap (λ (ss : List TreePlace). any (place_adds past.heading (notes past) tlbi p) ss) c.deref-3.ensures.value
    ∙ c.in_ok-seats.ensures p tlbi
    ∙ adds_stand past c.args.header.now h c.args.event.now p c.deref.result.now c.requires.stands.history
    (c.deref.ensures.value ∙ c.requires.stands.written)))
    c.is_needed.ensures
