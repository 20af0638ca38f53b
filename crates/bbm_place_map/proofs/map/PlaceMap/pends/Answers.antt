use Rattle.bbm_place_map.proofs.Common.{ap, sym, ◌∙◌, waits, Entry, None, Option, at_index, entry_at, pends_of}
use Rattle.bbm_place_map.proofs.Idle.{nothing_waits}
use Rattle.bbm_place_map.specs.Map.{pends_at}
use Rattle.bbm_place_map.proofs.map.PlaceMap.pends.Goals as goal

pub returns-in-None-entry-clause-pends : goal.returns-in-None-entry-clause-pends
unfolding pends_at
returns-in-None-entry-clause-pends c = λ b cover p.
    c.none.ensures b cover p ∙ sym (nothing_waits b cover p)
    ∙ ap (λ (o : Option Entry). waits (pends_of c.args.issuer o) b cover p)
    (c.in-None-entry.ensures c.args.place (sym c.index.ensures.index ∙ c.in-Some.is))

pub returns-in-None-entry-clause-idle : goal.returns-in-None-entry-clause-idle
returns-in-None-entry-clause-idle c = c.law_idle.ensures c.args.issuer c.args.place

pub returns-in-None-clause-pends : goal.returns-in-None-clause-pends
unfolding pends_at
returns-in-None-clause-pends c = λ b cover p.
    c.none-in-None.ensures b cover p ∙ sym (nothing_waits b cover p)
    ∙ ap (λ (o : Option Entry). waits (pends_of c.args.issuer o) b cover p)
    (sym (ap (at_index None (entry_at c.args.self.now.broken)) (sym c.index.ensures.index ∙ c.in-None.is)))

pub returns-in-None-clause-idle : goal.returns-in-None-clause-idle
returns-in-None-clause-idle c = c.law_idle.ensures c.args.issuer c.args.place
