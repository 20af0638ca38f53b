use Rattle.bbm_rules.proofs.Common.{Bool, false, true, not, ◌&&◌, ◌||◌, reverse, ap, ◌∙◌, PeMask}
use Rattle.bbm_regimes.specs.PeMask.{pe_in}
use Rattle.bbm_oracle_tags.specs.Watches.{awaits_after}
use Rattle.bbm_oracle_tags.proofs.WatchLemmas.{watch-next}
use Rattle.bbm_oracle_tags.proofs.watch.Watch.take.Goals as goal

pub returns : goal.returns
returns c = λ k.
    let h = reverse c.args.before.now in
    let looks = c.in_ok-look.ensures.looks h k.looks in
    watch-next c.args.header.now c.args.asked.now.pe c.args.asked.now.tag c.args.asked.now.root c.args.event.now h
    c.args.self.now _ c.in_ok-whole.whole c.loses-lost.result c.gives_up-up.result
    k (record { moment = looks.moment; reads = looks.reads; reads_some = looks.reads_some })
    c.in_ok-whole.ensures c.loses-lost.ensures c.gives_up-up.ensures
    (c.holds_after-self.ensures
    ∙ ap (λ (b : Bool). c.look.new.self.reads || (b && not (c.gives_up-up.result || c.loses-lost.result)))
    c.in_ok-look.ensures.holds)
    (c.left_after-self.ensures
    ∙ ap (λ (b : Bool). (b || (c.gives_up-up.result && c.look.new.self.holds)) && not c.loses-lost.result)
    c.in_ok-look.ensures.left
    ∙ ap (λ (b : Bool). (c.args.self.now.left || (c.gives_up-up.result && b)) && not c.loses-lost.result)
    c.in_ok-look.ensures.holds)
    (λ q. c.awaiting_after-self.ensures q
    ∙ ap (λ (m : PeMask). awaits_after false c.in_ok-whole.whole c.look.new.self.reads_some c.args.event.now q
    (pe_in m q)) c.in_ok-look.ensures.local)
    (λ q. c.awaiting_after-self-2.ensures q
    ∙ ap (λ (m : PeMask). awaits_after true c.in_ok-whole.whole c.look.new.self.reads_some c.args.event.now q
    (pe_in m q)) c.in_ok-look.ensures.broadcast)
