use Rattle.bbm_rules.proofs.Common.{◌≡◌, ℕ, suc, ◌+◌, List, any, arith, ap, sym, ◌∙◌, not, rules, events_of, places_in}
use Rattle.bbm_events.specs.declared.event.Event.{Event}
use Rattle.bbm_oracle_trees.specs.Emptied.{holds_by}
use Rattle.bbm_oracle_trees.specs.Past.{notes}
use Rattle.bbm_oracle_trees.proofs.Emptying.{empty_next}
use Rattle.bbm_oracle_trees.proofs.emptied.is_empty_above.Goals as goal

pub returns-in_ok-places-in-Some-next_page : goal.returns-in_ok-places-in-Some-next_page
returns-in_ok-places-in-Some-next_page g c =
    let past = c.args.taken.now in
    let seat = c.args.seat.now in
    let one_more : c.unwrap-deeper.result ≡ seat.level + 1 = search rules in
    let deeper : c.unwrap-deeper.result ≡ suc seat.level = omega (arith, one_more) in
    empty_next past.heading past.trust (holds_by past.heading past.trust c.args.emptied.now seat.kind (suc seat.level))
    seat.kind seat.level seat.place (notes past) c.in-Some.value c.in-Some-next_page.next _
    (sym c.in-Some.ensures) (sym c.in-Some-next_page.ensures.value)
    (ap not (c.holds_some.ensures
    ∙ ap (λ (ps : List ℕ). any (λ (below : ℕ). holds_by past.heading past.trust c.args.emptied.now seat.kind
    c.unwrap-deeper.result below (notes past)) ps)
    (c.deref.ensures.value ∙ c.in_ok-places-in-Some-next_page.ensures
    ∙ ap (λ (es : List Event). places_in es c.in-Some-next_page.next) c.events.ensures)
    ∙ ap (λ (level : ℕ). any (λ (below : ℕ). holds_by past.heading past.trust c.args.emptied.now seat.kind level below
    (notes past)) (places_in (events_of (notes past)) c.in-Some-next_page.next)) deeper))
