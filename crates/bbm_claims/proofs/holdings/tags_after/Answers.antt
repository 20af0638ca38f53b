use Rattle.bbm_claims.proofs.Common.{Tag, notes_of, ends_some, has, is_lost, next_lasts}
use Rattle.bbm_rules.proofs.Common.{◌≡◌, ◌∷◌, ℕ, List, reverse, ◌∙◌, ap, IfOk, IfOk-weaker, Result, Ok, Err, events_of, Event}
use Rattle.bbm_claims.proofs.HeldTags.{held_then, left_then}
use Rattle.bbm_claims.proofs.Lasting.{spans_next}
use Rattle.bbm_claims.proofs.holdings.tags_after.Goals as goal

-- what two clauses say of a result
both : {A E : Type 0} (r : Result A E) (P Q : A → Type 0) → IfOk r P → IfOk r Q → IfOk r (λ x. P x × Q x)
both (Ok x) P Q p q = (p, q)
both (Err e) P Q p q = p

pub returns-clause-kept : goal.returns-clause-kept
returns-clause-kept c = λ keep.
    let e : Event = c.args.newest.now in
    let h : List Event = events_of (notes_of (reverse c.args.log.now)) in
    let before : reverse c.deref.result.now ≡ h
    = ap (λ (xs : List Event). reverse xs) c.deref.ensures.value ∙ c.in_ok-events.ensures in
    let now : reverse c.deref-3.result.now ≡ e ∷ h
    = ap (λ (xs : List Event). reverse xs) c.deref-3.ensures.value ∙ c.in_ok-add_event.ensures
    ∙ ap (λ (xs : List Event). e ∷ xs) c.in_ok-events.ensures in
    let lost : (p : ℕ) (tag : Tag) → is_lost c.in_ok-losses.losses.items p tag
    ≡ ends_some c.args.header.now c.args.claims.now p tag e h
    = λ p tag. c.in_ok-losses.ensures p tag
    ∙ ap (λ (xs : List Event). ends_some c.args.header.now c.args.claims.now p tag e xs) before in
    IfOk-weaker c.next.result _ _
    (λ next k. record {
      held_is = λ p root tag below.
          held_then c.args.header.now (c.known.ensures c.args.header.now) c.args.claims.now p root tag e h
          (reverse c.deref-3.result.now) c.in_ok-losses.losses.items c.deref-4.result.now c.args.tags.now.held.items
          (has next.held.items p root tag) now c.deref-4.ensures.value (keep.held_is p root tag below) (lost p tag)
          (k.0 p root tag below);
      left_is = λ p page tag below.
          left_then c.args.header.now (c.known.ensures c.args.header.now) c.args.claims.now p page tag e h
          (reverse c.deref-3.result.now) c.in_ok-losses.losses.items c.deref-4.result.now c.args.tags.now.held.items
          c.args.tags.now.left.items (has next.left.items p page tag) now c.deref-4.ensures.value
          (keep.held_is p page tag below) (keep.left_is p page tag below) (lost p tag) (k.1 p page tag);
    })
    (both c.next.result _ _ c.next.ensures.held c.next.ensures.left)

pub returns-clause-spans : goal.returns-clause-spans
returns-clause-spans c =
    let e : Event = c.args.newest.now in
    let h : List Event = events_of (notes_of (reverse c.args.log.now)) in
    let now : reverse c.deref-3.result.now ≡ e ∷ h
    = ap (λ (xs : List Event). reverse xs) c.deref-3.ensures.value ∙ c.in_ok-add_event.ensures
    ∙ ap (λ (xs : List Event). e ∷ xs) c.in_ok-events.ensures in
    IfOk-weaker c.next.result _ _
    (λ next k p n tag below.
    k p n tag below
    ∙ ap (λ (xs : List Event). next_lasts c.args.header.now e xs c.args.tags.now.spans.items p tag n) now
    ∙ spans_next c.args.header.now p tag e h c.args.tags.now.spans.items n (c.requires p n tag below))
    c.next.ensures.spans
