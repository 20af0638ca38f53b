-- While the last valid write of a place stays and a PE has seen the place, its node stays and what it holds does, and its
-- table stays childless.
use Rattle.bbm_histories.proofs.Common.{append_assoc, Heading, Event, Write, Below, Attaches, InTree}
use Rattle.bbm_rules.proofs.Common.{◌≡◌, ℕ, suc, ◌&&◌, ◌⊎◌, Bool, true, false, List, [], ◌∷◌, ◌++◌, Option, Some, None}
use Rattle.bbm_rules.proofs.Common.{option_and_then, refl, sym, ◌∙◌, ap, subst, inl, inr, true≢false, and_from, Kind}
use Rattle.bbm_rules.proofs.Common.{is_valid, keeps, Trust, seen, note, noted, ValidWrite, held, last_valid, if_so}
use Rattle.bbm_rules.proofs.Common.{Noted, events_of, is_fresh, IsLastValid, page_of, Node, held_at, in_limbo}
use Rattle.bbm_rules.proofs.Common.{is_childless, node_below, node_of, Childless, value_of, contains_head}
use Rattle.bbm_rules.specs.declared.rule.Rule.TheVariants.{LimboMake}
use Rattle.bbm_histories.specs.TreeChanges.{HeldBy, View}
use Rattle.bbm_histories.proofs.FreshLemmas.{content, holds_last}
use Rattle.bbm_histories.proofs.HeldSteps.{held_back, held_valid}
use Rattle.bbm_histories.proofs.Induction.{Unbroken, last_kept}
use Rattle.bbm_rules.proofs.RuleLemmas.{if_none}
use Rattle.bbm_histories.proofs.Invariants.{Invariants, invariants}
use Rattle.bbm_histories.proofs.PatternLemmas.{last_one_before, seen_stays, unseen}
use Rattle.bbm_histories.proofs.TreeSteps.{added, attached_fresh, node_is}

module _ (heading : Heading) (trust : Trust) (b : Below heading trust) where
  -- a place that is seen after its last valid write has an invalid value
  seen_is_invalid : (kind : Kind) (level place p : ℕ) (h : List Noted) (w : ValidWrite) → last_valid kind level place h ≡ Some w
      → seen heading place p w.since ≡ true → is_valid kind level (value_of (events_of h) place) ≡ false
  seen_is_invalid kind level place p h w last s = by (is_valid kind level (value_of (events_of h) place)) refl
    where
      by : (v : Bool) → is_valid kind level (value_of (events_of h) place) ≡ v → v ≡ false
      by false e = refl
      by true e =
          let live = b.last_valid.live kind level place h e in
          let both : Some live.0 ≡ Some w = sym live.1 ∙ last in
          let same : live.0 ≡ w = cc in
          absurd (true≢false (sym s ∙ subst (λ (x : ValidWrite). seen heading place p x.since ≡ false) same
          (unseen heading trust b place p live.0.since live.3)))

  module _ (n : Node) (place value p : ℕ) (inside : page_of place ≡ n.page) where
    -- the place of the node holds the value, and after its last valid write of another value came these events
    pub record Held (h since : List Noted) (last : ℕ) : Type 0 where
      pub in_tree : InTree heading trust h n
      pub holds : held_at heading trust h n place ≡ Some value
      pub is_last : last_valid n.kind n.level place h ≡ Some (record { value = last; since = since })

    -- ---- one event back

    back : (h : List Noted) (e : Event) (since : List Noted) (last : ℕ) → Unbroken heading trust h e → Invariants heading trust h
        → seen heading place p since ≡ true
        → Held (note heading trust h e ∷ h) (note heading trust h e ∷ since) last → Held h since last
    back h e since last kept i s k = record {
      in_tree = by_tree (added heading trust b h i.odd i.one e n kept k.in_tree);
      holds = by_held (held_back heading trust b n.kind n.level place (note heading trust h e) h value k.holds);
      is_last = was;
    }
      where
        was : last_valid n.kind n.level place h ≡ Some (record { value = last; since = since })
        was = last_one_before heading trust b n.kind n.level place (note heading trust h e) h since last k.is_last

        by_tree : InTree heading trust h n ⊎ Attaches heading trust h e n → InTree heading trust h n
        by_tree (inl t) = t
        by_tree (inr a) =
            let fresh : is_fresh heading trust h (page_of place) ≡ true
            = subst (λ (x : ℕ). is_fresh heading trust h x ≡ true) (sym inside)
            (attached_fresh heading trust b h i.odd i.one e n a) in
            absurd (true≢false (sym s
            ∙ (content heading trust b h i.odd n.kind n.level place (record { value = last; since = since }) fresh was).1 p))

        by_held : (held_at heading trust h n place ≡ Some value) ⊎ ((q : ℕ) × (e ≡ Write q place value))
            → held_at heading trust h n place ≡ Some value
        by_held (inl old) = old
        by_held (inr w) =
            let l : IsLastValid n.kind n.level place (note heading trust h e ∷ h) (record { value = last; since = note heading trust h e ∷ since })
            = b.last_valid.sound n.kind n.level place (note heading trust h e ∷ h)
            (record { value = last; since = note heading trust h e ∷ since }) k.is_last in
            absurd (true≢false (sym (held_valid heading trust b n.kind n.level place (note heading trust h e ∷ h) value k.holds)
            ∙ l.last w.0 value (note heading trust h e) [] since refl w.1))

    -- ---- back to an event

    view : (newer : List Noted) (h : List Event) (t : Noted) (older before : List Noted) (last : ℕ) → keeps heading trust h ≡ true
        → noted heading trust h ≡ newer ++ t ∷ older → seen heading place p before ≡ true
        → Held (noted heading trust h) (newer ++ t ∷ before) last → Held older before last
    view [] [] t older before last kept split s k = cc
    view (y ∷ newer) [] t older before last kept split s k = cc
    view [] (e ∷ h) t older before last kept split s k =
        let parts = last_kept heading trust b h e kept in
        let first : note heading trust (noted heading trust h) e ≡ t = cc in
        let rest : noted heading trust h ≡ older = cc in
        subst (λ (xs : List Noted). Held xs before last) rest
        (back (noted heading trust h) e before last parts.1 (invariants heading trust b h parts.0) s
        (subst (λ (x : Noted). Held (note heading trust (noted heading trust h) e ∷ noted heading trust h) (x ∷ before) last) (sym first) k))
    view (y ∷ newer) (e ∷ h) t older before last kept split s k =
        let parts = last_kept heading trust b h e kept in
        let first : note heading trust (noted heading trust h) e ≡ y = cc in
        let rest : noted heading trust h ≡ newer ++ t ∷ older = cc in
        view newer h t older before last parts.0 rest s
        (back (noted heading trust h) e (newer ++ t ∷ before) last parts.1 (invariants heading trust b h parts.0)
        (seen_stays heading trust b place p newer (t ∷ before) (seen_stays heading trust b place p (t ∷ []) before s))
        (subst (λ (x : Noted). Held (note heading trust (noted heading trust h) e ∷ noted heading trust h) (x ∷ (newer ++ t ∷ before)) last) (sym first) k))

    -- ---- childless

    -- no place below a broken table comes to hold anything
    still_childless : (h : List Noted) (e : Event) (since : List Noted) (last : ℕ) → Unbroken heading trust h e → Invariants heading trust h
        → seen heading place p since ≡ true → Held h since last → is_childless heading trust h n value ≡ true
        → is_childless heading trust (note heading trust h e ∷ h) n value ≡ true
    still_childless h e since last kept i s k none =
        let c : Childless heading trust h n value = b.childless.sound h n value none in
        b.childless.complete (note heading trust h e ∷ h) n value (record {
          next = c.next;
          table = c.table;
          holds_none = λ x below. by c x below (held heading trust n.kind (suc n.level) x (note heading trust h e ∷ h)) refl;
        })
      where
        by : (c : Childless heading trust h n value) (x : ℕ) → page_of x ≡ c.next → (o : Option ℕ)
            → held heading trust n.kind (suc n.level) x (note heading trust h e ∷ h) ≡ o
            → held heading trust n.kind (suc n.level) x (note heading trust h e ∷ h) ≡ None
        by c x below None a = a
        by c x below (Some v) a =
            elim (held_back heading trust b n.kind (suc n.level) x (note heading trust h e) h v a) [
              | inl old ↦ let apart : None ≡ Some v = sym (c.holds_none x below) ∙ old in cc
              | inr w ↦ absurd (true≢false (sym (valid_in_limbo c x below v a)
                  ∙ limbo_rule c x below w.0 v (subst (λ (y : Event). Unbroken heading trust h y) w.1 kept)))
            ]
          where
            child_in_tree : (c : Childless heading trust h n value) → InTree heading trust h (node_below n place c.next)
            child_in_tree c = b.tree.below h n place value c.next k.in_tree inside k.holds c.table

            node : (c : Childless heading trust h n value) (x : ℕ) → page_of x ≡ c.next
                → node_of heading trust h (page_of x) ≡ Some (node_below n place c.next)
            node c x below = node_is heading trust b h i.one (node_below n place c.next) (page_of x) (child_in_tree c) (sym below)

            limbo : (c : Childless heading trust h n value) → in_limbo h (node_below n place c.next) ≡ true
            limbo c = b.limbo.complete h (node_below n place c.next) (record {
              above = record { place = place; level = n.level };
              is_above = contains_head n.above (record { place = place; level = n.level });
              invalid = seen_is_invalid n.kind n.level place p h (record { value = last; since = since }) k.is_last s;
            })

            valid_in_limbo : (c : Childless heading trust h n value) (x : ℕ) → page_of x ≡ c.next → (v : ℕ)
                → held heading trust n.kind (suc n.level) x (note heading trust h e ∷ h) ≡ Some v
                → (is_valid n.kind (suc n.level) v && in_limbo h (node_below n place c.next)) ≡ true
            valid_in_limbo c x below v a =
                and_from (is_valid n.kind (suc n.level) v) (in_limbo h (node_below n place c.next))
                (held_valid heading trust b n.kind (suc n.level) x (note heading trust h e ∷ h) v a) (limbo c)

            limbo_rule : (c : Childless heading trust h n value) (x : ℕ) → page_of x ≡ c.next → (q v : ℕ)
                → Unbroken heading trust h (Write q x v)
                → (is_valid n.kind (suc n.level) v && in_limbo h (node_below n place c.next)) ≡ false
            limbo_rule c x below q v rule =
                if_none (is_valid n.kind (suc n.level) v && in_limbo h (node_below n place c.next)) x
                (subst (λ (o : Option Node). option_and_then (λ m. if_so (is_valid m.kind m.level v && in_limbo h m) x) o ≡ None)
                (node c x below) (rule LimboMake refl))

    childless_on : (newer : List Noted) (h : List Event) (t : Noted) (older before : List Noted) (last : ℕ) → keeps heading trust h ≡ true
        → noted heading trust h ≡ newer ++ t ∷ older → seen heading place p before ≡ true
        → Held (noted heading trust h) (newer ++ t ∷ before) last → is_childless heading trust older n value ≡ true
        → is_childless heading trust (noted heading trust h) n value ≡ true
    childless_on [] [] t older before last kept split s k none = cc
    childless_on (y ∷ newer) [] t older before last kept split s k none = cc
    childless_on [] (e ∷ h) t older before last kept split s k none =
        let parts = last_kept heading trust b h e kept in
        let rest : noted heading trust h ≡ older = cc in
        let was : Held older before last = view [] (e ∷ h) t older before last kept split s k in
        still_childless (noted heading trust h) e before last parts.1 (invariants heading trust b h parts.0) s
        (subst (λ (xs : List Noted). Held xs before last) (sym rest) was)
        (subst (λ (xs : List Noted). is_childless heading trust xs n value ≡ true) (sym rest) none)
    childless_on (y ∷ newer) (e ∷ h) t older before last kept split s k none =
        let parts = last_kept heading trust b h e kept in
        let i : Invariants heading trust (noted heading trust h) = invariants heading trust b h parts.0 in
        let first : note heading trust (noted heading trust h) e ≡ y = cc in
        let rest : noted heading trust h ≡ newer ++ t ∷ older = cc in
        let later : seen heading place p (newer ++ t ∷ before) ≡ true
        = seen_stays heading trust b place p newer (t ∷ before) (seen_stays heading trust b place p (t ∷ []) before s) in
        let was : Held (noted heading trust h) (newer ++ t ∷ before) last
        = back (noted heading trust h) e (newer ++ t ∷ before) last parts.1 i later
        (subst (λ (x : Noted). Held (note heading trust (noted heading trust h) e ∷ noted heading trust h) (x ∷ (newer ++ t ∷ before)) last) (sym first) k) in
        still_childless (noted heading trust h) e (newer ++ t ∷ before) last parts.1 i later was
        (childless_on newer h t older before last parts.0 rest s was none)

  -- ---- the laws

  held_with : (h : List Noted) (n : Node) (place value p : ℕ) (w : ValidWrite) (newer before : List Noted) (t : Noted)
      → (k : HeldBy heading trust h n place value w) → w.since ≡ newer ++ t ∷ before
      → Held n place value p k.inside h (newer ++ t ∷ before) w.value
  held_with h n place value p w newer before t k longer = record {
    in_tree = k.in_tree;
    holds = k.holds;
    is_last = k.is_last ∙ ap (λ (xs : List Noted). Some (record { value = w.value; since = xs })) longer;
  }

  -- the history before an event after the last valid write
  pub record Before (h : List Noted) (newer before : List Noted) (t : Noted) : Type 0 where
    pub older : List Noted
    pub split : h ≡ newer ++ t ∷ older

  history_before : (kind : Kind) (level place : ℕ) (h : List Noted) (w : ValidWrite) (newer before : List Noted) (t : Noted)
      → last_valid kind level place h ≡ Some w → w.since ≡ newer ++ t ∷ before → Before h newer before t
  history_before kind level place h w newer before t last longer =
      let l : IsLastValid kind level place h w = b.last_valid.sound kind level place h w last in
      record {
        older = before ++ l.write ∷ l.older;
        split = l.split ∙ (ap (λ (xs : List Noted). xs ++ l.write ∷ l.older) longer
            ∙ append_assoc newer (t ∷ before) (l.write ∷ l.older));
      }

  pub frozen_view : (h : List Event) → keeps heading trust h ≡ true → (n : Node) (place value p : ℕ) (w : ValidWrite)
      (newer before : List Noted) (t : Noted) → HeldBy heading trust (noted heading trust h) n place value w
      → w.since ≡ newer ++ t ∷ before → seen heading place p before ≡ true
      → View heading trust (noted heading trust h) n place value newer before t
  frozen_view h kept n place value p w newer before t k longer s =
      let o : Before (noted heading trust h) newer before t
      = history_before n.kind n.level place (noted heading trust h) w newer before t k.is_last longer in
      let was : Held n place value p k.inside o.older before w.value
      = view n place value p k.inside newer h t o.older before w.value kept o.split s
      (held_with (noted heading trust h) n place value p w newer before t k longer) in
      let last = holds_last heading trust b n.kind n.level place (noted heading trust h) value k.holds in
      let both : Some last.0 ≡ Some w = sym last.1 ∙ k.is_last in
      let one : last.0 ≡ w = cc in
      let same : w.value ≡ value = ap (λ (x : ValidWrite). x.value) (sym one) ∙ last.2 in
      record {
        older = o.older;
        split = o.split;
        was = record {
          in_tree = was.in_tree;
          inside = k.inside;
          holds = was.holds;
          is_last = was.is_last ∙ ap (λ (x : ℕ). Some (record { value = x; since = before })) same;
        };
      }

  pub limbo_is_empty : (h : List Event) → keeps heading trust h ≡ true → (n : Node) (place value p : ℕ) (w : ValidWrite)
      (newer before older : List Noted) (t : Noted) → HeldBy heading trust (noted heading trust h) n place value w
      → w.since ≡ newer ++ t ∷ before → noted heading trust h ≡ newer ++ t ∷ older → seen heading place p before ≡ true
      → is_childless heading trust older n value ≡ true → is_childless heading trust (noted heading trust h) n value ≡ true
  limbo_is_empty h kept n place value p w newer before older t k longer split s none =
      childless_on n place value p k.inside newer h t older before w.value kept split s
      (held_with (noted heading trust h) n place value p w newer before t k longer) none
