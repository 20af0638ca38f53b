-- In a history that keeps the rules a place of a tree that holds something is never empty and above. So a place comes to
-- be emptied by the DSB after which it first is so, and it says the same to ask that at DSBs or at every event.
use Rattle.bbm_histories.proofs.Common.{Heading, Event, Dsb, Below, Attaches, InTree}
use Rattle.bbm_rules.proofs.Common.{◌≡◌, ℕ, suc, ◌<◌, true, false, List, [], ◌∷◌, ◌++◌, map, Option, Some, None}
use Rattle.bbm_rules.proofs.Common.{refl, sym, ◌∙◌, ap, subst, inl, inr, true≢false, keeps, Trust, seen, note}
use Rattle.bbm_rules.proofs.Common.{noted, ValidWrite, held, last_valid, Noted, IsLastValid, page_of, Node, held_at}
use Rattle.bbm_rules.proofs.Common.{next_of, node_below}
use Rattle.bbm_rules.proofs.Emptied.{seen_topped}
use Rattle.bbm_rules.specs.Held.{emptied, empties_tables}
use Rattle.bbm_rules.specs.Notes.{topped}
use Rattle.bbm_rules.specs.PatternSentences.{EmptyAbove, IsAbove}
use Rattle.bbm_barriers.specs.declared.Dsb.{Dsb as Barrier}
use Rattle.bbm_histories.proofs.AttachedLemmas.{holds_present}
use Rattle.bbm_histories.proofs.FreshLemmas.{holds_last}
use Rattle.bbm_histories.proofs.HeldSteps.{IsDsb, cleansed_before, held_back, held_change, held_valid}
use Rattle.bbm_histories.proofs.Induction.{Unbroken, none_split, throughout}
use Rattle.bbm_histories.proofs.Invariants.{Invariants, invariants, none_at_start}
use Rattle.bbm_histories.proofs.PatternLemmas.{cleansed_is_seen, last_one_before}
use Rattle.bbm_histories.proofs.TreeSteps.{added, is_tracked, node_is}

module _ (heading : Heading) (trust : Trust) (b : Below heading trust) (late : empties_tables heading.version ≡ true)
    (pes : 0 < heading.pes) where
  abbrev NeverEmpty : List Noted → Type 0
  NeverEmpty h = (n : Node) (place value : ℕ) → InTree heading trust h n → page_of place ≡ n.page
      → held_at heading trust h n place ≡ Some value → EmptyAbove heading trust n.kind n.level place h → ⊥

  -- what is above was seen
  above_seen : (place p : ℕ) (since : List Noted) → IsAbove heading trust place p since → seen heading place p since ≡ true
  above_seen place p since k =
      sym (seen_topped heading place p since)
      ∙ b.seen.complete place p (map topped since) (cleansed_is_seen heading trust place p (map topped since) k)

  module _ (h : List Noted) (e : Event) (kept : Unbroken heading trust h e) (i : Invariants heading trust h)
      (before : NeverEmpty h) (n : Node) (place value : ℕ) (inside : page_of place ≡ n.page) where
    abbrev x : Noted
    x = note heading trust h e

    module _ (holds : held_at heading trust (x ∷ h) n place ≡ Some value)
        (empty : EmptyAbove heading trust n.kind n.level place (x ∷ h)) where
      was_seen : seen heading place 0 empty.w.since ≡ true
      was_seen = above_seen place 0 empty.w.since (empty.above 0 pes)

      -- a DSB that makes it so empties it
      at_dsb : (q : ℕ) (dsb : Barrier) → e ≡ Dsb q dsb → ⊥
      at_dsb q dsb is =
          let gone : emptied heading trust n.kind n.level place (x ∷ h) ≡ true
          = b.held.emptied_complete n.kind n.level place (x ∷ h) (record {
            version = late;
            q = q;
            dsb = dsb;
            newer = [];
            barrier = x;
            older = h;
            split = refl;
            is_barrier = is;
            empty = empty;
            last = λ r v m after rest s. absurd (none_split after rest m s);
            no_init = λ r m after rest s is. none_split after rest m s;
          }) in
          true≢false (sym gone ∙ (b.held.sound n.kind n.level place (x ∷ h) value holds).unemptied)

      -- in a page that the event attaches nothing is seen
      at_attached : Attaches heading trust h e n → ⊥
      at_attached a =
          true≢false (sym was_seen ∙ (holds_present heading trust b h i e n place a inside pes).unseen empty.w 0 empty.is_last)

      -- by another event it was so before
      module _ (t : InTree heading trust h n) (other : IsDsb e → ⊥) where
        last : IsLastValid n.kind n.level place (x ∷ h) empty.w
        last = b.last_valid.sound n.kind n.level place (x ∷ h) empty.w empty.is_last

        same_value : empty.w.value ≡ value
        same_value =
            let l = holds_last heading trust b n.kind n.level place (x ∷ h) value holds in
            let both : Some l.0 ≡ Some empty.w = sym l.1 ∙ empty.is_last in
            let one : l.0 ≡ empty.w = cc in
            ap (λ (w : ValidWrite). w.value) (sym one) ∙ l.2

        module _ (since : List Noted) (longer : empty.w.since ≡ x ∷ since) where
          was_last : last_valid n.kind n.level place h ≡ Some (record { value = empty.w.value; since = since })
          was_last =
              last_one_before heading trust b n.kind n.level place x h since empty.w.value
              (empty.is_last ∙ ap (λ (xs : List Noted). Some (record { value = empty.w.value; since = xs })) longer)

          was_held : held_at heading trust h n place ≡ Some value
          was_held =
              elim (held_back heading trust b n.kind n.level place x h value holds) [
                | inl old ↦ old
                | inr w ↦ absurd (true≢false (sym (held_valid heading trust b n.kind n.level place (x ∷ h) value holds)
                    ∙ last.last w.0 value x [] since longer w.1))
              ]

          table : next_of n.kind n.level value ≡ Some empty.next
          table = ap (next_of n.kind n.level) (sym same_value) ∙ empty.table

          child : InTree heading trust h (node_below n place empty.next)
          child = b.tree.below h n place value empty.next t inside was_held table

          none_before : (below : ℕ) → page_of below ≡ empty.next → held heading trust n.kind (suc n.level) below h ≡ None
          none_before below under = by (held heading trust n.kind (suc n.level) below h) refl
            where
              after : held heading trust n.kind (suc n.level) below (x ∷ h) ≡ None
              after = empty.holds_none below under

              by : (o : Option ℕ) → held heading trust n.kind (suc n.level) below h ≡ o → o ≡ None
              by None is = refl
              by (Some v) is =
                  elim (held_change heading trust b h (node_below n place empty.next) below e pes kept
                  (is_tracked heading trust b h (node_below n place empty.next) (page_of below) child (sym under))
                  (node_is heading trust b h i.one (node_below n place empty.next) (page_of below) child (sym under))) [
                    | inl same ↦ let apart : None ≡ Some v = sym after ∙ (same ∙ is) in cc
                    | inr change ↦ elim change [
                      | inl w ↦ let apart : None ≡ Some w.1 = sym after ∙ w.4 in cc
                      | inr d ↦ absurd (other (d.0, d.1, d.2))
                    ]
                  ]

          empty_before : EmptyAbove heading trust n.kind n.level place h
          empty_before = record {
            w = record { value = empty.w.value; since = since };
            is_last = was_last;
            next = empty.next;
            table = empty.table;
            above = λ p is_pe. cleansed_before heading trust place p (topped x) (map topped since) other
                (subst (λ (xs : List Noted). IsAbove heading trust place p xs) longer (empty.above p is_pe));
            holds_none = none_before;
          }

        at_old : ⊥
        at_old = by empty.w.since refl
          where
            by : (since : List Noted) → empty.w.since ≡ since → ⊥
            by [] is =
                let none : true ≡ false = sym was_seen ∙ ap (seen heading place 0) is in true≢false none
            by (m ∷ since) is =
                let split : x ∷ h ≡ (m ∷ since) ++ last.write ∷ last.older
                = last.split ∙ ap (λ (xs : List Noted). xs ++ last.write ∷ last.older) is in
                let first : x ≡ m = cc in
                let longer : empty.w.since ≡ x ∷ since = is ∙ ap (λ (y : Noted). y ∷ since) (sym first) in
                before n place value t inside (was_held since longer) (empty_before since longer)

      never : InTree heading trust (x ∷ h) n → ⊥
      never t =
          elim (added heading trust b h i.odd i.one e n kept t) [
            | inl old ↦ by e refl old
            | inr a ↦ at_attached a
          ]
        where
          by : (f : Event) → e ≡ f → InTree heading trust h n → ⊥
          by (Dsb q dsb) is old = at_dsb q dsb is
          by f is old = at_old old (λ d. let apart : f ≡ Dsb d.0 d.1 = sym is ∙ d.2 in cc)

  pub never_empty : (h : List Event) → keeps heading trust h ≡ true → NeverEmpty (noted heading trust h)
  never_empty h kept =
      throughout heading trust b NeverEmpty (λ n place value t inside holds empty. none_at_start heading trust b n t)
      (λ older e before_kept rule before n place value t inside holds empty.
      never (noted heading trust older) e rule (invariants heading trust b older before_kept) before n place value inside holds empty t) h kept
