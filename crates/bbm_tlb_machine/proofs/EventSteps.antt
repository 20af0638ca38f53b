-- An entry that is fine stays so after an event that breaks no rule and leaves it.
use Rattle.bbm_rules.proofs.Common.{◌≡◌, ℕ, suc, ◌≤◌, true, false, List, [], ◌∷◌, length, Option, Some, None}
use Rattle.bbm_rules.proofs.Common.{Contains, refl, sym, ◌∙◌, ap, subst, inl, inr, arith, Kind, needs}
use Rattle.bbm_rules.proofs.Common.{tag_of, EntryHead, keeps, Trust, note, noted, ValidWrite, held}
use Rattle.bbm_rules.proofs.Common.{last_valid, last_valid_after, later, Heading, El2, S2, Ttbr0, Ttbr1}
use Rattle.bbm_rules.proofs.Common.{Event, Dsb, Barrier, Noted, desc_of, is_root, held_at, next_in, next_of, page_of}
use Rattle.bbm_rules.proofs.Common.{contains_head, false_from_ne_true}
use Rattle.bbm_histories.specs.TagSteps.{kind_of_tag}
use Rattle.bbm_histories.specs.TreeChanges.{HeldChange}
use Rattle.bbm_rules.proofs.Common.{Bool, ◌&&◌, ◌||◌, nat_le, true≢false, gives_up}
use Rattle.bbm_rules.specs.Roots.{given_up_since}
use Rattle.bbm_rules.specs.Held.{emptied}
use Rattle.bbm_rules.specs.PatternSentences.{EmptyAbove, Holds}
use Rattle.bbm_tlb_machine.specs.Entry.{Entry, Part, desc_in, head_of, is_given_up, parts_of, tag_of_entry}
use Rattle.bbm_tlb_machine.specs.FineSteps.{LeavesIt}
use Rattle.bbm_tlb_machine.specs.Invariant.{Fine, Holding, IsAt, IsBelow, Rooted}
use Rattle.bbm_tlb_machine.specs.KnownOfMachine.{Known}
use Rattle.bbm_tlb_machine.proofs.Descs.{no_need}
use Rattle.bbm_tlb_machine.proofs.Facts.{held_there, held_valid, means, tag_now}
use Rattle.bbm_tlb_machine.proofs.Grades.{above_as, at_any, cleansed_as}
use Rattle.bbm_tlb_machine.proofs.InTrees.{all_placed}
use Rattle.bbm_tlb_machine.proofs.Patterns.{joined_before_after, made_before_after, tagged_after}
use Rattle.bbm_tlb_machine.proofs.Patterns.{uncleansed_after}
use Rattle.bbm_tlb_machine.proofs.Regions.{all_chained}
use Rattle.bbm_histories.proofs.Induction.{kept_before}

pub tag_kind : (kind : Kind) (e : EntryHead) → kind_of_tag (tag_of kind e) ≡ kind
tag_kind El2 e = refl
tag_kind S2 e = refl
tag_kind Ttbr0 e = refl
tag_kind Ttbr1 e = refl

pub still_up : (u t s : Bool) → (u && (t || s)) ≡ false → (u && s) ≡ false
still_up true true s k = absurd (true≢false k)
still_up true false s k = k
still_up false t s k = refl

module _ (heading : Heading) (trust : Trust) (k : Known heading trust) (h : List Event) (e : Event)
    (kept : keeps heading trust (e ∷ h) ≡ true) (x : Entry) (f : Fine heading trust h x) (none : LeavesIt heading h e x) where
  open f.shape use {is_pe, fits, begins, chained, valid}

  kept_then : keeps heading trust h ≡ true
  kept_then = kept_before heading trust (e ∷ []) h kept

  module _ (up' : is_given_up heading (e ∷ h) x ≡ false) where
    abbrev up : is_given_up heading h x ≡ false
    up = still_up heading.words.unflushed (nat_le x.since (length h) && gives_up x.root e) (given_up_since x.since x.root h) up'

    abbrev g : Rooted heading trust h x
    g = f.rooted (still_up heading.words.unflushed (nat_le x.since (length h) && gives_up x.root e) (given_up_since x.since x.root h) up')

    -- the event, with its notes
    abbrev noted_now : Noted
    noted_now = note heading trust (noted heading trust h) e

    -- after the event the place of the part is emptied
    abbrev IsEmptied : Part → Type 0
    IsEmptied part = emptied heading trust part.kind part.level part.place (noted heading trust (e ∷ h)) ≡ true

    module _ (part : Part) (i : Contains (parts_of x) part) where
      -- what the place held before
      held_before : Holds heading trust part.kind part.level part.place (noted heading trust h) (g.holding part i).value
      held_before = k.held.sound part.kind part.level part.place (noted heading trust h) (g.holding part i).value (g.holding part i).holds

      -- its last valid write, with the event behind it
      abbrev last_now : ValidWrite
      last_now = record { value = (g.holding part i).value; since = noted_now ∷ held_before.since }

      -- after a DSB that is the last valid write still
      same_last : (q : ℕ) (dsb : Barrier) → e ≡ Dsb q dsb
          → last_valid part.kind part.level part.place (noted heading trust (e ∷ h)) ≡ Some last_now
      same_last q dsb is =
          ap (λ (y : Event). last_valid_after part.kind part.level part.place y noted_now
          (last_valid part.kind part.level part.place (noted heading trust h))) is
          ∙ ap (λ (o : Option ValidWrite). later noted_now o)
          (k.last_valid.complete part.kind part.level part.place (noted heading trust h)
          (record { value = (g.holding part i).value; since = held_before.since }) held_before.last_write)

      -- what is emptied now is empty, and the event is a DSB
      emptied_now : IsEmptied part → (q : ℕ) × (dsb : Barrier) × (e ≡ Dsb q dsb) × EmptyAbove heading trust part.kind part.level part.place (noted heading trust (e ∷ h))
      emptied_now gone =
          elim (k.held.emptied_step part.kind part.level part.place noted_now (noted heading trust h) gone) [
            | inl before ↦ absurd (true≢false (sym before ∙ held_before.unemptied))
            | inr now ↦ now
          ]

      -- after a DSB the place still holds something where it isn't emptied, since it isn't cleansed at the entry's PE
      still_held : (q : ℕ) (dsb : Barrier) → e ≡ Dsb q dsb → (IsEmptied part → ⊥)
          → held heading trust part.kind part.level part.place (noted heading trust (e ∷ h)) ≡ None → ⊥
      still_held q dsb is stays gone =
          let holds : held heading trust part.kind part.level part.place (noted heading trust (e ∷ h)) ≡ Some (g.holding part i).value
          = k.held.complete part.kind part.level part.place (noted heading trust (e ∷ h)) (g.holding part i).value (record {
            since = last_now.since;
            last_write = k.last_valid.sound part.kind part.level part.place (noted heading trust (e ∷ h)) last_now (same_last q dsb is);
            p = x.pe;
            is_pe = f.shape.is_pe;
            uncleansed = λ c. uncleansed_after heading trust k h e kept_then x f up g none false part i (at_any x part) last_now
                (same_last q dsb is) x.pe (inl refl) (cleansed_as heading trust part.place x.pe last_now.since c);
            unemptied = false_from_ne_true (emptied heading trust part.kind part.level part.place (noted heading trust (e ∷ h))) stays;
          }) in
          let apart : None ≡ Some (g.holding part i).value = sym gone ∙ holds in
          cc

      holding_after : (IsEmptied part → ⊥) → Holding heading trust (e ∷ h) part
      holding_after stays = by (k.held_changes.changes h e k.proper.some_pe kept (g.placed part i).node part.place
          (g.placed part i).in_tree (g.placed part i).is_at.inside)
        where
          at : IsAt (g.placed part i).node x.root part
          at = (g.placed part i).is_at

          was : held_at heading trust (noted heading trust h) (g.placed part i).node part.place ≡ Some (g.holding part i).value
          was = held_there heading trust k h kept_then x part (g.placed part i).node at (g.holding part i).value (g.holding part i).holds

          there : held heading trust part.kind part.level part.place (noted heading trust (e ∷ h))
              ≡ held_at heading trust (noted heading trust (e ∷ h)) (g.placed part i).node part.place
          there =
              ap (λ (c : Kind). held heading trust c part.level part.place (noted heading trust (e ∷ h))) (sym at.kind)
              ∙ ap (λ (l : ℕ). held heading trust (g.placed part i).node.kind l part.place (noted heading trust (e ∷ h))) (sym at.level)

          by : HeldChange (g.placed part i).node.kind (g.placed part i).node.level part.place e
              (held_at heading trust (noted heading trust h) (g.placed part i).node part.place)
              (held_at heading trust (noted heading trust (e ∷ h)) (g.placed part i).node part.place)
              → Holding heading trust (e ∷ h) part
          by (inl same) =
              record { value = (g.holding part i).value; holds = there ∙ (same ∙ was); same_core = (g.holding part i).same_core }
          by (inr (inl w)) =
              let no : needs (g.placed part i).node.kind (g.placed part i).node.level (g.holding part i).value w.1 ≡ false
              = w.5 (g.holding part i).value was in
              record {
                value = w.1;
                holds = there ∙ w.4;
                same_core = no_need heading trust k part.kind part.level (g.holding part i).value w.1 part.value
                    (held_valid heading trust k h kept_then x part (g.holding part i))
                    (rw (at.kind, at.level) at no) (g.holding part i).same_core;
              }
          by (inr (inr d)) = absurd (still_held d.0 d.1 d.2 stays (there ∙ d.3))

    -- the place of the last part isn't emptied: it isn't above
    last_stays : IsEmptied x.last → ⊥
    last_stays gone =
        let empty = (emptied_now x.last (contains_head x.above x.last) gone).3 in
        uncleansed_after heading trust k h e kept_then x f up g none true x.last (contains_head x.above x.last) (λ t. refl)
        empty.w empty.is_last x.pe (inl refl)
        (above_as heading trust x.last.place x.pe empty.w.since (empty.above x.pe f.shape.is_pe))

    -- nor is that of a part below which another was read, whose place still holds something
    upper_stays : (lower upper : Part) → Contains (parts_of x) upper → IsBelow lower upper → Holding heading trust (e ∷ h) lower
        → IsEmptied upper → ⊥
    upper_stays lower upper i below holds gone =
        let now = emptied_now upper i gone in
        let empty : EmptyAbove heading trust upper.kind upper.level upper.place (noted heading trust (e ∷ h)) = now.3 in
        let both : Some empty.w ≡ Some (last_now upper i) = sym empty.is_last ∙ same_last upper i now.0 now.1 now.2 in
        let same : empty.w ≡ last_now upper i = cc in
        let at : IsAt (g.placed upper i).node x.root upper = (g.placed upper i).is_at in
        let meaning : desc_of upper.kind upper.level (g.holding upper i).value ≡ desc_in upper
        = rw (at.kind, at.level) at (means heading trust k h kept_then x upper (g.placed upper i).node at (g.holding upper i) (f.shape.valid upper i)) in
        let nexts : Some empty.next ≡ Some (page_of lower.place)
        = sym empty.table ∙ (ap (λ (v : ValidWrite). next_of upper.kind upper.level v.value) same ∙ (ap next_in meaning ∙ below.inside)) in
        let page : empty.next ≡ page_of lower.place = cc in
        let there : held heading trust upper.kind (suc upper.level) lower.place (noted heading trust (e ∷ h)) ≡ Some holds.value
        = ap (λ (c : Kind). held heading trust c (suc upper.level) lower.place (noted heading trust (e ∷ h))) (sym below.kind)
        ∙ (ap (λ (l : ℕ). held heading trust lower.kind l lower.place (noted heading trust (e ∷ h))) (sym below.level) ∙ holds.holds) in
        let apart : None ≡ Some holds.value = sym (empty.holds_none lower.place (sym page)) ∙ there in
        cc

    -- from the last part up, each place still holds something
    all_held : (part : Part) → Contains (parts_of x) part → Holding heading trust (e ∷ h) part
    all_held part i =
        all_chained (λ (q : Part). Contains (parts_of x) q → Holding heading trust (e ∷ h) q) x.last x.above f.shape.chained
        (λ lower upper m below before j. holding_after upper j (upper_stays lower upper j below (before m)))
        (λ j. holding_after x.last j last_stays) part i i

    rooted_after : Rooted heading trust (e ∷ h) x
    rooted_after =
        let made : x.since ≤ suc (length h) = omega (arith, f.shape.made) in
        let declared : is_root (e ∷ h) x.last.kind x.root ≡ true
        = subst (λ (c : Kind). is_root (e ∷ h) c x.root ≡ true) (tag_kind x.last.kind (head_of x))
        (k.tags.root (e ∷ h) k.proper kept x.root (tag_of_entry x)
        (tag_now heading trust k (e ∷ h) kept x (tagged_after heading trust k h e kept_then x f none) up' made)) in
        record {
          placed = all_placed heading trust k (e ∷ h) kept x x.last.kind declared x.last x.above refl f.shape.begins f.shape.chained
              all_held f.shape.valid;
          holding = all_held;
          uncleansed = uncleansed_after heading trust k h e kept_then x f up g none;
          made_before = made_before_after heading trust k h e kept_then x f up g none;
          joined_before = joined_before_after heading trust k h e kept_then x f up g none;
        }

  pub fine_after : Fine heading trust (e ∷ h) x
  fine_after =
      let made : x.since ≤ suc (length h) = omega (arith, f.shape.made) in
      let joined : x.joined ≤ suc (length h) = omega (arith, f.shape.joined) in
      record {
        shape = record { is_pe = is_pe; made = made; joined = joined; fits = fits; begins = begins; chained = chained; valid = valid };
        own_asid = f.own_asid;
        tagged = tagged_after heading trust k h e kept_then x f none;
        rooted = λ later. rooted_after later;
      }
