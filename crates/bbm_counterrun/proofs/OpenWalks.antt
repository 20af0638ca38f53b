-- What a walk of a PE that stands open to a place left outlives what comes after it, as it is or joined; so its plan is
-- plain.
use Rattle.bbm_counterrun.proofs.Common.{append_assoc, length-append, Patterns, Kind, Entry, Part, age_by, desc_in}
use Rattle.bbm_counterrun.proofs.Common.{is_leaf, parts_of, tag_of_entry, Fine, IsLog, conflicts_with, is_stale}
use Rattle.bbm_counterrun.proofs.Common.{combined, extended, is_stage2, may_extend, may_start, must_go, started}
use Rattle.bbm_counterrun.proofs.Common.{takes_by, IsPlain, Plan, Read, combined_by, extended_by, first_events, forbids}
use Rattle.bbm_counterrun.proofs.Common.{is_forbidden, may_extend_by, may_walk, outlives, walked_by}
use Rattle.bbm_counterrun.proofs.Common.{PlainIsTested, is_within}
use Rattle.bbm_rules.proofs.Common.{◌≡◌, ℕ, suc, ◌+◌, ◌<◌, ◌≤◌, arith, Bool, true, false, ◌&&◌, not}
use Rattle.bbm_rules.proofs.Common.{List, [], ◌∷◌, ◌++◌, length, Option, Some, None, Contains, refl, sym, ◌∙◌, ap}
use Rattle.bbm_rules.proofs.Common.{subst, inl, inr, ◌⊎◌, true≢false, and_from, and_parts, or_left, or_right}
use Rattle.bbm_rules.proofs.Common.{or_parts, or_from, not_from_false, leb-true, option_map_or}
use Rattle.bbm_rules.proofs.Common.{any_found, to_contains, contains_head}
use Rattle.bbm_rules.proofs.Common.{needs, EntryKind, Stage2, Combined}
use Rattle.bbm_rules.proofs.Common.{Family, VmAll1, tag_of}
use Rattle.bbm_rules.proofs.Common.{Cover, Half, Second, Full, Scope, keeps, is_global, noted}
use Rattle.bbm_rules.proofs.Common.{Noted, events_of, last_valid, any, if_so}
use Rattle.bbm_rules.proofs.Common.{Cleansed, HalfBy, Publication, Answer, IsLastValid, page_of, Barrier, Heading, Event}
use Rattle.bbm_rules.proofs.Common.{El2, S2, Ttbr0, Ttbr1, Write, Dsb, Tlbi, Issued, completes, reaches, unanswered}
use Rattle.bbm_rules.proofs.Common.{completes_for, Open, itself, holds_tag, named_scope, vmid_of}
use Rattle.bbm_rules.proofs.Common.{Node, held_at, node_of, Breach, breaks, first_broken, Init, ◌||◌}
use Rattle.bbm_rules.proofs.Common.{cases_lt, le-leb, lt-ltb, ◌>>=◌}
use Rattle.std.proofs.lemmas.List.{append_cancel_left}
use Rattle.bbm_rules.specs.Broken.{broken, rules}
use Rattle.bbm_rules.specs.Notes.{event_of}
use Rattle.bbm_rules.specs.PatternSentences.{Flush}
use Rattle.bbm_rules.specs.Sentences.{issues}
use Rattle.bbm_rules.specs.declared.rule.Rule.{Rule}
use Rattle.bbm_rules.specs.declared.rule.Rule.TheVariants.{BreakBeforeMake}
use Rattle.bbm_tlbi_scope.specs.Operations.{family_of}
use Rattle.bbm_lemmas.proofs.Bools.{second_false}
use Rattle.bbm_lemmas.proofs.Elements.{contains_after}
use Rattle.bbm_lemmas.proofs.Words.{bind_some, if_so_some}
use Rattle.bbm_histories.proofs.Induction.{Between, NotesSplit, between_splits, events_append, events_length, kept_before, notes_split}
use Rattle.bbm_lemmas.proofs.Elements.{from_contains, none_of}
use Rattle.bbm_tlb_machine.specs.Entry.{head_of, is_given_up}
use Rattle.bbm_tlb_machine.specs.FineSteps.{FineSteps, IsStruck, LeavesIt, is_empty_below, names_asid}
use Rattle.bbm_tlb_machine.specs.Invariant.{IsNear}
use Rattle.bbm_tlb_machine.specs.KnownOfMachine.{Known}
use Rattle.bbm_tlb_machine.specs.Step.{entry_kind, is_older, takes}
use Rattle.bbm_counterrun.proofs.PlainTest.{older_is}
use Rattle.bbm_counterrun.specs.RefusedWrite.{IsRefused}
use Rattle.bbm_counterrun.specs.StandsOpen.{Fair, StandsOpen, Walked, takes_walk}
use Rattle.bbm_counterrun.specs.Tested.{walk_by}
use Rattle.bbm_counterrun.proofs.OneEntry.{forbidden_in, forbidden_is}
use Rattle.bbm_counterrun.proofs.StaysUp.{stays_up}
use Rattle.bbm_counterrun.proofs.WayParts.{pe_stays}
use Rattle.bbm_histories.specs.PositionLaws.{TreeAfter}
use Rattle.bbm_histories.specs.ValueChanges.{NoInit}
use Rattle.bbm_tlbi_scope.specs.Agreement.{IsCoverFor}

-- ---- the entry of a walk

module _ (heading : Heading) where
  -- it was started, and extended by the other reads
  pub record IsWalk (h : List Event) (p : ℕ) (kind : Kind) (number : ℕ) (x : Entry) : Type 0 where
    pub first : Read
    pub rest : List Read
    pub starts : may_start heading h (started heading (length h) p kind number first.place first.value) number ≡ true
    pub extends : may_extend_by heading h (started heading (length h) p kind number first.place first.value) rest ≡ true
    pub is : x ≡ extended_by (started heading (length h) p kind number first.place first.value) rest

  pub is_walk : (h : List Event) (p : ℕ) (kind : Kind) (number : ℕ) (reads : List Read) (x : Entry)
      → walk_by heading h p kind number reads ≡ Some x → IsWalk h p kind number x
  is_walk h p kind number [] x e = cc
  is_walk h p kind number (r ∷ rs) x e =
      let y : Entry = started heading (length h) p kind number r.place r.value in
      let b = bind_some (λ (z : Entry). if_so (may_extend_by heading h z rs) (extended_by z rs)) (if_so (may_start heading h y number) y) x e in
      let s = if_so_some (may_start heading h y number) y b.0 b.1 in
      let t = if_so_some (may_extend_by heading h b.0 rs) (extended_by b.0 rs) x b.2 in
      record {
        first = r;
        rest = rs;
        starts = s.0;
        extends = subst (λ (z : Entry). may_extend_by heading h z rs ≡ true) s.1 t.0;
        is = t.1 ∙ ap (λ (z : Entry). extended_by z rs) s.1;
      }

-- what extends leave as it was
same_since : (y : Entry) (rs : List Read) → (extended_by y rs).since ≡ y.since
same_since y [] = refl
same_since y (r ∷ rs) = same_since (extended y r.place r.value) rs

same_kind_of : (y : Entry) (rs : List Read) → (extended_by y rs).kind ≡ y.kind
same_kind_of y [] = refl
same_kind_of y (r ∷ rs) = same_kind_of (extended y r.place r.value) rs

not_combined : (kind : Kind) → entry_kind kind ≡ Combined → ⊥
not_combined El2 e = cc
not_combined S2 e = cc
not_combined Ttbr0 e = cc
not_combined Ttbr1 e = cc

-- the tag goes by the VMID and the ASID alone
tag_joined : (n : ℕ) (x : Entry) (kind : Kind) → tag_of kind (head_of (combined n x)) ≡ tag_of kind (head_of x)
tag_joined n x El2 = refl
tag_joined n x S2 = refl
tag_joined n x Ttbr0 = refl
tag_joined n x Ttbr1 = refl

takes_joined : (heading : Heading) (n : ℕ) (x : Entry) (e : Event) (before : List Event)
    → takes heading e before (combined n x) ≡ takes heading e before (combined 0 x)
takes_joined heading n x (Tlbi pe op xt) before = by (named_scope heading before pe op xt)
  where
    by : (s : Option Scope) → takes_by s (vmid_of heading before pe) (combined n x) ≡ takes_by s (vmid_of heading before pe) (combined 0 x)
    by None = refl
    by (Some scope) = refl
takes_joined heading n x e before = refl

age_at_least : (family : Family) (kind : EntryKind) (since joined m : ℕ) → m ≤ since → (kind ≡ Combined → m ≤ joined)
    → m ≤ age_by family kind since joined
age_at_least VmAll1 Combined since joined m a b = b refl
age_at_least family kind since joined m a b = a

-- ---- splits of notes by events

record ItemAt (ns : List Noted) (newer older : List Event) (e : Event) : Type 0 where
  new : List Noted
  item : Noted
  old : List Noted
  split : ns ≡ new ++ item ∷ old
  new_events : events_of new ≡ newer
  is : item.event ≡ e
  old_events : events_of old ≡ older

item_at : (ns : List Noted) (newer older : List Event) (e : Event) → events_of ns ≡ newer ++ e ∷ older → ItemAt ns newer older e
item_at ns newer older e k =
    let s : NotesSplit ns newer (e ∷ older) = notes_split ns newer (e ∷ older) k in
    by s.new s.old s.split s.new_events s.old_events
  where
    by : (new old : List Noted) → ns ≡ new ++ old → events_of new ≡ newer → events_of old ≡ e ∷ older → ItemAt ns newer older e
    by new [] split n o = cc
    by new (i ∷ old) split n o = record { new = new; item = i; old = old; split = split; new_events = n; is = cc; old_events = cc }

-- what is as old as a TLBI asks was there before it
old_enough : (m : ℕ) (y : Entry) → m ≤ y.since → (y.kind ≡ Combined → m ≤ y.joined) → (e : Event) (before : List Event)
    → is_older e before y ≡ true → m ≤ length before
old_enough m y since joined (Tlbi pe op xt) before k =
    let least = age_at_least (family_of op) y.kind y.since y.joined m since joined in
    let aged : age_by (family_of op) y.kind y.since y.joined ≤ length before = leb-true _ _ k in
    omega (arith, least, aged)
old_enough m y since joined e before k = absurd (true≢false (sym k))

-- ---- what forbids an entry

module _ (heading : Heading) where
  record FirstBar (y : Entry) (base : List Event) (newer : List Noted) : Type 0 where
    last : List Noted
    d : Noted
    mid : List Noted
    split : newer ≡ last ++ d ∷ mid
    none : forbidden_in heading y (events_of mid) base ≡ false
    here : forbids heading y d.event (events_of mid ++ base) ≡ true

  first_bar : (y : Entry) (base : List Event) (newer : List Noted)
      → (forbidden_in heading y (events_of newer) base ≡ false) ⊎ FirstBar y base newer
  first_bar y base [] = inl refl
  first_bar y base (d ∷ newer) =
      elim (first_bar y base newer) [
        | inl none ↦ by none (forbids heading y d.event (events_of newer ++ base)) refl
        | inr b ↦ inr (record {
          last = d ∷ b.last;
          d = b.d;
          mid = b.mid;
          split = ap (λ (ns : List Noted). d ∷ ns) b.split;
          none = b.none;
          here = b.here;
        })
      ]
    where
      by : forbidden_in heading y (events_of newer) base ≡ false → (c : Bool) → forbids heading y d.event (events_of newer ++ base) ≡ c
          → (forbidden_in heading y (events_of (d ∷ newer)) base ≡ false) ⊎ FirstBar y base (d ∷ newer)
      by none true here = inr (record { last = []; d = d; mid = newer; split = refl; none = none; here = here })
      by none false here = inl (or_from (forbids heading y d.event (events_of newer ++ base)) _ here none)

  -- the event is a barrier that answers a TLBI which must have taken the entry
  record Barred (y : Entry) (e : Event) (h : List Event) : Type 0 where
    q : ℕ
    dsb : Barrier
    is : e ≡ Dsb q dsb
    t : Issued Event
    is_open : Open itself q h t
    completed : completes dsb t.tlbi ≡ true
    goes : must_go heading t y ≡ true

  -- the rule that is named is broken
  is_broken : (h : List Noted) (e : Event) (rs : List Rule) (b : Breach) → first_broken heading Patterns h e rs ≡ Some b
      → breaks heading Patterns h e b.rule ≡ Some b.at
  is_broken h e [] b k = cc
  is_broken h e (rule ∷ rs) b k = by (is_broken h e rs b) (breaks heading Patterns h e rule) refl k
    where
      by : (first_broken heading Patterns h e rs ≡ Some b → breaks heading Patterns h e b.rule ≡ Some b.at)
          → (o : Option ℕ) → breaks heading Patterns h e rule ≡ o
          → option_map_or (λ at. Some (record { rule = rule; at = at })) o (first_broken heading Patterns h e rs) ≡ Some b
          → breaks heading Patterns h e b.rule ≡ Some b.at
      by rest None is k = rest k
      by rest (Some at) is k =
          let made : Breach = record { rule = rule; at = at } in
          let same : made ≡ b = cc in
          subst (λ (c : Breach). breaks heading Patterns h e c.rule ≡ Some c.at) same is

  refused_breaks : (h : List Event) (e : Event) (b : Breach) → broken heading Patterns h e ≡ Some b
      → breaks heading Patterns (noted heading Patterns h) e b.rule ≡ Some b.at
  unfolding broken
  refused_breaks h e b k = is_broken (noted heading Patterns h) e rules b k

module _ (heading : Heading) (k : Known heading Patterns) (steps : FineSteps heading Patterns) where
  given_before : (newer h : List Event) (y : Entry) → is_given_up heading (newer ++ h) y ≡ false → is_given_up heading h y ≡ false
  given_before [] h y e = e
  given_before (z ∷ newer) h y e = given_before newer h y (steps.up_before (newer ++ h) z y e)

  barred : (y : Entry) (e : Event) (h : List Event) → forbids heading y e h ≡ true → Barred heading y e h
  barred y (Dsb q dsb) h e =
      let f = any_found (λ (t : Issued Event). completes dsb t.tlbi && must_go heading t y) (unanswered itself q h) e in
      let both = and_parts (completes dsb f.0.tlbi) (must_go heading f.0 y) f.2 in
      record {
        q = q;
        dsb = dsb;
        is = refl;
        t = f.0;
        is_open = k.answered.sound q h f.0 (to_contains (unanswered itself q h) f.0 f.1);
        completed = both.0;
        goes = both.1;
      }
  barred y e h f = absurd (true≢false (sym f))

  leaves_by : (h : List Event) (e : Event) (y : Entry) → forbids heading y e h ≡ false → LeavesIt heading h e y
  leaves_by h (Dsb q dsb) y none r d is t j completed =
      let first : r ≡ q = cc in
      let second : dsb ≡ d = cc in
      second_false (completes dsb t.tlbi) (must_go heading t y)
      (none_of (λ (t : Issued Event). completes dsb t.tlbi && must_go heading t y) (unanswered itself q h) none t
      (from_contains (unanswered itself q h) t (subst (λ (s : ℕ). Contains (unanswered itself s h) t) first j)))
      (ap (λ (b : Barrier). completes b t.tlbi) second ∙ completed)
  leaves_by h e y none r d is t j completed = let apart : e ≡ Dsb r d = is in cc

  -- what is fine stays so while nothing forbids it
  fine_on : (y : Entry) (base mid : List Event) → keeps heading Patterns (mid ++ base) ≡ true → Fine heading Patterns base y
      → forbidden_in heading y mid base ≡ false → Fine heading Patterns (mid ++ base) y
  fine_on y base [] kept f none = f
  fine_on y base (e ∷ mid) kept f none =
      let parts = or_parts (forbids heading y e (mid ++ base)) (forbidden_in heading y mid base) none in
      let before : keeps heading Patterns (mid ++ base) ≡ true = kept_before heading Patterns (e ∷ []) (mid ++ base) kept in
      steps.after (mid ++ base) e kept y (fine_on y base mid before f parts.1) (leaves_by (mid ++ base) e y parts.0)

  -- the entry of a walk is fine
  fine_extends : (h : List Event) → keeps heading Patterns h ≡ true → (y : Entry) (rs : List Read) → Fine heading Patterns h y
      → may_extend_by heading h y rs ≡ true → Fine heading Patterns h (extended_by y rs)
  fine_extends h kept y [] f e = f
  fine_extends h kept y (r ∷ rs) f e =
      let parts = and_parts (may_extend heading h y r.place r.value) (may_extend_by heading h (extended y r.place r.value) rs) e in
      fine_extends h kept (extended y r.place r.value) rs
      (steps.extends h kept y f r.place r.value parts.0) parts.1

  fine_walk : (h : List Event) → keeps heading Patterns h ≡ true → IsLog heading h → (p : ℕ) (kind : Kind) (number : ℕ) (x : Entry)
      → IsWalk heading h p kind number x → Fine heading Patterns h x
  fine_walk h kept log p kind number x w =
      let y : Entry = started heading (length h) p kind number w.first.place w.first.value in
      subst (λ (z : Entry). Fine heading Patterns h z) (sym w.is)
      (fine_extends h kept y w.rest
      (steps.starts h kept log p kind number w.first.place w.first.value w.starts) w.extends)

-- ---- a walk of a PE that stands open

module _ (heading : Heading) (k : Known heading Patterns) (steps : FineSteps heading Patterns) (h : List Event) (log : IsLog heading h)
    (kept : keeps heading Patterns h ≡ true) (place p : ℕ) (open_there : StandsOpen heading h place p) where
  abbrev o : Walked heading h place p
  o = open_there.walked

  its_walk : IsWalk heading o.older p o.kind o.number o.walk
  its_walk = is_walk heading o.older p o.kind o.number o.reads o.walk o.walks

  its_last : IsLastValid o.walk.last.kind o.walk.last.level place (noted heading Patterns h) o.w
  its_last = k.last_valid.sound o.walk.last.kind o.walk.last.level place (noted heading Patterns h) o.w o.is_last

  older_notes : noted heading Patterns o.older ≡ o.between ++ its_last.write ∷ its_last.older
  older_notes =
      append_cancel_left o.newer (noted heading Patterns o.older) (o.between ++ its_last.write ∷ its_last.older)
      (sym o.split ∙ (its_last.split ∙ (ap (λ (ns : List Noted). ns ++ its_last.write ∷ its_last.older) o.since
      ∙ append_assoc o.newer o.between (its_last.write ∷ its_last.older))))

  older_events : h ≡ events_of o.newer ++ o.older
  older_events =
      sym (k.notes_keep_the_events h)
      ∙ (ap events_of o.split ∙ (events_append o.newer (noted heading Patterns o.older)
      ∙ ap (λ (es : List Event). events_of o.newer ++ es) (k.notes_keep_the_events o.older)))

  kept_older : keeps heading Patterns o.older ≡ true
  kept_older =
      kept_before heading Patterns (events_of o.newer) o.older (subst (λ (es : List Event). keeps heading Patterns es ≡ true) older_events kept)

  -- an entry that the walk left, as it is or joined
  record Comes (y : Entry) : Type 0 where
    pe : y.pe ≡ p
    last : y.last ≡ o.walk.last
    root : y.root ≡ o.walk.root
    tag : tag_of_entry y ≡ tag_of_entry o.walk
    since : length o.older ≤ y.since
    joined : y.kind ≡ Combined → length o.older ≤ y.joined
    walk : (e : Event) (before : List Event) → takes heading e before y ≡ true → takes_walk heading e before o.walk ≡ true

  -- a moment since the walk: `mid` came between the two, and `last` after the event d
  module _ (last mid : List Noted) (d : Noted) (split : o.newer ≡ last ++ d ∷ mid) where
    whole : noted heading Patterns h ≡ last ++ d ∷ (mid ++ noted heading Patterns o.older)
    whole =
        o.split ∙ (ap (λ (ns : List Noted). ns ++ noted heading Patterns o.older) split
        ∙ append_assoc last (d ∷ mid) (noted heading Patterns o.older))

    events_then : events_of (mid ++ noted heading Patterns o.older) ≡ events_of mid ++ o.older
    events_then =
        events_append mid (noted heading Patterns o.older)
        ∙ ap (λ (es : List Event). events_of mid ++ es) (k.notes_keep_the_events o.older)

    notes_then : noted heading Patterns (events_of mid ++ o.older) ≡ mid ++ noted heading Patterns o.older
    notes_then =
        sym ((k.notes.each h last (mid ++ noted heading Patterns o.older) d whole).0 ∙ ap (noted heading Patterns) events_then)

    split_then : h ≡ events_of last ++ d.event ∷ (events_of mid ++ o.older)
    split_then =
        sym (k.notes_keep_the_events h)
        ∙ (ap events_of whole ∙ (events_append last (d ∷ (mid ++ noted heading Patterns o.older))
        ∙ ap (λ (es : List Event). events_of last ++ d.event ∷ es) events_then))

    kept_now : keeps heading Patterns (d.event ∷ (events_of mid ++ o.older)) ≡ true
    kept_now =
        kept_before heading Patterns (events_of last) (d.event ∷ (events_of mid ++ o.older))
        (subst (λ (es : List Event). keeps heading Patterns es ≡ true) split_then kept)

    kept_then : keeps heading Patterns (events_of mid ++ o.older) ≡ true
    kept_then = kept_before heading Patterns (d.event ∷ []) (events_of mid ++ o.older) kept_now

    since_then : o.w.since ≡ last ++ d ∷ (mid ++ o.between)
    since_then =
        o.since ∙ (ap (λ (ns : List Noted). ns ++ o.between) split ∙ append_assoc last (d ∷ mid) o.between)

    last_then : last_valid o.walk.last.kind o.walk.last.level place (noted heading Patterns (events_of mid ++ o.older))
        ≡ Some (record { value = o.w.value; since = mid ++ o.between })
    last_then =
        k.last_valid.complete o.walk.last.kind o.walk.last.level place (noted heading Patterns (events_of mid ++ o.older))
        (record { value = o.w.value; since = mid ++ o.between }) (record {
          pe = its_last.pe;
          write = its_last.write;
          older = its_last.older;
          split = notes_then ∙ (ap (λ (ns : List Noted). mid ++ ns) older_notes ∙ sym (append_assoc mid o.between (its_last.write ∷ its_last.older)));
          wrote = its_last.wrote;
          valid = its_last.valid;
          last = λ q v n after before s. its_last.last q v n (last ++ d ∷ after) before (more n after before s);
          no_init = λ q n after before s. its_last.no_init q n (last ++ d ∷ after) before (more n after before s);
        })
      where
        more : (n : Noted) (after before : List Noted) → mid ++ o.between ≡ after ++ n ∷ before → o.w.since ≡ (last ++ d ∷ after) ++ n ∷ before
        more n after before s =
            since_then ∙ (ap (λ (ns : List Noted). last ++ d ∷ ns) s ∙ sym (append_assoc last (d ∷ after) (n ∷ before)))

    -- an entry that a TLBI which d answers must have taken
    module _ (y : Entry) (its : Comes y) (f : Fine heading Patterns (events_of mid ++ o.older) y)
        (up : is_given_up heading (events_of mid ++ o.older) y ≡ false) (bar : Barred heading y d.event (events_of mid ++ o.older)) where
      goes : (reaches heading bar.t.tlbi y.pe ≡ true) × (takes heading bar.t.tlbi bar.t.before y ≡ true)
          × (is_older bar.t.tlbi bar.t.before y ≡ true)
      goes =
          let a = and_parts _ _ bar.goes in
          let b = and_parts _ _ a.0 in
          (b.0, b.1, a.1)

      late : length o.older ≤ length bar.t.before
      late = old_enough (length o.older) y its.since its.joined bar.t.tlbi bar.t.before goes.2

      at : ItemAt (mid ++ noted heading Patterns o.older) bar.is_open.newer bar.t.before bar.t.tlbi
      at = item_at (mid ++ noted heading Patterns o.older) bar.is_open.newer bar.t.before bar.t.tlbi (events_then ∙ bar.is_open.split)

      long : length at.old ≡ length bar.t.before
      long = sym (events_length at.old) ∙ ap length at.old_events

      count : length (noted heading Patterns o.older) ≡ length o.older
      count = sym (events_length (noted heading Patterns o.older)) ∙ ap length (k.notes_keep_the_events o.older)

      b : Between (at.new ++ at.item ∷ []) at.old mid (noted heading Patterns o.older)
      b =
          between_splits (at.new ++ at.item ∷ []) at.old mid (noted heading Patterns o.older)
          (append_assoc at.new (at.item ∷ []) at.old ∙ sym at.split) (omega (arith, long, count, late))

      mid_is : mid ≡ at.new ++ at.item ∷ b.between
      mid_is = b.start ∙ append_assoc at.new (at.item ∷ []) b.between

      before_is : bar.t.before ≡ events_of b.between ++ o.older
      before_is =
          sym at.old_events
          ∙ (ap events_of b.end ∙ (events_append b.between (noted heading Patterns o.older)
          ∙ ap (λ (es : List Event). events_of b.between ++ es) (k.notes_keep_the_events o.older)))

      events_between : events_of (b.between ++ noted heading Patterns o.older) ≡ events_of b.between ++ o.older
      events_between =
          events_append b.between (noted heading Patterns o.older)
          ∙ ap (λ (es : List Event). events_of b.between ++ es) (k.notes_keep_the_events o.older)

      open_then : Open event_of bar.q (mid ++ o.between) (record { tlbi = at.item; before = b.between ++ o.between })
      open_then = record {
        newer = at.new;
        split = ap (λ (ns : List Noted). ns ++ o.between) mid_is ∙ append_assoc at.new (at.item ∷ b.between) o.between;
        issued = ap (issues bar.q) at.is ∙ bar.is_open.issued;
        uncompleted = λ z after before s.
            ap (λ (e : Event). completes_for bar.q e z.event) at.is
            ∙ bar.is_open.uncompleted z.event (events_of after) (events_of before)
            (sym at.new_events ∙ (ap events_of s ∙ events_append after (z ∷ before)));
      }

      newer_is : o.newer ≡ (last ++ d ∷ at.new) ++ at.item ∷ b.between
      newer_is =
          split ∙ (ap (λ (ns : List Noted). last ++ d ∷ ns) mid_is ∙ sym (append_assoc last (d ∷ at.new) (at.item ∷ b.between)))

      reached : reaches heading at.item.event p ≡ true
      reached =
          subst (λ (e : Event). reaches heading e p ≡ true) (sym at.is)
          (subst (λ (q : ℕ). reaches heading bar.t.tlbi q ≡ true) its.pe goes.0)

      taken_then : takes heading at.item.event (events_of b.between ++ o.older) y ≡ true
      taken_then =
          subst (λ (e : Event). takes heading e (events_of b.between ++ o.older) y ≡ true) (sym at.is)
          (subst (λ (es : List Event). takes heading bar.t.tlbi es y ≡ true) before_is goes.1)

      answer : Answer o.w.since (record { tlbi = at.item; before = b.between ++ o.between }) d
      answer = record {
        q = bar.q;
        dsb = bar.dsb;
        newer = last;
        older = mid ++ o.between;
        split = since_then;
        barrier = bar.is;
        is_open = open_then;
        completed = subst (λ (e : Event). completes bar.dsb e ≡ true) (sym at.is) bar.completed;
      }

      fair : Fair heading place p o.walk at.item.event (b.between ++ o.between) (b.between ++ noted heading Patterns o.older)
      fair =
          open_there.fair at.item d (last ++ d ∷ at.new) b.between newer_is answer reached
          (its.walk at.item.event (events_of b.between ++ o.older) taken_then)

      -- ---- the place as the TLBI saw it

      its_place : y.last.place ≡ place
      its_place = ap (λ (q : Part). q.place) its.last ∙ o.ends

      its_valid : last_valid y.last.kind y.last.level y.last.place (noted heading Patterns (events_of mid ++ o.older))
          ≡ Some (record { value = o.w.value; since = mid ++ o.between })
      its_valid =
          subst (λ (q : Part). last_valid q.kind q.level q.place (noted heading Patterns (events_of mid ++ o.older))
          ≡ Some (record { value = o.w.value; since = mid ++ o.between })) (sym its.last)
          (subst (λ (a : ℕ). last_valid o.walk.last.kind o.walk.last.level a (noted heading Patterns (events_of mid ++ o.older))
          ≡ Some (record { value = o.w.value; since = mid ++ o.between })) (sym o.ends) last_then)

      told : (n : Noted) × Publication heading place p (b.between ++ o.between) n
      told = k.seen.sound place p (b.between ++ o.between) fair.told

      told_there : Publication heading y.last.place p (b.between ++ o.between) told.0
      told_there = subst (λ (a : ℕ). Publication heading a p (b.between ++ o.between) told.0) (sym its_place) told.1

      here : Contains (parts_of y) y.last
      here = contains_head y.above y.last

      near : IsNear heading y p
      near = inl (sym its.pe)

      struck_by : IsStruck heading Patterns (events_of mid ++ o.older) y (record { tlbi = at.item; before = b.between ++ o.between })
          (b.between ++ noted heading Patterns o.older)
      unfolding at b open_then
      struck_by = record {
        w = record { value = o.w.value; since = mid ++ o.between };
        is_last = its_valid;
        q = bar.q;
        is_open = open_then;
        whole = notes_then ∙ (ap (λ (ns : List Noted). ns ++ noted heading Patterns o.older) mid_is
            ∙ append_assoc at.new (at.item ∷ b.between) (noted heading Patterns o.older));
        p = p;
        near = near;
        b = told.0;
        told = told_there;
        takes = subst (λ (es : List Event). takes heading at.item.event es y ≡ true) (sym events_between) taken_then;
        alone = λ tag holds. fair.alone tag
            (subst (λ (r : ℕ). holds_tag heading Patterns r tag (events_of (b.between ++ noted heading Patterns o.older)) ≡ true) its.root holds)
            ∙ sym its.tag;
        ending = subst (λ (q : Part). (is_leaf (desc_in q) || is_empty_below heading Patterns (b.between ++ noted heading Patterns o.older) q) ≡ true)
            (sym its.last) fair.ending;
        for_all = λ upper. subst (λ (q : Part). (is_global (desc_in q) || not (names_asid at.item.event)) ≡ true) (sym its.last)
            (fair.for_all (ap (λ (q : Part). q.kind) (sym its.last) ∙ upper));
      }

      covers_so : IsCoverFor y.kind (at.item.covers place)
      covers_so =
          subst (λ (a : ℕ). IsCoverFor y.kind (at.item.covers a)) its_place
          (steps.covers (events_of mid ++ o.older) kept_then y f up (record { tlbi = at.item; before = b.between ++ o.between })
          (b.between ++ noted heading Patterns o.older) struck_by)

      -- ---- what follows

      flush : (cover : Cover) → at.item.covers place ≡ cover
          → Flush heading cover place p (d ∷ (mid ++ o.between)) (record { tlbi = at.item; before = b.between ++ o.between }) d
      flush cover covered = record {
        answer = record {
          q = bar.q;
          dsb = bar.dsb;
          newer = [];
          older = mid ++ o.between;
          split = refl;
          barrier = bar.is;
          is_open = open_then;
          completed = subst (λ (e : Event). completes bar.dsb e ≡ true) (sym at.is) bar.completed;
        };
        reached = reached;
        covered = covered;
      }

      not_full : at.item.covers place ≡ Full → ⊥
      not_full covered =
          o.uncleansed (subst (λ (ns : List Noted). Cleansed heading Patterns place p ns) (sym since_then)
          (k.patterns_stay.cleansed place p last (d ∷ (mid ++ o.between)) (inl (record {
            b = told.0;
            t = record { tlbi = at.item; before = b.between ++ o.between };
            d = d;
            published = told.1;
            flush = flush Full covered;
            allowed = refl;
          }))))

      -- a stage 2 entry is struck by what covers the place half, and no other but a combined one is
      record Struck : Type 0 where
        stage2 : y.kind ≡ Stage2
        n : Noted
        i : Issued Noted
        half : HalfBy heading place p (d ∷ (mid ++ o.between)) n i d

      struck : (y.kind ≡ Combined → ⊥) → Struck
      struck apart = by covers_so
        where
          by : IsCoverFor y.kind (at.item.covers place) → Struck
          by (inl full) = absurd (not_full full)
          by (inr (inl half)) = record {
            stage2 = half.0;
            n = told.0;
            i = record { tlbi = at.item; before = b.between ++ o.between };
            half = record { flush = flush Half half.1; published = told.1 };
          }
          by (inr (inr rest)) = absurd (apart rest.0)

      -- a combined entry that was joined before the first half was answered isn't struck
      module _ (combined_it : y.kind ≡ Combined) (last1 mid1 : List Noted) (d1 : Noted) (q1 : ℕ) (dsb1 : Barrier) (is1 : d1.event ≡ Dsb q1 dsb1)
          (split1 : o.newer ≡ last1 ++ d1 ∷ mid1) (joined1 : length mid1 + length o.older ≤ y.joined) (n1 : Noted) (i1 : Issued Noted)
          (half1 : HalfBy heading place p (d1 ∷ (mid1 ++ o.between)) n1 i1 d1) where
        joined_late : at.item.covers place ≡ Second → y.joined ≤ length bar.t.before
        joined_late covered =
            let old : is_older at.item.event (events_of (b.between ++ noted heading Patterns o.older)) y ≡ true
            = subst (λ (e : Event). is_older e (events_of (b.between ++ noted heading Patterns o.older)) y ≡ true) (sym at.is)
            (subst (λ (es : List Event). is_older bar.t.tlbi es y ≡ true) (before_is ∙ sym events_between) goes.2) in
            let behind : y.joined ≤ length (events_of (b.between ++ noted heading Patterns o.older))
            = steps.second (events_of mid ++ o.older) kept_then y f up (record { tlbi = at.item; before = b.between ++ o.between })
            (b.between ++ noted heading Patterns o.older) struck_by combined_it (ap at.item.covers its_place ∙ covered) old in
            let same : length bar.t.before ≡ length (events_of (b.between ++ noted heading Patterns o.older))
            = ap length (before_is ∙ sym events_between) in
            omega (arith, behind, same)

        both_splits : (last ++ d ∷ at.new) ++ at.item ∷ b.between ≡ last1 ++ d1 ∷ mid1
        both_splits = sym newer_is ∙ split1

        lengths : length at.old ≡ length b.between + length (noted heading Patterns o.older)
        lengths = ap length b.end ∙ length-append b.between (noted heading Patterns o.older)

        not_the_same : length b.between ≤ length mid1 → length mid1 ≤ length b.between → ⊥
        not_the_same le ge =
            let c : Between (last ++ d ∷ at.new) (at.item ∷ b.between) last1 (d1 ∷ mid1)
            = between_splits (last ++ d ∷ at.new) (at.item ∷ b.between) last1 (d1 ∷ mid1) both_splits (omega (arith, ge)) in
            by c.between c.end
          where
            by : (more : List Noted) → at.item ∷ b.between ≡ more ++ d1 ∷ mid1 → ⊥
            by [] e =
                let same : at.item ≡ d1 = cc in
                absurd (true≢false (sym (subst (λ (e : Event). takes heading e (events_of b.between ++ o.older) y ≡ true)
                (ap event_of same ∙ is1) taken_then)))
            by (z ∷ more) e =
                let count : suc (length b.between) ≡ suc (length (more ++ d1 ∷ mid1)) = ap length e in
                let parts : length (more ++ d1 ∷ mid1) ≡ length more + suc (length mid1) = length-append more (d1 ∷ mid1) in
                absurd (omega (arith, count, parts, le))

        half_before_it : suc (length mid1) ≤ length b.between → at.item.covers place ≡ Second → ⊥
        half_before_it less covered =
            let c : Between ((last ++ d ∷ at.new) ++ at.item ∷ []) b.between last1 (d1 ∷ mid1)
            = between_splits ((last ++ d ∷ at.new) ++ at.item ∷ []) b.between last1 (d1 ∷ mid1)
            (append_assoc (last ++ d ∷ at.new) (at.item ∷ []) b.between ∙ both_splits) less in
            let before : b.between ++ o.between ≡ c.between ++ (d1 ∷ (mid1 ++ o.between))
            = ap (λ (ns : List Noted). ns ++ o.between) c.end ∙ append_assoc c.between (d1 ∷ mid1) o.between in
            o.uncleansed (subst (λ (ns : List Noted). Cleansed heading Patterns place p ns) (sym since_then)
            (k.patterns_stay.cleansed place p last (d ∷ (mid ++ o.between)) (inr (record {
              b = n1;
              t1 = i1;
              d1 = d1;
              t2 = record { tlbi = at.item; before = b.between ++ o.between };
              d2 = d;
              first = subst (λ (ns : List Noted). HalfBy heading place p ns n1 i1 d1) (sym before)
                  (k.patterns_stay.half place p c.between (d1 ∷ (mid1 ++ o.between)) n1 i1 d1 half1);
              second = flush Second covered;
              allowed = refl;
            }))))

        not_second : at.item.covers place ≡ Second → ⊥
        not_second covered =
            let joined = joined_late covered in
            let ge : length mid1 ≤ length b.between = omega (arith, joined, joined1, lengths, long, count) in
            elim (cases_lt (length mid1) (length b.between)) [
              | inl less ↦ half_before_it less covered
              | inr le ↦ not_the_same le ge
            ]

        apart_then : ⊥
        apart_then = by covers_so
          where
            by : IsCoverFor y.kind (at.item.covers place) → ⊥
            by (inl full) = not_full full
            by (inr (inl half)) = let apart : Stage2 ≡ Combined = sym half.0 ∙ combined_it in cc
            by (inr (inr rest)) = not_second rest.1

  -- ---- the plan

  log_older : IsLog heading o.older
  log_older = record {
    header = log.header;
    events = λ e i. log.events e (subst (λ (es : List Event). Contains es e) (sym older_events) (contains_after (events_of o.newer) o.older e i));
  }

  first_fine : Fine heading Patterns o.older o.walk
  first_fine = fine_walk heading k steps o.older kept_older log_older p o.kind o.number o.walk its_walk

  abbrev start : Entry
  start = started heading (length o.older) p o.kind o.number its_walk.first.place its_walk.first.value

  uncombined : o.walk.kind ≡ Combined → ⊥
  uncombined e =
      not_combined o.kind (sym (ap (λ (z : Entry). z.kind) its_walk.is ∙ same_kind_of start its_walk.rest) ∙ e)

  walk_since : o.walk.since ≡ length o.older
  walk_since = ap (λ (z : Entry). z.since) its_walk.is ∙ same_since start its_walk.rest

  walk_pe : o.walk.pe ≡ p
  walk_pe = ap (λ (z : Entry). z.pe) its_walk.is ∙ pe_stays start its_walk.rest

  walk_comes : Comes o.walk
  walk_comes = record {
    pe = walk_pe;
    last = refl;
    root = refl;
    tag = refl;
    since = omega (arith, walk_since);
    joined = λ e. absurd (uncombined e);
    walk = λ e before t. or_left (takes heading e before o.walk) _ t;
  }

  joined_comes : (n : ℕ) → length o.older ≤ n → o.walk.kind ≡ Stage2 → Comes (combined n o.walk)
  joined_comes n le stage2 = record {
    pe = walk_pe;
    last = refl;
    root = refl;
    tag = tag_joined n o.walk o.walk.last.kind;
    since = omega (arith, walk_since);
    joined = λ e. le;
    walk = λ e before t. or_right (takes heading e before o.walk) (is_stage2 o.walk.kind && takes heading e before (combined 0 o.walk))
        (and_from (is_stage2 o.walk.kind) (takes heading e before (combined 0 o.walk)) (ap is_stage2 stage2)
        (sym (takes_joined heading n o.walk e before) ∙ t));
  }

  abbrev plan_by : Option ℕ → Plan
  plan_by c = record {
    starts = length o.older;
    pe = p;
    kind = o.kind;
    number = o.number;
    first = its_walk.first;
    rest = its_walk.rest;
    combines = c;
  }

  some_older : 0 < length o.older
  some_older = steps.behind o.older start o.number its_walk.starts

  long_older : length h ≡ length (events_of o.newer) + length o.older
  long_older = ap length older_events ∙ length-append (events_of o.newer) o.older

  may_walk_it : (c : Option ℕ) → may_walk heading (first_events (length o.older) h) (plan_by c) ≡ true
  may_walk_it c =
      subst (λ (es : List Event). may_walk heading es (plan_by c) ≡ true)
      (sym (older_is h (events_of o.newer) o.older (length o.older) older_events refl))
      (and_from _ _ its_walk.starts its_walk.extends)

  -- what the walk left conflicts with the write
  conflicts_it : (pe value : ℕ) → IsRefused heading h pe place value → (y : Entry) → y.last ≡ o.walk.last → Fine heading Patterns h y
      → is_given_up heading h y ≡ false → conflicts_with heading h (Write pe place value) y ≡ true
  conflicts_it pe value refused y same f up =
      and_from (not (is_given_up heading h y)) (any (is_stale place value) (parts_of y)) (not_from_false (is_given_up heading h y) up)
      (or_left (is_stale place value y.last) (any (is_stale place value) y.above)
      (subst (λ (a : ℕ). is_stale a value y.last ≡ true) its_place is_stale_there))
    where
      its_place : y.last.place ≡ place
      its_place = ap (λ (q : Part). q.place) same ∙ o.ends

      is_stale_there : is_stale y.last.place value y.last ≡ true
      is_stale_there =
          let rule = refused_breaks heading h (Write pe place value) (record { rule = BreakBeforeMake; at = place }) refused.refused in
          let n = bind_some (λ (n : Node). held_at heading Patterns (noted heading Patterns h) n place
          >>= (λ (old : ℕ). if_so (needs n.kind n.level old value) place)) (node_of heading Patterns (noted heading Patterns h) (page_of place)) place rule in
          let old = bind_some (λ (old : ℕ). if_so (needs n.0.kind n.0.level old value) place)
          (held_at heading Patterns (noted heading Patterns h) n.0 place) place n.2 in
          steps.stale h kept y f up n.0
          (subst (λ (a : ℕ). node_of heading Patterns (noted heading Patterns h) (page_of a) ≡ Some n.0) (sym its_place) n.1) old.0 value
          (subst (λ (a : ℕ). held_at heading Patterns (noted heading Patterns h) n.0 a ≡ Some old.0) (sym its_place) old.1)
          (if_so_some (needs n.0.kind n.0.level old.0 value) place place old.2).0

  module _ (law : PlainIsTested heading) (trees : TreeAfter heading Patterns) (pe value : ℕ) (refused : IsRefused heading h pe place value) where
    -- the place is in a tree, and no init of its page came since the walk; so the root wasn't given up since
    its_node : (n : Node) × (node_of heading Patterns (noted heading Patterns h) (page_of place) ≡ Some n)
        × ((held_at heading Patterns (noted heading Patterns h) n place >>= (λ (old : ℕ). if_so (needs n.kind n.level old value) place)) ≡ Some place)
    its_node =
        bind_some (λ (n : Node). held_at heading Patterns (noted heading Patterns h) n place >>= (λ (old : ℕ). if_so (needs n.kind n.level old value) place))
        (node_of heading Patterns (noted heading Patterns h) (page_of place)) place
        (refused_breaks heading h (Write pe place value) (record { rule = BreakBeforeMake; at = place }) refused.refused)

    no_init_since : NoInit (page_of place) (events_of o.newer)
    no_init_since q after before e =
        let a : ItemAt o.newer after before (Init q (page_of place)) = item_at o.newer after before (Init q (page_of place)) e in
        its_last.no_init q a.item a.new (a.old ++ o.between)
        (o.since ∙ (ap (λ (ns : List Noted). ns ++ o.between) a.split ∙ append_assoc a.new (a.item ∷ a.old) o.between)) a.is

    its_root_stays : is_given_up heading h o.walk ≡ false
    its_root_stays =
        let t = k.tree.taken (noted heading Patterns h) (page_of place) its_node.0 its_node.1 in
        stays_up heading k trees o.walk h (events_of o.newer) o.older older_events kept first_fine walk_since its_node.0 t.0
        (t.1 ∙ ap page_of (sym o.ends)) (subst (λ (q : ℕ). NoInit q (events_of o.newer)) (sym t.1) no_init_since)

    -- nothing forbids what the walk left
    plain_alone : forbidden_in heading o.walk (events_of o.newer) o.older ≡ false → IsPlain heading h (Write pe place value) (plan_by None)
    plain_alone none =
        (law h (Write pe place value) (plan_by None)).1
        (and_from _ _ (and_from _ _ (and_from _ _ within (may_walk_it None)) outlived) conflict)
      where
        within : is_within (plan_by None) (length h) ≡ true
        within = and_from _ _ (and_from _ _ (lt-ltb 0 (length o.older) some_older) (le-leb (length o.older) (length h) (omega (arith, long_older)))) refl

        unforbidden : is_forbidden heading (length o.older) (length h) o.walk h ≡ false
        unforbidden =
            subst (λ (es : List Event). is_forbidden heading (length o.older) (length es) o.walk es ≡ false) (sym older_events)
            (forbidden_is heading [] (events_of o.newer) o.older (length o.older) (length (events_of o.newer ++ o.older)) o.walk refl refl ∙ none)

        outlived : outlives heading (walked_by heading (plan_by None)) (length o.older) None h ≡ true
        outlived =
            subst (λ (z : Entry). outlives heading z (length o.older) None h ≡ true) its_walk.is
            (not_from_false _ unforbidden)

        fine_now : Fine heading Patterns h o.walk
        fine_now =
            subst (λ (es : List Event). Fine heading Patterns es o.walk) (sym older_events)
            (fine_on heading k steps o.walk o.older (events_of o.newer) (subst (λ (es : List Event). keeps heading Patterns es ≡ true) older_events kept) first_fine none)

        conflict : conflicts_with heading h (Write pe place value) (combined_by None (walked_by heading (plan_by None))) ≡ true
        conflict =
            subst (λ (z : Entry). conflicts_with heading h (Write pe place value) z ≡ true) its_walk.is
            (conflicts_it pe value refused o.walk refl fine_now its_root_stays)

    -- a TLBI that is answered takes what the walk left, so it is joined just before that
    module _ (bar : FirstBar heading o.walk o.older o.newer) where
      whole_is : h ≡ events_of bar.last ++ bar.d.event ∷ (events_of bar.mid ++ o.older)
      whole_is = split_then bar.last bar.mid bar.d bar.split

      kept_at : keeps heading Patterns (events_of bar.mid ++ o.older) ≡ true
      kept_at = kept_then bar.last bar.mid bar.d bar.split

      fine_at : Fine heading Patterns (events_of bar.mid ++ o.older) o.walk
      fine_at = fine_on heading k steps o.walk o.older (events_of bar.mid) kept_at first_fine bar.none

      up_at : is_given_up heading (events_of bar.mid ++ o.older) o.walk ≡ false
      up_at =
          given_before heading k steps (bar.d.event ∷ []) (events_of bar.mid ++ o.older) o.walk
          (given_before heading k steps (events_of bar.last) (bar.d.event ∷ (events_of bar.mid ++ o.older)) o.walk
          (subst (λ (es : List Event). is_given_up heading es o.walk ≡ false) whole_is its_root_stays))

      hit : Struck bar.last bar.mid bar.d bar.split o.walk walk_comes fine_at up_at (barred heading k steps o.walk bar.d.event (events_of bar.mid ++ o.older) bar.here)
      hit =
          struck bar.last bar.mid bar.d bar.split o.walk walk_comes fine_at up_at
          (barred heading k steps o.walk bar.d.event (events_of bar.mid ++ o.older) bar.here) uncombined

      behind_older : length o.older ≤ length (events_of bar.mid ++ o.older)
      behind_older = let parts = length-append (events_of bar.mid) o.older in omega (arith, parts)

      joined_fine : Fine heading Patterns (events_of bar.mid ++ o.older) (combined (length (events_of bar.mid ++ o.older)) o.walk)
      joined_fine =
          steps.joins (events_of bar.mid ++ o.older) kept_at o.walk fine_at (ap is_stage2 hit.stage2)

      its_barrier : Barred heading o.walk bar.d.event (events_of bar.mid ++ o.older)
      its_barrier = barred heading k steps o.walk bar.d.event (events_of bar.mid ++ o.older) bar.here

      -- no second TLBI takes what was joined
      not_twice : FirstBar heading (combined (length (events_of bar.mid ++ o.older)) o.walk) (events_of bar.mid ++ o.older) (bar.last ++ bar.d ∷ []) → ⊥
      not_twice two =
          apart_then two.last (two.mid ++ bar.mid) two.d split2 (combined (length (events_of bar.mid ++ o.older)) o.walk) comes fine2 up2 barred2 refl bar.last bar.mid bar.d
          its_barrier.q its_barrier.dsb its_barrier.is bar.split joined1 hit.n hit.i hit.half
        where
          comes : Comes (combined (length (events_of bar.mid ++ o.older)) o.walk)
          comes = joined_comes (length (events_of bar.mid ++ o.older)) behind_older hit.stage2

          split2 : o.newer ≡ two.last ++ two.d ∷ (two.mid ++ bar.mid)
          split2 =
              bar.split ∙ (sym (append_assoc bar.last (bar.d ∷ []) bar.mid)
              ∙ (ap (λ (ns : List Noted). ns ++ bar.mid) two.split ∙ append_assoc two.last (two.d ∷ two.mid) bar.mid))

          events2 : events_of (two.mid ++ bar.mid) ++ o.older ≡ events_of two.mid ++ (events_of bar.mid ++ o.older)
          events2 =
              ap (λ (es : List Event). es ++ o.older) (events_append two.mid bar.mid)
              ∙ append_assoc (events_of two.mid) (events_of bar.mid) o.older

          kept2 : keeps heading Patterns (events_of two.mid ++ (events_of bar.mid ++ o.older)) ≡ true
          kept2 =
              subst (λ (es : List Event). keeps heading Patterns es ≡ true) events2
              (kept_then two.last (two.mid ++ bar.mid) two.d split2)

          fine2 : Fine heading Patterns (events_of (two.mid ++ bar.mid) ++ o.older) (combined (length (events_of bar.mid ++ o.older)) o.walk)
          fine2 =
              subst (λ (es : List Event). Fine heading Patterns es (combined (length (events_of bar.mid ++ o.older)) o.walk)) (sym events2)
              (fine_on heading k steps (combined (length (events_of bar.mid ++ o.older)) o.walk) (events_of bar.mid ++ o.older) (events_of two.mid) kept2 joined_fine two.none)

          up2 : is_given_up heading (events_of (two.mid ++ bar.mid) ++ o.older) (combined (length (events_of bar.mid ++ o.older)) o.walk) ≡ false
          up2 =
              given_before heading k steps (two.d.event ∷ []) (events_of (two.mid ++ bar.mid) ++ o.older) (combined (length (events_of bar.mid ++ o.older)) o.walk)
              (given_before heading k steps (events_of two.last) (two.d.event ∷ (events_of (two.mid ++ bar.mid) ++ o.older)) (combined (length (events_of bar.mid ++ o.older)) o.walk)
              (subst (λ (es : List Event). is_given_up heading es (combined (length (events_of bar.mid ++ o.older)) o.walk) ≡ false) (split_then two.last (two.mid ++ bar.mid) two.d split2) its_root_stays))

          barred2 : Barred heading (combined (length (events_of bar.mid ++ o.older)) o.walk) two.d.event (events_of (two.mid ++ bar.mid) ++ o.older)
          barred2 =
              barred heading k steps (combined (length (events_of bar.mid ++ o.older)) o.walk) two.d.event (events_of (two.mid ++ bar.mid) ++ o.older)
              (subst (λ (es : List Event). forbids heading (combined (length (events_of bar.mid ++ o.older)) o.walk) two.d.event es ≡ true) (sym events2) two.here)

          joined1 : length bar.mid + length o.older ≤ length (events_of bar.mid ++ o.older)
          joined1 =
              let parts = length-append (events_of bar.mid) o.older in
              let same = events_length bar.mid in
              omega (arith, parts, same)

      -- nothing forbids what was joined
      none_joined : forbidden_in heading (combined (length (events_of bar.mid ++ o.older)) o.walk) (events_of (bar.last ++ bar.d ∷ [])) (events_of bar.mid ++ o.older) ≡ false
      none_joined =
          elim (first_bar heading (combined (length (events_of bar.mid ++ o.older)) o.walk) (events_of bar.mid ++ o.older) (bar.last ++ bar.d ∷ [])) [
            | inl none ↦ none
            | inr two ↦ absurd (not_twice two)
          ]

      plain_joined : IsPlain heading h (Write pe place value) (plan_by (Some (length (events_of bar.mid ++ o.older))))
      plain_joined =
          (law h (Write pe place value) (plan_by (Some (length (events_of bar.mid ++ o.older))))).1
          (and_from _ _ (and_from _ _ (and_from _ _ within (may_walk_it (Some (length (events_of bar.mid ++ o.older))))) outlived) conflict)
        where
          late_is : h ≡ events_of (bar.last ++ bar.d ∷ []) ++ (events_of bar.mid ++ o.older)
          late_is =
              whole_is ∙ (sym (append_assoc (events_of bar.last) (bar.d.event ∷ []) (events_of bar.mid ++ o.older))
              ∙ ap (λ (es : List Event). es ++ (events_of bar.mid ++ o.older)) (sym (events_append bar.last (bar.d ∷ []))))

          lengths : length h ≡ length (events_of (bar.last ++ bar.d ∷ [])) + length (events_of bar.mid ++ o.older)
          lengths = ap length late_is ∙ length-append (events_of (bar.last ++ bar.d ∷ [])) (events_of bar.mid ++ o.older)

          within : is_within (plan_by (Some (length (events_of bar.mid ++ o.older)))) (length h) ≡ true
          within =
              and_from _ _ (and_from _ _ (lt-ltb 0 (length o.older) some_older) (le-leb (length o.older) (length h) (omega (arith, long_older))))
              (and_from _ _ (le-leb (length o.older) (length (events_of bar.mid ++ o.older)) behind_older)
              (le-leb (length (events_of bar.mid ++ o.older)) (length h) (omega (arith, lengths))))

          early : is_forbidden heading (length o.older) (length (events_of bar.mid ++ o.older)) o.walk h ≡ false
          early =
              subst (λ (es : List Event). is_forbidden heading (length o.older) (length (events_of bar.mid ++ o.older)) o.walk es ≡ false) (sym late_is)
              (forbidden_is heading (events_of (bar.last ++ bar.d ∷ [])) (events_of bar.mid) o.older (length o.older)
              (length (events_of bar.mid ++ o.older)) o.walk refl refl ∙ bar.none)

          after : is_forbidden heading (length (events_of bar.mid ++ o.older)) (length h) (combined (length (events_of bar.mid ++ o.older)) o.walk) h ≡ false
          after =
              subst (λ (es : List Event). is_forbidden heading (length (events_of bar.mid ++ o.older)) (length es) (combined (length (events_of bar.mid ++ o.older)) o.walk) es ≡ false) (sym late_is)
              (forbidden_is heading [] (events_of (bar.last ++ bar.d ∷ [])) (events_of bar.mid ++ o.older) (length (events_of bar.mid ++ o.older))
              (length (events_of (bar.last ++ bar.d ∷ []) ++ (events_of bar.mid ++ o.older))) (combined (length (events_of bar.mid ++ o.older)) o.walk) refl refl ∙ none_joined)

          outlived : outlives heading (walked_by heading (plan_by (Some (length (events_of bar.mid ++ o.older))))) (length o.older)
              (Some (length (events_of bar.mid ++ o.older))) h ≡ true
          outlived =
              subst (λ (z : Entry). outlives heading z (length o.older) (Some (length (events_of bar.mid ++ o.older))) h ≡ true) its_walk.is
              (and_from _ _ (and_from _ _ (not_from_false _ early) (ap is_stage2 hit.stage2)) (not_from_false _ after))

          fine_now : Fine heading Patterns h (combined (length (events_of bar.mid ++ o.older)) o.walk)
          fine_now =
              subst (λ (es : List Event). Fine heading Patterns es (combined (length (events_of bar.mid ++ o.older)) o.walk)) (sym late_is)
              (fine_on heading k steps (combined (length (events_of bar.mid ++ o.older)) o.walk) (events_of bar.mid ++ o.older) (events_of (bar.last ++ bar.d ∷ []))
              (subst (λ (es : List Event). keeps heading Patterns es ≡ true) late_is kept) joined_fine none_joined)

          conflict : conflicts_with heading h (Write pe place value)
              (combined_by (Some (length (events_of bar.mid ++ o.older))) (walked_by heading (plan_by (Some (length (events_of bar.mid ++ o.older)))))) ≡ true
          conflict =
              subst (λ (z : Entry). conflicts_with heading h (Write pe place value) (combined (length (events_of bar.mid ++ o.older)) z) ≡ true) its_walk.is
              (conflicts_it pe value refused (combined (length (events_of bar.mid ++ o.older)) o.walk) refl fine_now its_root_stays)

    pub open_is_plain : (plan : Plan) × IsPlain heading h (Write pe place value) plan
    open_is_plain =
        elim (first_bar heading o.walk o.older o.newer) [
          | inl none ↦ (plan_by None, plain_alone none)
          | inr bar ↦ (plan_by (Some (length (events_of bar.mid ++ o.older))), plain_joined bar)
        ]
