-- What one more event does to what a place holds.
use Rattle.bbm_histories.proofs.Common.{Heading, Event, Init, Write, Dsb, PageInUse, Holds, Below}
use Rattle.bbm_rules.proofs.Common.{◌≡◌, ℕ, ◌<◌, ◌⊎◌, ◌||◌, Bool, true, false, cond, ◌==◌, List, [], ◌∷◌, ◌++◌, Option}
use Rattle.bbm_rules.proofs.Common.{Some, None, option_and_then, refl, sym, ◌∙◌, ap, subst, inl, inr, true≢false, false_from_ne_true}
use Rattle.bbm_rules.proofs.Common.{eq-eqb, eqb-true, or_parts, Kind, is_valid, needs, Trust, note, held, if_so, Noted}
use Rattle.bbm_rules.proofs.Common.{events_of, is_null, Cleansed, page_of, Node, held_at, in_tree, node_of, value_of}
use Rattle.bbm_barriers.specs.declared.Dsb.{Dsb as Barrier}
use Rattle.bbm_rules.specs.Held.{emptied}
use Rattle.bbm_rules.specs.declared.rule.Rule.TheVariants.{BreakBeforeMake}
use Rattle.bbm_histories.specs.TreeChanges.{HeldChange}
use Rattle.bbm_histories.proofs.Induction.{Unbroken}
use Rattle.bbm_rules.proofs.RuleLemmas.{if_none}
use Rattle.bbm_histories.proofs.PatternLemmas.{cleansed_stays, one_begins, two_begin}

-- ---- a DSB alone cleanses

abbrev pub IsDsb : Event → Type 0
IsDsb e = (q : ℕ) × (dsb : Barrier) × (e ≡ Dsb q dsb)

pub cleansed_before : (heading : Heading) (trust : Trust) (place p : ℕ) (n : Noted) (since : List Noted) → (IsDsb n.event → ⊥)
    → Cleansed heading trust place p (n ∷ since) → Cleansed heading trust place p since
cleansed_before heading trust place p n since other (inl k) =
    elim (one_begins heading trust place p n since k) [
      | inl old ↦ inl old
      | inr same ↦ absurd (other (k.flush.answer.q, k.flush.answer.dsb, ap (λ (x : Noted). x.event) (sym same) ∙ k.flush.answer.barrier))
    ]
cleansed_before heading trust place p n since other (inr k) =
    elim (two_begin heading trust place p n since k) [
      | inl old ↦ inr old
      | inr same ↦ absurd (other (k.second.answer.q, k.second.answer.dsb, ap (λ (x : Noted). x.event) (sym same) ∙ k.second.answer.barrier))
    ]

module _ (heading : Heading) (trust : Trust) (b : Below heading trust) (kind : Kind) (level place : ℕ) where
  -- ---- what is held after an event was held before, unless the event wrote it

  pub held_back : (n : Noted) (h : List Noted) (value : ℕ) → held heading trust kind level place (n ∷ h) ≡ Some value
      → (held heading trust kind level place h ≡ Some value) ⊎ ((q : ℕ) × (n.event ≡ Write q place value))
  held_back n h value e = by k.since refl k.last_write.split
    where
      k : Holds heading trust kind level place (n ∷ h) value
      k = b.held.sound kind level place (n ∷ h) value e

      not_yet : (m : Noted) (newer : List Noted) → k.since ≡ m ∷ newer
          → n ∷ h ≡ (m ∷ newer) ++ k.last_write.write ∷ k.last_write.older → emptied heading trust kind level place h ≡ false
      not_yet m newer is split =
          let first : m ≡ n = cc in
          false_from_ne_true (emptied heading trust kind level place h)
          (λ e. true≢false (sym (b.held.emptied_stays kind level place n h
          (λ q v w. k.last_write.last q v m [] newer is (ap (λ (x : Noted). x.event) first ∙ w))
          (λ q w. k.last_write.no_init q m [] newer is (ap (λ (x : Noted). x.event) first ∙ w)) e) ∙ k.unemptied))

      by : (newer : List Noted) → k.since ≡ newer → n ∷ h ≡ newer ++ k.last_write.write ∷ k.last_write.older
          → (held heading trust kind level place h ≡ Some value) ⊎ ((q : ℕ) × (n.event ≡ Write q place value))
      by [] is split =
          let first : n ≡ k.last_write.write = cc in
          inr (k.last_write.pe, ap (λ (x : Noted). x.event) first ∙ k.last_write.wrote)
      by (m ∷ newer) is split = inl (b.held.complete kind level place h value (record {
        since = newer;
        last_write = record {
          pe = k.last_write.pe;
          write = k.last_write.write;
          older = k.last_write.older;
          split = cc;
          wrote = k.last_write.wrote;
          valid = k.last_write.valid;
          last = λ q v x after before i. k.last_write.last q v x (m ∷ after) before (is ∙ ap (λ (xs : List Noted). m ∷ xs) i);
          no_init = λ q x after before i. k.last_write.no_init q x (m ∷ after) before (is ∙ ap (λ (xs : List Noted). m ∷ xs) i);
        };
        p = k.p;
        is_pe = k.is_pe;
        uncleansed = λ c. k.uncleansed (subst (λ (xs : List Noted). Cleansed heading trust place k.p xs) (sym is)
            (cleansed_stays heading trust place k.p (m ∷ []) newer c));
        unemptied = not_yet m newer is split;
      }))

  pub held_valid : (h : List Noted) (value : ℕ) → held heading trust kind level place h ≡ Some value
      → is_valid kind level value ≡ true
  held_valid h value e =
      let k : Holds heading trust kind level place h value = b.held.sound kind level place h value e in
      k.last_write.valid

  -- the event is no valid write of the place, no init of its page, and no DSB
  pub record Leaves (e : Event) : Type 0 where
    pub no_write : (q v : ℕ) → e ≡ Write q place v → is_valid kind level v ≡ false
    pub no_init : (q : ℕ) → e ≡ Init q (page_of place) → ⊥
    pub no_dsb : IsDsb e → ⊥

  pub held_on : (n : Noted) (h : List Noted) (value : ℕ) → Leaves n.event → held heading trust kind level place h ≡ Some value
      → held heading trust kind level place (n ∷ h) ≡ Some value
  held_on n h value leaves e =
      let k : Holds heading trust kind level place h value = b.held.sound kind level place h value e in
      b.held.complete kind level place (n ∷ h) value (record {
        since = n ∷ k.since;
        last_write = record {
          pe = k.last_write.pe;
          write = k.last_write.write;
          older = k.last_write.older;
          split = ap (λ (xs : List Noted). n ∷ xs) k.last_write.split;
          wrote = k.last_write.wrote;
          valid = k.last_write.valid;
          last = λ q v x after before i is. last k q v x after before i is;
          no_init = λ q x after before i is. no_init k q x after before i is;
        };
        p = k.p;
        is_pe = k.is_pe;
        uncleansed = λ c. k.uncleansed (cleansed_before heading trust place k.p n k.since leaves.no_dsb c);
        unemptied = not_now k;
      })
    where
      not_now : Holds heading trust kind level place h value → emptied heading trust kind level place (n ∷ h) ≡ false
      not_now k =
          false_from_ne_true (emptied heading trust kind level place (n ∷ h)) (λ e.
          elim (b.held.emptied_step kind level place n h e) [
            | inl before ↦ true≢false (sym before ∙ k.unemptied)
            | inr now ↦ leaves.no_dsb (now.0, now.1, now.2)
          ])

      last : (k : Holds heading trust kind level place h value) (q v : ℕ) (x : Noted) (after before : List Noted)
          → n ∷ k.since ≡ after ++ x ∷ before → x.event ≡ Write q place v → is_valid kind level v ≡ false
      last k q v x [] before i is = let first : n ≡ x = cc in leaves.no_write q v (ap (λ (y : Noted). y.event) first ∙ is)
      last k q v x (y ∷ after) before i is = let rest : k.since ≡ after ++ x ∷ before = cc in k.last_write.last q v x after before rest is

      no_init : (k : Holds heading trust kind level place h value) (q : ℕ) (x : Noted) (after before : List Noted)
          → n ∷ k.since ≡ after ++ x ∷ before → x.event ≡ Init q (page_of place) → ⊥
      no_init k q x [] before i is = let first : n ≡ x = cc in leaves.no_init q (ap (λ (y : Noted). y.event) first ∙ is)
      no_init k q x (y ∷ after) before i is = let rest : k.since ≡ after ++ x ∷ before = cc in k.last_write.no_init q x after before rest is

  pub held_same : (n : Noted) (h : List Noted) → Leaves n.event
      → held heading trust kind level place (n ∷ h) ≡ held heading trust kind level place h
  held_same n h leaves =
      by (held heading trust kind level place (n ∷ h)) (held heading trust kind level place h) refl refl
    where
      by : (after before : Option ℕ) → held heading trust kind level place (n ∷ h) ≡ after
          → held heading trust kind level place h ≡ before
          → held heading trust kind level place (n ∷ h) ≡ held heading trust kind level place h
      by after (Some v) a k = held_on n h v leaves k ∙ sym k
      by None None a k = a ∙ sym k
      by (Some v) None a k =
          elim (held_back n h v a) [
            | inl old ↦ let none : None ≡ Some v = sym k ∙ old in cc
            | inr w ↦ absurd (true≢false (sym (held_valid (n ∷ h) v a) ∙ leaves.no_write w.0 v w.1))
          ]

  pub held_after_dsb : (n : Noted) (h : List Noted) → IsDsb n.event
      → (held heading trust kind level place (n ∷ h) ≡ held heading trust kind level place h)
      ⊎ (held heading trust kind level place (n ∷ h) ≡ None)
  held_after_dsb n h dsb = by (held heading trust kind level place (n ∷ h)) refl
    where
      by : (after : Option ℕ) → held heading trust kind level place (n ∷ h) ≡ after
          → (held heading trust kind level place (n ∷ h) ≡ held heading trust kind level place h)
          ⊎ (held heading trust kind level place (n ∷ h) ≡ None)
      by None a = inr a
      by (Some v) a =
          elim (held_back n h v a) [
            | inl old ↦ inl (a ∙ sym old)
            | inr w ↦ let apart : Dsb dsb.0 dsb.1 ≡ Write w.0 place v = sym dsb.2 ∙ w.1 in cc
          ]

-- ---- the rules

module _ (heading : Heading) (trust : Trust) (h : List Noted) where
  -- a write at a place that holds a value has the same core
  pub same_core : (p : Node) (pe at value old : ℕ) → Unbroken heading trust h (Write pe at value)
      → node_of heading trust h (page_of at) ≡ Some p → held_at heading trust h p at ≡ Some old
      → needs p.kind p.level old value ≡ false
  same_core p pe at value old kept node holds =
      if_none (needs p.kind p.level old value) at
      (subst (λ (o : Option ℕ). option_and_then over o ≡ None) holds
      (subst (λ (o : Option Node). option_and_then over_node o ≡ None) node (kept BreakBeforeMake refl)))
    where
      over : ℕ → Option ℕ
      over v = if_so (needs p.kind p.level v value) at

      over_node : Node → Option ℕ
      over_node q = option_and_then (λ v. if_so (needs q.kind q.level v value) at) (held_at heading trust h q at)

  -- an init names no page of a tree, and no null page
  pub init_outside : (pe page : ℕ) → Unbroken heading trust h (Init pe page)
      → (in_tree heading trust h page ≡ false) × (is_null (events_of h) page ≡ false)
  init_outside pe page kept =
      or_parts (in_tree heading trust h page) (is_null (events_of h) page)
      (if_none (in_tree heading trust h page || is_null (events_of h) page) page (kept PageInUse refl))

module _ (heading : Heading) (trust : Trust) (b : Below heading trust) (h : List Noted) where
  -- What a place of a tree holds changes by a valid write of it, or by a DSB.
  pub held_change : (n : Node) (place : ℕ) (e : Event) → 0 < heading.pes → Unbroken heading trust h e
      → in_tree heading trust h (page_of place) ≡ true → node_of heading trust h (page_of place) ≡ Some n
      → HeldChange n.kind n.level place e (held_at heading trust h n place)
      (held_at heading trust (note heading trust h e ∷ h) n place)
  held_change n place (Write pe at value) pes kept tracked node = by (at == place) (is_valid n.kind n.level value) refl refl
    where
      x : Noted
      x = note heading trust h (Write pe at value)

      no_dsb : IsDsb (Write pe at value) → ⊥
      no_dsb k = let apart : Write pe at value ≡ Dsb k.0 k.1 = k.2 in cc

      no_init : (q : ℕ) → Write pe at value ≡ Init q (page_of place) → ⊥
      no_init q k = cc

      by : (c v : Bool) → (at == place) ≡ c → is_valid n.kind n.level value ≡ v
          → HeldChange n.kind n.level place (Write pe at value) (held_at heading trust h n place) (held_at heading trust (x ∷ h) n place)
      by true true c v =
          let same : at ≡ place = eqb-true at place c in
          let present : value_of (Write pe at value ∷ events_of h) place ≡ value
          = ap (λ (t : Bool). cond t value (value_of (events_of h) place)) c in
          inr (inl (
            pe,
            value,
            ap (λ (y : ℕ). Write pe y value) same,
            v,
            b.held.live n.kind n.level place (x ∷ h) pes
                (subst (λ (y : ℕ). is_valid n.kind n.level y ≡ true) (sym present) v)
                ∙ ap Some present,
            λ old holds. same_core heading trust h n pe at value old kept
                (ap (λ (y : ℕ). node_of heading trust h (page_of y)) same ∙ node)
                (ap (λ (y : ℕ). held_at heading trust h n y) same ∙ holds),
          ))
      by true false c v = inl (held_same heading trust b n.kind n.level place x h (record {
        no_write = λ q u is. let both : value ≡ u = cc in subst (λ (y : ℕ). is_valid n.kind n.level y ≡ false) both v;
        no_init = no_init;
        no_dsb = no_dsb;
      }))
      by false v c k = inl (held_same heading trust b n.kind n.level place x h (record {
        no_write = λ q u is. let both : at ≡ place = cc in absurd (true≢false (sym (eq-eqb at place both) ∙ c));
        no_init = no_init;
        no_dsb = no_dsb;
      }))
  held_change n place (Init pe page) pes kept tracked node =
      inl (held_same heading trust b n.kind n.level place (note heading trust h (Init pe page)) h (record {
        no_write = λ q u is. let apart : Init pe page ≡ Write q place u = is in cc;
        no_init = λ q is. let same : page ≡ page_of place = cc in
            true≢false (sym (ap (in_tree heading trust h) same ∙ tracked) ∙ (init_outside heading trust h pe page kept).0);
        no_dsb = λ k. let apart : Init pe page ≡ Dsb k.0 k.1 = k.2 in cc;
      }))
  held_change n place (Dsb pe dsb) pes kept tracked node =
      elim (held_after_dsb heading trust b n.kind n.level place (note heading trust h (Dsb pe dsb)) h (pe, dsb, refl)) [
        | inl same ↦ inl same
        | inr none ↦ inr (inr (pe, dsb, refl, none))
      ]
  held_change n place e pes kept tracked node =
      inl (held_same heading trust b n.kind n.level place (note heading trust h e) h (record {
        no_write = λ q u is. let apart : e ≡ Write q place u = is in cc;
        no_init = λ q is. let apart : e ≡ Init q (page_of place) = is in cc;
        no_dsb = λ k. let apart : e ≡ Dsb k.0 k.1 = k.2 in cc;
      }))
