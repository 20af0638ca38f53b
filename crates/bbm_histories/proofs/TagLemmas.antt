-- When tags are readable, and which root holds them.
use Rattle.bbm_histories.proofs.Common.{append_assoc, Heading, Kind, PageInUse, WrongWorld, Below, Proper}
use Rattle.bbm_rules.proofs.Common.{◌≡◌, ℕ, ◌<◌, ◌⊎◌, ◌&&◌, ◌||◌, not, Bool, true, false, cond, ◌==◌, List, [], ◌∷◌}
use Rattle.bbm_rules.proofs.Common.{◌++◌, Option, Some, None, option_and_then, take, Contains, refl, sym, ◌∙◌, ap}
use Rattle.bbm_rules.proofs.Common.{subst, inl, inr, true≢false, and_parts, eq-eqb, eqb-true, not-false, or_cases}
use Rattle.bbm_rules.proofs.Common.{or_left, or_right, pe_finds, AsidFrom, FromTtbr0, FromTtbr1, Reg, Ttbr0El2}
use Rattle.bbm_rules.proofs.Common.{VttbrEl2, Ttbr0El1, Ttbr1El1, Tag, El2Tag, Vmid, Asid, Ttbr1Tag, World, Hyp, Kernel}
use Rattle.bbm_rules.proofs.Common.{Event, Init, Null, Root, Unroot, Dsb, Isb, Msr, keeps, Trust, note, noted, among}
use Rattle.bbm_rules.proofs.Common.{if_so, Noted, events_of, is_fresh, is_null, may_be_fresh, Issued, base_of}
use Rattle.bbm_rules.proofs.Common.{kind_of_reg, register_values, same_reg, Declared, is_root, kind_in_world, roots_of}
use Rattle.bbm_rules.proofs.Common.{IsDeclared, TakenAway, ReadsTag, ends, gives_up, holds_at, holds_tag, left_at}
use Rattle.bbm_rules.proofs.Common.{left_tag, loses, reads, in_tree, not-true, false_from_ne_true}
use Rattle.bbm_lemmas.proofs.Bools.{first_none}
use Rattle.bbm_lemmas.proofs.Words.{same_number}
use Rattle.bbm_rules.specs.Rules.{may_be_null}
use Rattle.bbm_rules.specs.RegisterValues.{Standing, standing_of, standings}
use Rattle.bbm_rules.proofs.Common.{contains_cases, contains_head, contains_more, contains_none}
use Rattle.bbm_rules.proofs.TagEndsLaw.{gives_up_is}
use Rattle.bbm_lemmas.proofs.Words.{pe_found}
use Rattle.bbm_rules.specs.declared.rule.Rule.TheVariants.{NoRoot, RootInUse, TagConflict}
use Rattle.bbm_rules.specs.TagSentences.{GivesAsid, Names}
use Rattle.bbm_histories.specs.TagSteps.{BecomesReadable, HeldBetween, KeptBetween, StopsToBeReadable, kind_of_tag}
use Rattle.bbm_histories.proofs.HeldSteps.{init_outside}
use Rattle.bbm_histories.proofs.Induction.{Unbroken, last_kept, throughout}
use Rattle.bbm_rules.proofs.RuleLemmas.{if_none}
use Rattle.bbm_histories.proofs.PatternLemmas.{later_split}
use Rattle.bbm_histories.proofs.RootLemmas.{declared_back, declared_on, not_retired}
use Rattle.bbm_histories.proofs.TreeSteps.{not_fresh_there, start_in_tree}

-- ---- PEs

-- ---- the values of registers

among_first : (value : ℕ) (values : List ℕ) → among value (take 1 values) ≡ true → among value values ≡ true
among_first value [] e = e
among_first value (v ∷ values) e =
    elim (or_cases (v == value) false e) [
      | inl here ↦ or_left (v == value) (among value values) here
      | inr none ↦ absurd (true≢false (sym none))
    ]

-- where the event is no register write of p and no ISB of it, its values stay
abbrev pub ChangesRegisters : ℕ → Event → Type 0
ChangesRegisters p e = ((reg : Reg) × (value : ℕ) × (e ≡ Msr p reg value)) ⊎ (e ≡ Isb p)

values_same : (e : Event) (h : List Event) (p : ℕ) (reg : Reg) → (ChangesRegisters p e → ⊥)
    → register_values (e ∷ h) p reg ≡ register_values h p reg
values_same (Msr pe r v) h p reg other = by (pe == p) refl
  where
    by : (c : Bool) → (pe == p) ≡ c → cond (c && same_reg r reg) (v ∷ register_values h p reg) (register_values h p reg) ≡ register_values h p reg
    by true c = absurd (other (inl (r, v, ap (λ (x : ℕ). Msr x r v) (eqb-true pe p c))))
    by false c = refl
values_same (Isb pe) h p reg other = by (pe == p) refl
  where
    by : (c : Bool) → (pe == p) ≡ c → cond c (take 1 (register_values h p reg)) (register_values h p reg) ≡ register_values h p reg
    by true c = absurd (other (inr (ap Isb (eqb-true pe p c))))
    by false c = refl
values_same e h p reg other = refl

-- a register write keeps the values
values_kept : (pe : ℕ) (r : Reg) (v : ℕ) (h : List Event) (p : ℕ) (reg : Reg) (value : ℕ) → among value (register_values h p reg) ≡ true
    → among value (register_values (Msr pe r v ∷ h) p reg) ≡ true
values_kept pe r v h p reg value e = by (pe == p && same_reg r reg)
  where
    by : (c : Bool) → among value (cond c (v ∷ register_values h p reg) (register_values h p reg)) ≡ true
    by true = or_right (v == value) (among value (register_values h p reg)) e
    by false = e

-- an ISB adds none
values_left : (pe : ℕ) (h : List Event) (p : ℕ) (reg : Reg) (value : ℕ) → among value (register_values (Isb pe ∷ h) p reg) ≡ true
    → among value (register_values h p reg) ≡ true
values_left pe h p reg value e = by (pe == p) e
  where
    by : (c : Bool) → among value (cond c (take 1 (register_values h p reg)) (register_values h p reg)) ≡ true
        → among value (register_values h p reg) ≡ true
    by true k = among_first value (register_values h p reg) k
    by false k = k

-- ---- readable tags

-- ---- standings

-- where the event is no register write of p and no ISB of it, its standings stay
standings_same : (e : Event) (h : List Event) (p : ℕ) → (ChangesRegisters p e → ⊥) → standings (e ∷ h) p ≡ standings h p
standings_same (Msr pe r v) h p other = by (pe == p) refl
  where
    by : (c : Bool) → (pe == p) ≡ c → cond c (standing_of (Msr pe r v ∷ h) p ∷ standings h p) (standings h p) ≡ standings h p
    by true c = absurd (other (inl (r, v, ap (λ (x : ℕ). Msr x r v) (eqb-true pe p c))))
    by false c = refl
standings_same (Isb pe) h p other = by (pe == p) refl
  where
    by : (c : Bool) → (pe == p) ≡ c → cond c (take 1 (standings h p)) (standings h p) ≡ standings h p
    by true c = absurd (other (inr (ap Isb (eqb-true pe p c))))
    by false c = refl
standings_same e h p other = refl

-- a register write keeps them
standings_kept : (pe : ℕ) (r : Reg) (v : ℕ) (h : List Event) (p : ℕ) (s : Standing) → Contains (standings h p) s
    → Contains (standings (Msr pe r v ∷ h) p) s
standings_kept pe r v h p s i = by (pe == p)
  where
    by : (c : Bool) → Contains (cond c (standing_of (Msr pe r v ∷ h) p ∷ standings h p) (standings h p)) s
    by true = contains_more (standings h p) (standing_of (Msr pe r v ∷ h) p) s i
    by false = i

-- an ISB adds none
contains_first : (ss : List Standing) (s : Standing) → Contains (take 1 ss) s → Contains ss s
contains_first [] s i = i
contains_first (x ∷ ss) s i =
    elim (contains_cases [] x s i) [
      | inl e ↦ subst (λ (y : Standing). Contains (x ∷ ss) y) e (contains_head ss x)
      | inr j ↦ absurd (contains_none s j)
    ]

standings_left : (pe : ℕ) (h : List Event) (p : ℕ) (s : Standing) → Contains (standings (Isb pe ∷ h) p) s → Contains (standings h p) s
standings_left pe h p s i = by (pe == p) i
  where
    by : (c : Bool) → Contains (cond c (take 1 (standings h p)) (standings h p)) s → Contains (standings h p) s
    by true k = contains_first (standings h p) s k
    by false k = k

-- what reads by the registers of one history reads by those of another
reads_on : (order : Bool) (world : World) (h h' : List Event) (p root : ℕ) → ((reg : Reg) (value : ℕ) → Names h p reg root value → Names h' p reg root value)
    → ((value : ℕ) → among value (register_values h p Ttbr1El1) ≡ true → among value (register_values h' p Ttbr1El1) ≡ true)
    → ((s : Standing) → Contains (standings h p) s → Contains (standings h' p) s)
    → (tag : Tag) → ReadsTag order world h p tag root → ReadsTag order world h' p tag root
reads_on order (Hyp world) h h' p root names values stands El2Tag k = (k.0, names Ttbr0El2 k.0 k.1)
reads_on order (Hyp world) h h' p root names values stands (Vmid vmid) k = (k.0, names VttbrEl2 k.0 k.1, k.2)
reads_on order (Kernel world) h h' p root names values stands (Asid asid) k =
    (k.0, k.1, names Ttbr0El1 k.0 k.2, asid_on order world.asid_from k.0 k.1 k.3, k.4)
  where
    asid_on : (order : Bool) (from : AsidFrom) (value number : ℕ) → GivesAsid order from h p value number → GivesAsid order from h' p value number
    asid_on order FromTtbr0 value number e = e
    asid_on true FromTtbr1 value number e = stands (record { first = value; second = number }) e
    asid_on false FromTtbr1 value number e = values number e
reads_on order (Kernel world) h h' p root names values stands Ttbr1Tag k = (k.0, names Ttbr1El1 k.0 k.1)
reads_on order world h h' p root names values stands tag k = absurd k

-- the root is a declared one of the tag's kind
reads_declared : (order : Bool) (world : World) (h : List Event) (p root : ℕ) (tag : Tag) → ReadsTag order world h p tag root
    → is_root h (kind_of_tag tag) root ≡ true
reads_declared order (Hyp world) h p root El2Tag k = k.1.declared
reads_declared order (Hyp world) h p root (Vmid vmid) k = k.1.declared
reads_declared order (Kernel world) h p root (Asid asid) k = k.2.declared
reads_declared order (Kernel world) h p root Ttbr1Tag k = k.1.declared
reads_declared order world h p root tag k = absurd k

module _ (heading : Heading) (trust : Trust) (b : Below heading trust) where
  -- ---- null pages

  null_step : (h : List Noted) (e : Event) → Unbroken heading trust h e
      → ((page : ℕ) → is_null (events_of h) page ≡ true → is_fresh heading trust h page ≡ false)
      → (page : ℕ) → is_null (e ∷ events_of h) page ≡ true
      → (may_be_fresh e page (is_fresh heading trust h page)) ≡ false
  null_step h (Null pe at) kept before page n = by (at == page) n
    where
      by : (c : Bool) → (c || is_null (events_of h) page) ≡ true → (not c && is_fresh heading trust h page) ≡ false
      by true k = refl
      by false k = before page k
  null_step h (Init pe at) kept before page n = by (at == page) refl
    where
      by : (c : Bool) → (at == page) ≡ c → (c || is_fresh heading trust h page) ≡ false
      by true c = absurd (true≢false (sym n ∙ (ap (is_null (events_of h)) (sym (eqb-true at page c)) ∙ (init_outside heading trust h pe at kept).1)))
      by false c = before page n
  null_step h e kept before page n = before page n

  pub null_not_fresh : (h : List Event) → keeps heading trust h ≡ true
      → (page : ℕ) → is_null (events_of (noted heading trust h)) page ≡ true → is_fresh heading trust (noted heading trust h) page ≡ false
  null_not_fresh h kept =
      throughout heading trust b (λ ns. (page : ℕ) → is_null (events_of ns) page ≡ true → is_fresh heading trust ns page ≡ false)
      (λ page n. absurd (true≢false (sym n)))
      (λ older e before_kept rule before page n.
      ap (λ (c : Bool). c && not (in_tree heading trust (note heading trust (noted heading trust older) e ∷ noted heading trust older) page))
      (null_step (noted heading trust older) e rule before page n)) h kept

  -- ---- declared roots

  -- a property of a history is one of the events of its notes
  pub noted_too : (P : List Event → Type 0) (h : List Event) → P h → P (events_of (noted heading trust h))
  noted_too P h k = subst P (sym (b.notes_keep_the_events h)) k

  of_world : (h : List Event) (r : Declared) → keeps heading trust h ≡ true → IsDeclared h r → kind_in_world heading.world r.kind ≡ true
  of_world h r kept d =
      not-false (kind_in_world heading.world r.kind)
      (if_none (not (kind_in_world heading.world r.kind)) 0
      (b.each_rule.sound h d.newer d.older (Root d.pe r.kind r.lock r.page) kept d.split WrongWorld))

  -- the first page of a declared root is in a tree, so it isn't fresh
  pub root_not_fresh : Proper heading → (h : List Event) (r : Declared) → keeps heading trust h ≡ true → IsDeclared h r
      → is_fresh heading trust (noted heading trust h) r.page ≡ true → ⊥
  root_not_fresh proper h r kept d fresh =
      let m = b.root_pages.each r r.page
      (b.root_pages.named r.kind r.page (of_world h r kept d) (proper.some_page r.kind)) in
      let fields = b.root_pages.fields r m.0 m.1 in
      not_fresh_there heading trust b (noted heading trust h) m.0 r.page
      (start_in_tree heading trust b (noted heading trust h) r m.0
      (noted_too (λ (es : List Event). Contains (roots_of es) r) h (b.root.complete h r d)) m.1
      (subst (λ (x : ℕ). x < 4) (sym fields.1) (proper.start r.kind))) m.2 fresh

  -- the first page that a `root` names is fresh
  pub planted_fresh : Proper heading → (h : List Event) (pe : ℕ) (kind : Kind) (lock : Option ℕ) (page : ℕ)
      → Unbroken heading trust (noted heading trust h) (Root pe kind lock page) → is_fresh heading trust (noted heading trust h) page ≡ true
  planted_fresh proper h pe kind lock page kept =
      b.attaching.rooted (noted heading trust h) pe kind lock page page (kept PageInUse refl)
      (b.root_pages.named kind page (not-false (kind_in_world heading.world kind)
      (if_none (not (kind_in_world heading.world kind)) 0 (kept WrongWorld refl)))
      (proper.some_page kind))

  -- a declared root stays, unless the event retires it
  pub root_on : Proper heading → (h : List Event) (e : Event) (kind : Kind) (root : ℕ) → keeps heading trust h ≡ true
      → Unbroken heading trust (noted heading trust h) e → ((q : ℕ) → e ≡ Unroot q root → ⊥) → is_root h kind root ≡ true
      → is_root (e ∷ h) kind root ≡ true
  root_on proper h e kind root kept rule no_unroot k =
      let r = b.root.of_kind h kind root k in
      let d : IsDeclared (e ∷ h) r.0 = declared_on e h r.0 r.1
      (λ q c l is. root_not_fresh proper h r.0 kept r.1
      (planted_fresh proper h q c l r.0.page (subst (λ (x : Event). Unbroken heading trust (noted heading trust h) x) is rule)))
      (λ q is. no_unroot q (is ∙ ap (Unroot q) r.2)) in
      subst (λ (x : ℕ). is_root (e ∷ h) kind x ≡ true) r.2
      (subst (λ (x : Kind). is_root (e ∷ h) x r.0.page ≡ true) r.3 (b.root.is_of_kind (e ∷ h) r.0 d))

  -- a root that is no new one was there before
  pub root_back : (h : List Event) (e : Event) (kind : Kind) (root : ℕ) → is_root (e ∷ h) kind root ≡ true
      → (is_root h kind root ≡ true) ⊎ ((q : ℕ) × (lock : Option ℕ) × (e ≡ Root q kind lock root))
  root_back h e kind root k =
      let r = b.root.of_kind (e ∷ h) kind root k in
      elim (declared_back e h r.0 r.1) [
        | inl old ↦ inl (subst (λ (x : ℕ). is_root h kind x ≡ true) r.2
            (subst (λ (x : Kind). is_root h x r.0.page ≡ true) r.3 (b.root.is_of_kind h r.0 old)))
        | inr new ↦ inr (
          new.0,
          r.0.lock,
          new.1 ∙ (ap (λ (x : Kind). Root new.0 x r.0.lock r.0.page) r.3
              ∙ ap (λ (x : ℕ). Root new.0 kind r.0.lock x) r.2),
        )
      ]

  -- an `unroot` names no root that a register of a PE names
  pub unroot_misses : (h : List Event) (e : Event) (p : ℕ) (reg : Reg) (value base : ℕ) → Unbroken heading trust (noted heading trust h) e → p < heading.pes
      → among value (register_values h p reg) ≡ true → base_of value ≡ Some base → (q : ℕ) → e ≡ Unroot q base → ⊥
  unroot_misses h e p reg value base rule is_pe readable names q is =
      let kept : Unbroken heading trust (noted heading trust h) (Unroot q base)
      = subst (λ (x : Event). Unbroken heading trust (noted heading trust h) x) is rule in
      b.tag_rules.no_base (noted heading trust h) q base p reg value (kept RootInUse refl) (kept NoRoot refl) is_pe
      (noted_too (λ (es : List Event). among value (register_values es p reg) ≡ true) h readable) names

  -- ---- what registers name

  -- the base of a readable value is a declared root of the register's kind, or a null page
  abbrev pub Named : List Event → ℕ → Reg → ℕ → Type 0
  Named h p reg base = (is_root h (kind_of_reg reg) base ≡ true) ⊎ (is_null h base ≡ true)

  named_by_write : (h : List Event) (pe : ℕ) (reg : Reg) (value base : ℕ) → Unbroken heading trust (noted heading trust h) (Msr pe reg value)
      → base_of value ≡ Some base → Named (events_of (noted heading trust h)) pe reg base
  named_by_write h pe reg value base rule e =
      by (is_root hs (kind_of_reg reg) base) (may_be_null heading trust (noted heading trust h) reg) (is_null hs base) refl refl
      (not-false (is_root hs (kind_of_reg reg) base || (may_be_null heading trust (noted heading trust h) reg && is_null hs base))
      (if_none (not (is_root hs (kind_of_reg reg) base || (may_be_null heading trust (noted heading trust h) reg && is_null hs base))) base
      (subst (λ (o : Option ℕ). option_and_then (λ x. if_so (not (is_root (events_of (noted heading trust h)) (kind_of_reg reg) x
      || (may_be_null heading trust (noted heading trust h) reg && is_null (events_of (noted heading trust h)) x))) x) o ≡ None) e (rule NoRoot refl))))
    where
      hs : List Event
      hs = events_of (noted heading trust h)

      by : (r s n : Bool) → is_root (events_of (noted heading trust h)) (kind_of_reg reg) base ≡ r → is_null (events_of (noted heading trust h)) base ≡ n
          → (r || (s && n)) ≡ true → Named (events_of (noted heading trust h)) pe reg base
      by true s n r k e = inl r
      by false true true r k e = inr k
      by false true false r k e = absurd (true≢false (sym e))
      by false false n r k e = absurd (true≢false (sym e))

  named_step : Proper heading → (h : List Event) (e : Event) → keeps heading trust h ≡ true → Unbroken heading trust (noted heading trust h) e
      → (p : ℕ) → p < heading.pes → ((reg : Reg) (value base : ℕ) → among value (register_values h p reg) ≡ true
      → base_of value ≡ Some base → Named h p reg base)
      → (reg : Reg) (value base : ℕ) → among value (register_values (e ∷ h) p reg) ≡ true → base_of value ≡ Some base
      → Named (e ∷ h) p reg base
  named_step proper h (Msr pe r v) kept rule p is_pe before reg value base readable names =
      by (pe == p && same_reg r reg) refl readable
    where
      by : (c : Bool) → (pe == p && same_reg r reg) ≡ c
          → among value (cond c (v ∷ register_values h p reg) (register_values h p reg)) ≡ true → Named (Msr pe r v ∷ h) p reg base
      by false c k = before reg value base k names
      by true c k =
          elim (or_cases (v == value) (among value (register_values h p reg)) k) [
            | inr old ↦ before reg value base old names
            | inl new ↦
                let parts = and_parts (pe == p) (same_reg r reg) c in
                let same : r ≡ reg = (b.equality_tests.registers r reg).0 parts.1 in
                subst (λ (x : Reg). Named h p x base) same
                (subst (λ (es : List Event). Named es p r base) (b.notes_keep_the_events h)
                (named_by_write h pe r v base rule (ap base_of (eqb-true v value new) ∙ names)))
          ]
  named_step proper h (Isb pe) kept rule p is_pe before reg value base readable names =
      before reg value base (values_left pe h p reg value readable) names
  named_step proper h (Null pe at) kept rule p is_pe before reg value base readable names =
      elim (before reg value base readable names) [
        | inl root ↦ inl root
        | inr null ↦ inr (or_right (at == base) (is_null h base) null)
      ]
  named_step proper h (Root pe kind lock page) kept rule p is_pe before reg value base readable names =
      elim (before reg value base readable names) [
        | inl root ↦ inl (root_on proper h (Root pe kind lock page) (kind_of_reg reg) base kept rule (λ q is. cc) root)
        | inr null ↦ inr null
      ]
  named_step proper h (Unroot pe page) kept rule p is_pe before reg value base readable names =
      elim (before reg value base readable names) [
        | inl root ↦ inl (root_on proper h (Unroot pe page) (kind_of_reg reg) base kept rule
            (unroot_misses h (Unroot pe page) p reg value base rule is_pe readable names) root)
        | inr null ↦ inr null
      ]
  named_step proper h e kept rule p is_pe before reg value base readable names = before reg value base readable names

  pub named : Proper heading → (h : List Event) → keeps heading trust h ≡ true → (p : ℕ) → p < heading.pes
      → (reg : Reg) (value base : ℕ) → among value (register_values h p reg) ≡ true → base_of value ≡ Some base → Named h p reg base
  named proper [] kept p is_pe reg value base readable names =
      elim (or_cases (0 == value) false readable) [
        | inl nought ↦ let none : base_of 0 ≡ Some base = ap base_of (eqb-true 0 value nought) ∙ names in cc
        | inr never ↦ absurd (true≢false (sym never))
      ]
  named proper (e ∷ h) kept p is_pe reg value base readable names =
      let parts = last_kept heading trust b h e kept in
      named_step proper h e parts.0 parts.1 p is_pe (named proper h parts.0 p is_pe) reg value base readable names

  -- ---- when a tag is readable

  -- where p's registers have the same values, what they name after the event they named before
  names_back : Proper heading → (h : List Event) (e : Event) → keeps heading trust h ≡ true → Unbroken heading trust (noted heading trust h) e
      → (p : ℕ) → p < heading.pes → ((reg : Reg) (value : ℕ) → among value (register_values (e ∷ h) p reg) ≡ true
      → among value (register_values h p reg) ≡ true) → (root : ℕ) (reg : Reg) (value : ℕ)
      → Names (e ∷ h) p reg root value → Names h p reg root value
  names_back proper h e kept rule p is_pe values root reg value k = record {
    readable = values reg value k.readable;
    base = k.base;
    declared = by (root_back h e (kind_of_reg reg) root k.declared);
  }
    where
      by : (is_root h (kind_of_reg reg) root ≡ true) ⊎ ((q : ℕ) × (lock : Option ℕ) × (e ≡ Root q (kind_of_reg reg) lock root))
          → is_root h (kind_of_reg reg) root ≡ true
      by (inl old) = old
      by (inr new) =
          elim (named proper h kept p is_pe reg value root (values reg value k.readable) k.base) [
            | inl old ↦ old
            | inr null ↦ absurd (true≢false (sym (planted_fresh proper h new.0 (kind_of_reg reg) new.1 root
                (subst (λ (x : Event). Unbroken heading trust (noted heading trust h) x) new.2 rule))
                ∙ null_not_fresh h kept root (noted_too (λ (es : List Event). is_null es root ≡ true) h null)))
          ]

  -- and the other way
  names_on : Proper heading → (h : List Event) (e : Event) → keeps heading trust h ≡ true → Unbroken heading trust (noted heading trust h) e
      → (p : ℕ) → p < heading.pes → ((reg : Reg) (value : ℕ) → among value (register_values h p reg) ≡ true
      → among value (register_values (e ∷ h) p reg) ≡ true) → (root : ℕ) (reg : Reg) (value : ℕ)
      → Names h p reg root value → Names (e ∷ h) p reg root value
  names_on proper h e kept rule p is_pe values root reg value k = record {
    readable = values reg value k.readable;
    base = k.base;
    declared = root_on proper h e (kind_of_reg reg) root kept rule
        (unroot_misses h e p reg value root rule is_pe k.readable k.base) k.declared;
  }

  reads_back : Proper heading → (h : List Event) (e : Event) → keeps heading trust h ≡ true → Unbroken heading trust (noted heading trust h) e
      → (p : ℕ) → p < heading.pes → ((reg : Reg) (value : ℕ) → among value (register_values (e ∷ h) p reg) ≡ true
      → among value (register_values h p reg) ≡ true) → ((s : Standing) → Contains (standings (e ∷ h) p) s → Contains (standings h p) s)
      → (root : ℕ) (tag : Tag) → reads heading (e ∷ h) p tag root ≡ true
      → reads heading h p tag root ≡ true
  reads_back proper h e kept rule p is_pe values stands root tag k =
      b.readable_tag.complete h p tag root (reads_on heading.words.inorder heading.world (e ∷ h) h p root
      (names_back proper h e kept rule p is_pe values root) (values Ttbr1El1) stands tag
      (b.readable_tag.sound (e ∷ h) p tag root k))

  reads_after : Proper heading → (h : List Event) (e : Event) → keeps heading trust h ≡ true → Unbroken heading trust (noted heading trust h) e
      → (p : ℕ) → p < heading.pes → ((reg : Reg) (value : ℕ) → among value (register_values h p reg) ≡ true
      → among value (register_values (e ∷ h) p reg) ≡ true) → ((s : Standing) → Contains (standings h p) s → Contains (standings (e ∷ h) p) s)
      → (root : ℕ) (tag : Tag) → reads heading h p tag root ≡ true
      → reads heading (e ∷ h) p tag root ≡ true
  reads_after proper h e kept rule p is_pe values stands root tag k =
      b.readable_tag.complete (e ∷ h) p tag root (reads_on heading.words.inorder heading.world h (e ∷ h) p root
      (names_on proper h e kept rule p is_pe values root) (values Ttbr1El1) stands tag (b.readable_tag.sound h p tag root k))

  -- whether the event is a register write of p, an ISB of it, or neither
  data Kinds (p : ℕ) (e : Event) : Type 0 where
    write : (reg : Reg) (value : ℕ) → e ≡ Msr p reg value → Kinds p e
    sync : e ≡ Isb p → Kinds p e
    neither : (ChangesRegisters p e → ⊥) → Kinds p e

  kinds : (p : ℕ) (e : Event) → Kinds p e
  kinds p (Msr pe reg value) = by (pe == p) refl
    where
      by : (c : Bool) → (pe == p) ≡ c → Kinds p (Msr pe reg value)
      by true c = write reg value (ap (λ (x : ℕ). Msr x reg value) (eqb-true pe p c))
      by false c = neither (λ k. elim k [
        | inl w ↦ let same : Msr pe reg value ≡ Msr p w.0 w.1 = w.2 in
            let pes : pe ≡ p = cc in true≢false (sym (eq-eqb pe p pes) ∙ c)
        | inr s ↦ let apart : Msr pe reg value ≡ Isb p = s in cc
      ])
  kinds p (Isb pe) = by (pe == p) refl
    where
      by : (c : Bool) → (pe == p) ≡ c → Kinds p (Isb pe)
      by true c = sync (ap Isb (eqb-true pe p c))
      by false c = neither (λ k. elim k [
        | inl w ↦ let apart : Isb pe ≡ Msr p w.0 w.1 = w.2 in cc
        | inr s ↦ let same : Isb pe ≡ Isb p = s in let pes : pe ≡ p = cc in true≢false (sym (eq-eqb pe p pes) ∙ c)
      ])
  kinds p e = neither (λ k. elim k [
    | inl w ↦ let apart : e ≡ Msr p w.0 w.1 = w.2 in cc
    | inr s ↦ let apart : e ≡ Isb p = s in cc
  ])

  same_values : (h : List Event) (e : Event) (p : ℕ) → (ChangesRegisters p e → ⊥) → (reg : Reg) (value : ℕ)
      → among value (register_values (e ∷ h) p reg) ≡ among value (register_values h p reg)
  same_values h e p other reg value = ap (among value) (values_same e h p reg other)

  pub becomes : Proper heading → (h : List Event) (e : Event) → keeps heading trust (e ∷ h) ≡ true → BecomesReadable heading h e
  becomes proper h e kept p root tag is_pe now before = by (kinds p e)
    where
      clash : ((reg : Reg) (value : ℕ) → among value (register_values (e ∷ h) p reg) ≡ true
          → among value (register_values h p reg) ≡ true) → ((s : Standing) → Contains (standings (e ∷ h) p) s → Contains (standings h p) s) → ⊥
      clash values stands =
          let parts = last_kept heading trust b h e kept in
          true≢false (sym (reads_back proper h e parts.0 parts.1 p is_pe values stands root tag now) ∙ before)

      by : Kinds p e → (reg : Reg) × (value : ℕ) × (e ≡ Msr p reg value)
      by (write reg value is) = (reg, value, is)
      by (sync is) = absurd (clash (λ reg value k. values_left p h p reg value
          (subst (λ (x : Event). among value (register_values (x ∷ h) p reg) ≡ true) is k))
          (λ s i. standings_left p h p s (subst (λ (x : Event). Contains (standings (x ∷ h) p) s) is i)))
      by (neither other) = absurd (clash (λ reg value k. sym (same_values h e p other reg value) ∙ k)
          (λ s i. subst (λ (ss : List Standing). Contains ss s) (standings_same e h p other) i))

  pub stops : Proper heading → (h : List Event) (e : Event) → keeps heading trust (e ∷ h) ≡ true → StopsToBeReadable heading h e
  stops proper h e kept p root tag is_pe before now = by (kinds p e)
    where
      clash : ((reg : Reg) (value : ℕ) → among value (register_values h p reg) ≡ true
          → among value (register_values (e ∷ h) p reg) ≡ true) → ((s : Standing) → Contains (standings h p) s → Contains (standings (e ∷ h) p) s) → ⊥
      clash values stands =
          let parts = last_kept heading trust b h e kept in
          true≢false (sym (reads_after proper h e parts.0 parts.1 p is_pe values stands root tag before) ∙ now)

      by : Kinds p e → e ≡ Isb p
      by (sync is) = is
      by (write r v is) = absurd (clash (λ reg value k.
          subst (λ (x : Event). among value (register_values (x ∷ h) p reg) ≡ true) (sym is) (values_kept p r v h p reg value k))
          (λ s i. subst (λ (x : Event). Contains (standings (x ∷ h) p) s) (sym is) (standings_kept p r v h p s i)))
      by (neither other) = absurd (clash (λ reg value k. same_values h e p other reg value ∙ k)
          (λ s i. subst (λ (ss : List Standing). Contains ss s) (sym (standings_same e h p other)) i))

  -- ---- which root holds a tag

  held_by_root : Proper heading → (h : List Event) → keeps heading trust h ≡ true → (p root : ℕ) (tag : Tag) → p < heading.pes
      → holds_at heading trust p root tag h ≡ true → is_root h (kind_of_tag tag) root ≡ true
  held_by_root proper [] kept p root tag is_pe k = absurd (true≢false (sym k))
  held_by_root proper (e ∷ h) kept p root tag is_pe k =
      let parts = last_kept heading trust b h e kept in
      elim (or_cases (reads heading (e ∷ h) p tag root) (holds_at heading trust p root tag h && not (ends heading trust p root tag e h)) k) [
        | inl read ↦ reads_declared heading.words.inorder heading.world (e ∷ h) p root tag (b.readable_tag.sound (e ∷ h) p tag root read)
        | inr held ↦
            let both = and_parts (holds_at heading trust p root tag h) (not (ends heading trust p root tag e h)) held in
            root_on proper h e (kind_of_tag tag) root parts.0 parts.1
            (λ q is. true≢false (sym (same_number root) ∙ (sym (ap (gives_up root) is)
            ∙ first_none (gives_up root e) (loses heading trust p tag e h) (not-true (ends heading trust p root tag e h) both.1))))
            (held_by_root proper h parts.0 p root tag is_pe both.0)
      ]

  pub holder_is_root : Proper heading → (h : List Event) → keeps heading trust h ≡ true → (root : ℕ) (tag : Tag)
      → holds_tag heading trust root tag h ≡ true → is_root h (kind_of_tag tag) root ≡ true
  holder_is_root proper h kept root tag k =
      let f = pe_found heading.pes (λ p. holds_at heading trust p root tag h) k in
      held_by_root proper h kept f.0 root tag f.1 f.2

  -- a root holds what is readable for it
  reads_hold : (h : List Event) (p root : ℕ) (tag : Tag) → reads heading h p tag root ≡ true → holds_at heading trust p root tag h ≡ true
  reads_hold [] p root tag k =
      absurd (true≢false (sym (reads_declared heading.words.inorder heading.world [] p root tag (b.readable_tag.sound [] p tag root k))))
  reads_hold (e ∷ h) p root tag k =
      or_left (reads heading (e ∷ h) p tag root) (holds_at heading trust p root tag h && not (ends heading trust p root tag e h)) k

  -- a root that holds a tag held it before, or the tag just became readable for it
  held_or_new : (h : List Event) (e : Event) (p root : ℕ) (tag : Tag) → holds_at heading trust p root tag (e ∷ h) ≡ true
      → (holds_at heading trust p root tag h ≡ true)
      ⊎ ((reads heading (e ∷ h) p tag root ≡ true) × (reads heading h p tag root ≡ false))
  held_or_new h e p root tag k =
      elim (or_cases (reads heading (e ∷ h) p tag root) (holds_at heading trust p root tag h && not (ends heading trust p root tag e h)) k) [
        | inl read ↦ by read (reads heading h p tag root) refl
        | inr held ↦ inl (and_parts (holds_at heading trust p root tag h) (not (ends heading trust p root tag e h)) held).0
      ]
    where
      by : reads heading (e ∷ h) p tag root ≡ true → (c : Bool) → reads heading h p tag root ≡ c
          → (holds_at heading trust p root tag h ≡ true)
          ⊎ ((reads heading (e ∷ h) p tag root ≡ true) × (reads heading h p tag root ≡ false))
      by read true c = inl (reads_hold h p root tag c)
      by read false c = inr (read, c)

  -- a tag that just became readable for a root is held by no other
  new_holder : Proper heading → (h : List Event) (e : Event) → keeps heading trust (e ∷ h) ≡ true → (p q r s : ℕ) (tag : Tag) → p < heading.pes
      → q < heading.pes → reads heading (e ∷ h) p tag r ≡ true → reads heading h p tag r ≡ false
      → holds_at heading trust q s tag (e ∷ h) ≡ true → s ≡ r
  new_holder proper h e kept p q r s tag is_pe is_pe' now before holds =
      let parts = last_kept heading trust b h e kept in
      let w = becomes proper h e kept p r tag is_pe now before in
      let root = b.root.of_kind (e ∷ h) (kind_of_tag tag) s (held_by_root proper (e ∷ h) kept q s tag is_pe' holds) in
      let rule : Unbroken heading trust (noted heading trust h) (Msr p w.0 w.1)
      = subst (λ (x : Event). Unbroken heading trust (noted heading trust h) x) w.2 parts.1 in
      let same : e ∷ h ≡ Msr p w.0 w.1 ∷ events_of (noted heading trust h)
      = ap (λ (x : Event). x ∷ h) w.2 ∙ ap (λ (es : List Event). Msr p w.0 w.1 ∷ es)
      (sym (b.notes_keep_the_events h)) in
      let some : holds_tag heading trust s tag (e ∷ h) ≡ true
      = pe_finds heading.pes (λ p. holds_at heading trust p s tag (e ∷ h)) q is_pe' holds in
      sym root.2
      ∙ b.tag_rules.one_holder (noted heading trust h) p w.0 w.1 tag r root.0 (rule TagConflict refl)
      (subst (λ (es : List Event). reads heading es p tag r ≡ true) same now)
      (subst (λ (es : List Event). Contains (roots_of es) root.0) same (b.root.complete (e ∷ h) root.0 root.1))
      (subst (λ (es : List Event). holds_tag heading trust root.0.page tag es ≡ true) same
      (subst (λ (x : ℕ). holds_tag heading trust x tag (e ∷ h) ≡ true) (sym root.2) some))

  one_at : Proper heading → (h : List Event) → keeps heading trust h ≡ true → (p q r s : ℕ) (tag : Tag) → p < heading.pes → q < heading.pes
      → holds_at heading trust p r tag h ≡ true → holds_at heading trust q s tag h ≡ true → r ≡ s
  one_at proper [] kept p q r s tag is_pe is_pe' k l = absurd (true≢false (sym k))
  one_at proper (e ∷ h) kept p q r s tag is_pe is_pe' k l =
      elim (held_or_new h e p r tag k) [
        | inr new ↦ sym (new_holder proper h e kept p q r s tag is_pe is_pe' new.0 new.1 l)
        | inl before ↦ elim (held_or_new h e q s tag l) [
          | inr new ↦ new_holder proper h e kept q p s r tag is_pe' is_pe new.0 new.1 k
          | inl before' ↦ one_at proper h (last_kept heading trust b h e kept).0 p q r s tag is_pe is_pe' before before'
        ]
      ]

  pub one_root : Proper heading → (h : List Event) → keeps heading trust h ≡ true → (r s : ℕ) (tag : Tag)
      → holds_tag heading trust r tag h ≡ true → holds_tag heading trust s tag h ≡ true → r ≡ s
  one_root proper h kept r s tag k l =
      let f = pe_found heading.pes (λ p. holds_at heading trust p r tag h) k in
      let g = pe_found heading.pes (λ p. holds_at heading trust p s tag h) l in
      one_at proper h kept f.0 g.0 r s tag f.1 g.1 f.2 g.2

  -- ---- what was left

  -- a tag that was left was so before the event, or the event gives its root up
  left_or_new : (h : List Event) (e : Event) (p page : ℕ) (tag : Tag) → left_at heading trust p page tag (e ∷ h) ≡ true
      → (left_at heading trust p page tag h ≡ true)
      ⊎ ((gives_up page e ≡ true) × (holds_at heading trust p page tag h ≡ true))
  left_or_new h e p page tag k =
      elim (or_cases (left_at heading trust p page tag h) (gives_up page e && holds_at heading trust p page tag h)
      (and_parts _ (not (loses heading trust p tag e h)) k).0) [
        | inl before ↦ inl before
        | inr new ↦ inr (and_parts (gives_up page e) (holds_at heading trust p page tag h) new)
      ]

  -- a root that holds a tag wasn't given up by the event, or the tag just became readable for it
  not_up : (h : List Event) (e : Event) (p root : ℕ) (tag : Tag) → holds_at heading trust p root tag (e ∷ h) ≡ true
      → (gives_up root e ≡ false) ⊎ (reads heading (e ∷ h) p tag root ≡ true)
  not_up h e p root tag k =
      elim (or_cases (reads heading (e ∷ h) p tag root) (holds_at heading trust p root tag h && not (ends heading trust p root tag e h)) k) [
        | inl read ↦ inr read
        | inr held ↦ inl (first_none (gives_up root e) (loses heading trust p tag e h)
            (not-true (ends heading trust p root tag e h) (and_parts (holds_at heading trust p root tag h) (not (ends heading trust p root tag e h)) held).1))
      ]

  -- what just became readable for a root was left by none
  new_unleft : Proper heading → (h : List Event) (e : Event) → keeps heading trust (e ∷ h) ≡ true → (p q r s : ℕ) (tag : Tag) → p < heading.pes
      → q < heading.pes → reads heading (e ∷ h) p tag r ≡ true → reads heading h p tag r ≡ false
      → left_at heading trust q s tag (e ∷ h) ≡ true → ⊥
  new_unleft proper h e kept p q r s tag is_pe is_pe' now before left =
      let parts = last_kept heading trust b h e kept in
      let w = becomes proper h e kept p r tag is_pe now before in
      let rule : Unbroken heading trust (noted heading trust h) (Msr p w.0 w.1)
      = subst (λ (x : Event). Unbroken heading trust (noted heading trust h) x) w.2 parts.1 in
      let same : e ∷ h ≡ Msr p w.0 w.1 ∷ events_of (noted heading trust h)
      = ap (λ (x : Event). x ∷ h) w.2 ∙ ap (λ (es : List Event). Msr p w.0 w.1 ∷ es)
      (sym (b.notes_keep_the_events h)) in
      let some : left_tag heading trust s tag (e ∷ h) ≡ true
      = pe_finds heading.pes (λ p. left_at heading trust p s tag (e ∷ h)) q is_pe' left in
      true≢false (sym (subst (λ (es : List Event). left_tag heading trust s tag es ≡ true) same some)
      ∙ b.tag_rules.none_left (noted heading trust h) p w.0 w.1 tag r s (rule TagConflict refl)
      (subst (λ (es : List Event). reads heading es p tag r ≡ true) same now))

  unleft : Proper heading → (h : List Event) → keeps heading trust h ≡ true → (p q r s : ℕ) (tag : Tag) → p < heading.pes → q < heading.pes
      → holds_at heading trust p r tag h ≡ true → left_at heading trust q s tag h ≡ true → ⊥
  unleft proper [] kept p q r s tag is_pe is_pe' k l = true≢false (sym k)
  unleft proper (e ∷ h) kept p q r s tag is_pe is_pe' k l =
      elim (held_or_new h e p r tag k) [
        | inr new ↦ new_unleft proper h e kept p q r s tag is_pe is_pe' new.0 new.1 l
        | inl before ↦ elim (left_or_new h e q s tag l) [
          | inl old ↦ unleft proper h (last_kept heading trust b h e kept).0 p q r s tag is_pe is_pe' before old
          | inr up ↦
              let same : r ≡ s
              = one_at proper h (last_kept heading trust b h e kept).0 p q r s tag is_pe is_pe' before up.1 in
              elim (not_up h e p r tag k) [
                | inl stays ↦ true≢false (sym up.0 ∙ (ap (λ (x : ℕ). gives_up x e) (sym same) ∙ stays))
                | inr read ↦ read_up proper h e kept p r tag is_pe read (ap (λ (x : ℕ). gives_up x e) same ∙ up.0)
              ]
        ]
      ]
    where
      -- nothing is readable for a root that the event gives up
      read_up : Proper heading → (h : List Event) (e : Event) → keeps heading trust (e ∷ h) ≡ true → (p r : ℕ) (tag : Tag) → p < heading.pes
          → reads heading (e ∷ h) p tag r ≡ true → gives_up r e ≡ true → ⊥
      read_up proper h (Unroot pe at) kept p r tag is_pe read up =
          let d = b.root.of_kind (Unroot pe at ∷ h) (kind_of_tag tag) r
          (reads_declared heading.words.inorder heading.world (Unroot pe at ∷ h) p r tag (b.readable_tag.sound (Unroot pe at ∷ h) p tag r read)) in
          not_retired (Unroot pe at) h d.0 d.1 pe (ap (Unroot pe) (eqb-true at r up ∙ sym d.2))
      read_up proper h e kept p r tag is_pe read up = absurd (true≢false (sym up))

  pub left_alone : Proper heading → (h : List Event) → keeps heading trust h ≡ true → (r s : ℕ) (tag : Tag)
      → holds_tag heading trust r tag h ≡ true → left_tag heading trust s tag h ≡ false
  left_alone proper h kept r s tag k = false_from_ne_true (left_tag heading trust s tag h) (λ l.
      let f = pe_found heading.pes (λ p. holds_at heading trust p r tag h) k in
      let g = pe_found heading.pes (λ p. left_at heading trust p s tag h) l in
      unleft proper h kept f.0 g.0 r s tag f.1 g.1 f.2 g.2)

  one_left_at : Proper heading → (h : List Event) → keeps heading trust h ≡ true → (p q r s : ℕ) (tag : Tag) → p < heading.pes → q < heading.pes
      → left_at heading trust p r tag h ≡ true → left_at heading trust q s tag h ≡ true → r ≡ s
  one_left_at proper [] kept p q r s tag is_pe is_pe' k l = absurd (true≢false (sym k))
  one_left_at proper (e ∷ h) kept p q r s tag is_pe is_pe' k l =
      let kept' = (last_kept heading trust b h e kept).0 in
      elim (left_or_new h e p r tag k) [
        | inl old ↦ elim (left_or_new h e q s tag l) [
          | inl old' ↦ one_left_at proper h kept' p q r s tag is_pe is_pe' old old'
          | inr up ↦ absurd (unleft proper h kept' q p s r tag is_pe' is_pe up.1 old)
        ]
        | inr up ↦ elim (left_or_new h e q s tag l) [
          | inl old' ↦ absurd (unleft proper h kept' p q r s tag is_pe is_pe' up.1 old')
          | inr up' ↦ one_at proper h kept' p q r s tag is_pe is_pe' up.1 up'.1
        ]
      ]

  pub one_left : Proper heading → (h : List Event) → keeps heading trust h ≡ true → (r s : ℕ) (tag : Tag)
      → left_tag heading trust r tag h ≡ true → left_tag heading trust s tag h ≡ true → r ≡ s
  one_left proper h kept r s tag k l =
      let f = pe_found heading.pes (λ p. left_at heading trust p r tag h) k in
      let g = pe_found heading.pes (λ p. left_at heading trust p s tag h) l in
      one_left_at proper h kept f.0 g.0 r s tag f.1 g.1 f.2 g.2

  -- without `unflushed` an `unroot` leaves nothing
  none_at : heading.words.unflushed ≡ false → (h : List Event) → keeps heading trust h ≡ true → (p s : ℕ) (tag : Tag) → p < heading.pes
      → left_at heading trust p s tag h ≡ true → ⊥
  none_at flushed [] kept p s tag is_pe k = true≢false (sym k)
  none_at flushed (e ∷ h) kept p s tag is_pe k =
      let parts = last_kept heading trust b h e kept in
      elim (left_or_new h e p s tag k) [
        | inl old ↦ none_at flushed h parts.0 p s tag is_pe old
        | inr up ↦
            let is = gives_up_is s e up.0 in
            let rule : Unbroken heading trust (noted heading trust h) (Unroot is.0 s)
            = subst (λ (x : Event). Unbroken heading trust (noted heading trust h) x) is.1 parts.1 in
            true≢false (sym (noted_too (λ (es : List Event). holds_tag heading trust s tag es ≡ true) h
            (pe_finds heading.pes (λ p. holds_at heading trust p s tag h) p is_pe up.1))
            ∙ b.tag_rules.no_tag flushed (noted heading trust h) is.0 s tag (rule RootInUse refl) (rule NoRoot refl))
      ]

  pub none_left : heading.words.unflushed ≡ false → (h : List Event) → keeps heading trust h ≡ true → (s : ℕ) (tag : Tag)
      → left_tag heading trust s tag h ≡ false
  none_left flushed h kept s tag = false_from_ne_true (left_tag heading trust s tag h) (λ l.
      let g = pe_found heading.pes (λ p. left_at heading trust p s tag h) l in
      none_at flushed h kept g.0 s tag g.1 g.2)

  -- ---- holding goes back

  taken_later : (p : ℕ) (tag : Tag) (after h : List Event) (t : Issued Event) → TakenAway heading trust p tag h t
      → TakenAway heading trust p tag (after ++ h) t
  taken_later p tag after h t k = record {
    q = k.q;
    dsb = k.dsb;
    later = after ++ k.later;
    earlier = k.earlier;
    split = later_split after h k.later k.earlier (Dsb k.q k.dsb) k.split;
    is_open = k.is_open;
    answered = k.answered;
    reached = k.reached;
    whole = k.whole;
    unread = k.unread;
    allowed = k.allowed;
  }

  -- a TLBI that hadn't taken the tag before the event takes it by the event
  pub taken_begins : (p : ℕ) (tag : Tag) (e : Event) (h : List Event) (t : Issued Event)
      → (k : TakenAway heading trust p tag (e ∷ h) t)
      → TakenAway heading trust p tag h t ⊎ ((e ≡ Dsb k.q k.dsb) × (k.earlier ≡ h))
  taken_begins p tag e h t k = by k.later k.split
    where
      by : (later : List Event) → e ∷ h ≡ later ++ Dsb k.q k.dsb ∷ k.earlier
          → TakenAway heading trust p tag h t ⊎ ((e ≡ Dsb k.q k.dsb) × (k.earlier ≡ h))
      by [] split =
          let first : e ≡ Dsb k.q k.dsb = cc in
          let rest : h ≡ k.earlier = cc in inr (first, sym rest)
      by (x ∷ later) split = inl (record {
        q = k.q;
        dsb = k.dsb;
        later = later;
        earlier = k.earlier;
        split = cc;
        is_open = k.is_open;
        answered = k.answered;
        reached = k.reached;
        whole = k.whole;
        unread = k.unread;
        allowed = k.allowed;
      })

  pub between : HeldBetween heading trust
  between p root tag h k after middle split =
      b.tag_held.complete p root tag (middle ++ k.kept.older) (record {
        kept = record {
          newer = middle;
          older = k.kept.older;
          split = refl;
          read = k.kept.read;
          not_taken = λ t taken. k.kept.not_taken t (subst (λ (es : List Event). TakenAway heading trust p tag es t) (sym whole)
              (taken_later p tag after (middle ++ k.kept.older) t taken));
        };
        not_given_up = λ q newer older s. k.not_given_up q (after ++ newer) older
            (split ∙ (ap (λ (es : List Event). after ++ es) s ∙ sym (append_assoc after newer (Unroot q root ∷ older))));
      })
    where
      whole : h ≡ after ++ (middle ++ k.kept.older)
      whole = k.kept.split ∙ (ap (λ (xs : List Event). xs ++ k.kept.older) split ∙ append_assoc after middle k.kept.older)

  pub kept_between : KeptBetween heading trust
  kept_between p page tag h k after middle split =
      b.tag_kept.complete p page tag (middle ++ k.older) (record {
        newer = middle;
        older = k.older;
        split = refl;
        read = k.read;
        not_taken = λ t taken. k.not_taken t (subst (λ (es : List Event). TakenAway heading trust p tag es t) (sym whole)
            (taken_later p tag after (middle ++ k.older) t taken));
      })
    where
      whole : h ≡ after ++ (middle ++ k.older)
      whole = k.split ∙ (ap (λ (xs : List Event). xs ++ k.older) split ∙ append_assoc after middle k.older)
