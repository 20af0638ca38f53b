-- A tag is readable exactly where the sentence says so; and what the rules on tags and roots say of a register write and
-- of an `unroot`.
use Rattle.bbm_rules.proofs.Common.{◌≡◌, ℕ, suc, ◌<◌, ◌&&◌, not, Bool, true, false, ◌==◌, nat_lt, List, [], ◌∷◌, length}
use Rattle.bbm_rules.proofs.Common.{Option, Some, None, is_none, option_and_then, Contains, filter, flat_map, refl, sym}
use Rattle.bbm_rules.proofs.Common.{◌∙◌, ap, subst, inl, inr, true≢false, arith, and_from, and_parts, eqb-true, lt-ltb}
use Rattle.bbm_rules.proofs.Common.{not_from_false, or_parts, AsidFrom, FromTtbr0, FromTtbr1, Reg, Ttbr0El2, VttbrEl2}
use Rattle.bbm_rules.proofs.Common.{Ttbr0El1, Ttbr1El1, Tag, El2Tag, Vmid, Asid, Ttbr1Tag, World, Hyp, Kernel, Event}
use Rattle.bbm_rules.proofs.Common.{In, any_finds, any_found, from_contains, in_append, in_left, in_map, in_right}
use Rattle.bbm_rules.proofs.Common.{none_of, to_filter, to_flat, Trust, same_tag, among, below, if_so, is_that}
use Rattle.bbm_rules.proofs.Common.{Noted, events_of, base_of, kind_of_reg, register_values, tag_number, Declared}
use Rattle.bbm_rules.proofs.Common.{is_root, root_at, roots_of, is_base_at, no_root, tag_conflict, ReadsTag, Reading}
use Rattle.bbm_rules.proofs.Common.{asid_readings, holds_tag, readings, readings_in, readings_of, reads, tag_set}
use Rattle.bbm_rules.proofs.Common.{tags_of}
use Rattle.bbm_regimes.specs.declared.regime.Reg.TheVariants as reg
use Rattle.bbm_events.specs.Heading.{Heading}
use Rattle.bbm_events.specs.declared.event.Event.TheVariants.{Msr, Unroot}
use Rattle.bbm_rules.proofs.SameRegister.{tag_equal, tag_self}
use Rattle.bbm_lemmas.proofs.Words.{among_in, in_below, same_number, in_among}
use Rattle.bbm_lemmas.proofs.Elements.{from_filter_map, from_flat, none_in, to_filter_map}
use Rattle.bbm_rules.proofs.ListLemmas.{least_none}
use Rattle.bbm_rules.proofs.TagSetLaw.{no_tag}
use Rattle.bbm_rules.specs.Rules.{holds_some_tag, is_loaded, is_used, leavers, other_holders, others, root_in_use}
use Rattle.bbm_rules.proofs.Common.{given_up, left_at, left_tag, to_contains}
use Rattle.bbm_rules.proofs.StandingLaw.{standing_readable}
use Rattle.bbm_rules.specs.RegisterValues.{standings}
use Rattle.bbm_rules.proofs.TagEndsLaw.{left_in_given_up}
use Rattle.bbm_lemmas.proofs.Bools.{second_false}
use Rattle.bbm_lemmas.proofs.Words.{pe_found}
use Rattle.bbm_rules.specs.TagSentences.{GivesAsid, Names}
use Rattle.bbm_rules.specs.Tags.{reading_of, standing_reading}

module _ (h : List Event) (p : ℕ) where
  -- a reading that a register gives
  record Given (reg : Reg) (tag : ℕ → Tag) (r : Reading) : Type 0 where
    value : ℕ
    names : Names h p reg r.root value
    same : r.tag ≡ tag value

  -- by this value
  record GivenAt (reg : Reg) (tag : ℕ → Tag) (r : Reading) (value : ℕ) : Type 0 where
    names : Names h p reg r.root value
    same : r.tag ≡ tag value

  given_by : (reg : Reg) (tag : ℕ → Tag) (value : ℕ) (r : Reading) → In (register_values h p reg) value
      → reading_of h reg tag value ≡ Some r → GivenAt reg tag r value
  given_by reg tag value r i e = by (base_of value) refl e
    where
      go : (base : ℕ) → base_of value ≡ Some base → (c : Bool) → is_root h (kind_of_reg reg) base ≡ c
          → if_so c (record { tag = tag value; root = base }) ≡ Some r → GivenAt reg tag r value
      go base b false c k = cc
      go base b true c k =
          let same : record { tag = tag value; root = base } ≡ r = cc in
          let root : base ≡ r.root = ap (λ (x : Reading). x.root) same in
          record {
            names = record {
              readable = among_in value (register_values h p reg) i;
              base = b ∙ ap Some root;
              declared = subst (λ (x : ℕ). is_root h (kind_of_reg reg) x ≡ true) root c;
            };
            same = ap (λ (x : Reading). x.tag) (sym same);
          }

      by : (o : Option ℕ) → base_of value ≡ o
          → option_and_then (λ base. if_so (is_root h (kind_of_reg reg) base) (record { tag = tag value; root = base })) o ≡ Some r
          → GivenAt reg tag r value
      by None b k = cc
      by (Some base) b k = go base b (is_root h (kind_of_reg reg) base) refl k

  given : (reg : Reg) (tag : ℕ → Tag) (r : Reading) → In (readings_of h p reg tag) r → Given reg tag r
  given reg tag r i =
      let k = from_filter_map (reading_of h reg tag) (register_values h p reg) r i in
      let g : GivenAt reg tag r k.0 = given_by reg tag k.0 r k.1 k.2 in
      record { value = k.0; names = g.names; same = g.same }

  gives : (reg : Reg) (tag : ℕ → Tag) (root value : ℕ) → Names h p reg root value
      → In (readings_of h p reg tag) (record { tag = tag value; root = root })
  gives reg tag root value k =
      to_filter_map (reading_of h reg tag) (register_values h p reg) value (record { tag = tag value; root = root })
      (in_among value (register_values h p reg) k.readable)
      (ap (option_and_then (λ base. if_so (is_root h (kind_of_reg reg) base) (record { tag = tag value; root = base }))) k.base
      ∙ ap (λ (c : Bool). if_so c (record { tag = tag value; root = root })) k.declared)

  -- a reading under an ASID
  record AsidGiven (order : Bool) (from : AsidFrom) (r : Reading) : Type 0 where
    value : ℕ
    number : ℕ
    names : Names h p Ttbr0El1 r.root value
    asid : GivesAsid order from h p value number
    same : r.tag ≡ Asid (tag_number number)

  asid_given : (order : Bool) (from : AsidFrom) (r : Reading) → In (asid_readings order from h p) r → AsidGiven order from r
  asid_given order FromTtbr0 r i =
      let k : Given Ttbr0El1 (λ value. Asid (tag_number value)) r = given Ttbr0El1 (λ value. Asid (tag_number value)) r i in
      record { value = k.value; number = k.value; names = k.names; asid = refl; same = k.same }
  asid_given true FromTtbr1 r i =
      let f = from_filter_map (standing_reading h) (standings h p) r i in
      let g : GivenAt Ttbr0El1 (λ value. Asid (tag_number f.0.second)) r f.0.first
      = given_by Ttbr0El1 (λ value. Asid (tag_number f.0.second)) f.0.first r
      (in_among f.0.first (register_values h p Ttbr0El1) (standing_readable p h f.0 f.1)) f.2 in
      record {
        value = f.0.first;
        number = f.0.second;
        names = g.names;
        asid = to_contains (standings h p) f.0 f.1;
        same = g.same;
      }
  asid_given false FromTtbr1 r i =
      let f = from_flat (λ from. readings_of h p Ttbr0El1 (λ value. Asid (tag_number from))) (register_values h p Ttbr1El1) r i in
      let k : Given Ttbr0El1 (λ value. Asid (tag_number f.0)) r = given Ttbr0El1 (λ value. Asid (tag_number f.0)) r f.2 in
      record {
        value = k.value;
        number = f.0;
        names = k.names;
        asid = among_in f.0 (register_values h p Ttbr1El1) f.1;
        same = k.same;
      }

  asid_gives : (order : Bool) (from : AsidFrom) (root value number : ℕ) → Names h p Ttbr0El1 root value → GivesAsid order from h p value number
      → In (asid_readings order from h p) (record { tag = Asid (tag_number number); root = root })
  asid_gives order FromTtbr0 root value number k e =
      subst (λ (x : ℕ). In (asid_readings order FromTtbr0 h p) (record { tag = Asid (tag_number x); root = root })) (sym e)
      (gives Ttbr0El1 (λ value. Asid (tag_number value)) root value k)
  asid_gives true FromTtbr1 root value number k e =
      to_filter_map (standing_reading h) (standings h p) (record { first = value; second = number })
      (record { tag = Asid (tag_number number); root = root })
      (from_contains (standings h p) (record { first = value; second = number }) e)
      (ap (option_and_then (λ base. if_so (is_root h (kind_of_reg Ttbr0El1) base) (record { tag = Asid (tag_number number); root = base }))) k.base
      ∙ ap (λ (c : Bool). if_so c (record { tag = Asid (tag_number number); root = root })) k.declared)
  asid_gives false FromTtbr1 root value number k e =
      to_flat (λ from. readings_of h p Ttbr0El1 (λ value. Asid (tag_number from))) (register_values h p Ttbr1El1) number
      (record { tag = Asid (tag_number number); root = root }) (in_among number (register_values h p Ttbr1El1) e)
      (gives Ttbr0El1 (λ value. Asid (tag_number number)) root value k)

  sound_in : (order : Bool) (world : World) (tag : Tag) (root : ℕ) (r : Reading) → In (readings_in order world h p) r → r.tag ≡ tag → r.root ≡ root
      → ReadsTag order world h p tag root
  sound_in order (Hyp world) tag root r i same at =
      elim (in_append (readings_of h p Ttbr0El2 (λ value. El2Tag)) (readings_of h p VttbrEl2 (λ value. Vmid (tag_number value))) r i) [
        | inl a ↦
            let k : Given Ttbr0El2 (λ value. El2Tag) r = given Ttbr0El2 (λ value. El2Tag) r a in
            subst (λ (x : Tag). ReadsTag order (Hyp world) h p x root) (sym k.same ∙ same)
            (k.value, subst (λ (x : ℕ). Names h p Ttbr0El2 x k.value) at k.names)
        | inr a ↦
            let k : Given VttbrEl2 (λ value. Vmid (tag_number value)) r = given VttbrEl2 (λ value. Vmid (tag_number value)) r a in
            subst (λ (x : Tag). ReadsTag order (Hyp world) h p x root) (sym k.same ∙ same)
            (k.value, subst (λ (x : ℕ). Names h p VttbrEl2 x k.value) at k.names, refl)
      ]
  sound_in order (Kernel world) tag root r i same at =
      elim (in_append (asid_readings order world.asid_from h p) (readings_of h p Ttbr1El1 (λ value. Ttbr1Tag)) r i) [
        | inl a ↦
            let k : AsidGiven order world.asid_from r = asid_given order world.asid_from r a in
            subst (λ (x : Tag). ReadsTag order (Kernel world) h p x root) (sym k.same ∙ same)
            (k.value, k.number, subst (λ (x : ℕ). Names h p Ttbr0El1 x k.value) at k.names, k.asid, refl)
        | inr a ↦
            let k : Given Ttbr1El1 (λ value. Ttbr1Tag) r = given Ttbr1El1 (λ value. Ttbr1Tag) r a in
            subst (λ (x : Tag). ReadsTag order (Kernel world) h p x root) (sym k.same ∙ same)
            (k.value, subst (λ (x : ℕ). Names h p Ttbr1El1 x k.value) at k.names)
      ]

  complete_in : (order : Bool) (world : World) (tag : Tag) (root : ℕ) → ReadsTag order world h p tag root
      → In (readings_in order world h p) (record { tag = tag; root = root })
  complete_in order (Hyp world) El2Tag root k =
      in_left (readings_of h p Ttbr0El2 (λ value. El2Tag)) (readings_of h p VttbrEl2 (λ value. Vmid (tag_number value)))
      (record { tag = El2Tag; root = root }) (gives Ttbr0El2 (λ value. El2Tag) root k.0 k.1)
  complete_in order (Hyp world) (Vmid vmid) root k =
      in_right (readings_of h p Ttbr0El2 (λ value. El2Tag)) (readings_of h p VttbrEl2 (λ value. Vmid (tag_number value)))
      (record { tag = Vmid vmid; root = root })
      (subst (λ (x : ℕ). In (readings_of h p VttbrEl2 (λ value. Vmid (tag_number value))) (record { tag = Vmid x; root = root })) k.2
      (gives VttbrEl2 (λ value. Vmid (tag_number value)) root k.0 k.1))
  complete_in order (Kernel world) (Asid asid) root k =
      in_left (asid_readings order world.asid_from h p) (readings_of h p Ttbr1El1 (λ value. Ttbr1Tag))
      (record { tag = Asid asid; root = root })
      (subst (λ (x : ℕ). In (asid_readings order world.asid_from h p) (record { tag = Asid x; root = root })) k.4
      (asid_gives order world.asid_from root k.0 k.1 k.2 k.3))
  complete_in order (Kernel world) Ttbr1Tag root k =
      in_right (asid_readings order world.asid_from h p) (readings_of h p Ttbr1El1 (λ value. Ttbr1Tag))
      (record { tag = Ttbr1Tag; root = root }) (gives Ttbr1El1 (λ value. Ttbr1Tag) root k.0 k.1)
  complete_in order world tag root k = absurd k

-- the reading that the search finds
found_reading : (heading : Heading) (h : List Event) (p : ℕ) (tag : Tag) (root : ℕ) → reads heading h p tag root ≡ true
    → (r : Reading) × In (readings heading h p) r × (r.tag ≡ tag) × (r.root ≡ root)
found_reading heading h p tag root k =
    let f = any_found (λ (r : Reading). same_tag r.tag tag && r.root == root) (readings heading h p) k in
    let parts = and_parts (same_tag f.0.tag tag) (f.0.root == root) f.2 in
    (f.0, f.1, tag_equal f.0.tag tag parts.0, eqb-true f.0.root root parts.1)

pub reads_sound : (heading : Heading) (h : List Event) (p : ℕ) (tag : Tag) (root : ℕ) → reads heading h p tag root ≡ true
    → ReadsTag heading.words.inorder heading.world h p tag root
reads_sound heading h p tag root k =
    let f = found_reading heading h p tag root k in sound_in h p heading.words.inorder heading.world tag root f.0 f.1 f.2 f.3

pub reads_complete : (heading : Heading) (h : List Event) (p : ℕ) (tag : Tag) (root : ℕ) → ReadsTag heading.words.inorder heading.world h p tag root
    → reads heading h p tag root ≡ true
reads_complete heading h p tag root k =
    any_finds (λ (r : Reading). same_tag r.tag tag && r.root == root) (readings heading h p) (record { tag = tag; root = root })
    (complete_in h p heading.words.inorder heading.world tag root k) (and_from (same_tag tag tag) (root == root) (tag_self tag) (same_number root))

-- ---- the rules

empty : (tags : List Tag) → nat_lt 0 (length tags) ≡ false → tags ≡ []
empty [] e = refl
empty (g ∷ tags) e = absurd (true≢false (sym (lt-ltb 0 (suc (length tags)) (omega arith)) ∙ e))

module _ (heading : Heading) (trust : Trust) (h : List Noted) where
  none_other : {A : Type 0} (pe : ℕ) (reg : Reg) (value : ℕ) → tag_conflict heading trust h (Msr pe reg value) ≡ None
      → (r : Reading) → In (readings heading (Msr pe reg value ∷ events_of h) pe) r → (page : ℕ)
      → In (others heading trust h (Msr pe reg value ∷ events_of h) r) page → A
  none_other pe reg value none r i page j =
      absurd (none_in (flat_map (others heading trust h (Msr pe reg value ∷ events_of h)) (readings heading (Msr pe reg value ∷ events_of h) pe)) page
      (least_none (flat_map (others heading trust h (Msr pe reg value ∷ events_of h)) (readings heading (Msr pe reg value ∷ events_of h) pe)) none)
      (to_flat (others heading trust h (Msr pe reg value ∷ events_of h)) (readings heading (Msr pe reg value ∷ events_of h) pe) r page i j))

  -- after a register write a tag that is readable for a root is held by no other declared root
  pub no_other_holder : (pe : ℕ) (reg : Reg) (value : ℕ) (tag : Tag) (root : ℕ) (r : Declared)
      → tag_conflict heading trust h (Msr pe reg value) ≡ None → reads heading (Msr pe reg value ∷ events_of h) pe tag root ≡ true
      → Contains (roots_of (Msr pe reg value ∷ events_of h)) r → holds_tag heading trust r.page tag (Msr pe reg value ∷ events_of h) ≡ true
      → r.page ≡ root
  no_other_holder pe reg value tag root r none read declared holds = by (r.page == root) refl
    where
      by : (c : Bool) → (r.page == root) ≡ c → r.page ≡ root
      by true c = eqb-true r.page root c
      by false c =
          let f = found_reading heading (Msr pe reg value ∷ events_of h) pe tag root read in
          let other : (not (r.page == f.0.root) && holds_tag heading trust r.page f.0.tag (Msr pe reg value ∷ events_of h)) ≡ true =
          and_from (not (r.page == f.0.root)) (holds_tag heading trust r.page f.0.tag (Msr pe reg value ∷ events_of h))
          (not_from_false (r.page == f.0.root) (ap (λ (x : ℕ). r.page == x) f.3 ∙ c))
          (ap (λ (g : Tag). holds_tag heading trust r.page g (Msr pe reg value ∷ events_of h)) f.2 ∙ holds) in
          none_other pe reg value none f.0 f.1 r.page
          (in_left (other_holders heading trust h (Msr pe reg value ∷ events_of h) f.0)
          (leavers heading trust h (Msr pe reg value ∷ events_of h) f.0) r.page
          (in_map (λ (d : Declared). d.page)
          (filter (λ (d : Declared). not (d.page == f.0.root) && holds_tag heading trust d.page f.0.tag (Msr pe reg value ∷ events_of h)) (roots_of (Msr pe reg value ∷ events_of h))) r
          (to_filter (λ (d : Declared). not (d.page == f.0.root) && holds_tag heading trust d.page f.0.tag (Msr pe reg value ∷ events_of h))
          (roots_of (Msr pe reg value ∷ events_of h)) r (from_contains (roots_of (Msr pe reg value ∷ events_of h)) r declared) other)))

  -- and left by none that was given up
  pub none_left : (pe : ℕ) (reg : Reg) (value : ℕ) (tag : Tag) (root page : ℕ)
      → tag_conflict heading trust h (Msr pe reg value) ≡ None → reads heading (Msr pe reg value ∷ events_of h) pe tag root ≡ true
      → left_tag heading trust page tag (Msr pe reg value ∷ events_of h) ≡ false
  none_left pe reg value tag root page none read =
      by (left_tag heading trust page tag (Msr pe reg value ∷ events_of h)) refl
    where
      by : (c : Bool) → left_tag heading trust page tag (Msr pe reg value ∷ events_of h) ≡ c
          → left_tag heading trust page tag (Msr pe reg value ∷ events_of h) ≡ false
      by false c = c
      by true c =
          let f = found_reading heading (Msr pe reg value ∷ events_of h) pe tag root read in
          let at = pe_found heading.pes (λ (p : ℕ). left_at heading trust p page tag (Msr pe reg value ∷ events_of h)) c in
          none_other pe reg value none f.0 f.1 page
          (in_right (other_holders heading trust h (Msr pe reg value ∷ events_of h) f.0)
          (leavers heading trust h (Msr pe reg value ∷ events_of h) f.0) page
          (to_filter (λ (x : ℕ). left_tag heading trust x f.0.tag (Msr pe reg value ∷ events_of h))
          (given_up (Msr pe reg value ∷ events_of h)) page
          (left_in_given_up heading trust at.0 tag page (Msr pe reg value ∷ events_of h) at.2)
          (ap (λ (g : Tag). left_tag heading trust page g (Msr pe reg value ∷ events_of h)) f.2 ∙ c)))

  unused : (pe page : ℕ) → root_in_use heading trust h (Unroot pe page) ≡ None → no_root heading trust h (Unroot pe page) ≡ None
      → is_used heading trust h page ≡ false
  unused pe page in_use none = by (is_none (root_at (events_of h) page)) (is_used heading trust h page) refl refl in_use none
    where
      by : (c u : Bool) → is_none (root_at (events_of h) page) ≡ c → is_used heading trust h page ≡ u
          → if_so (not c && u) page ≡ None → if_so c page ≡ None → u ≡ false
      by true u c e k l = cc
      by false true c e k l = cc
      by false false c e k l = refl

  in_registers : (reg : Reg) → In (Ttbr0El2 ∷ VttbrEl2 ∷ Ttbr0El1 ∷ Ttbr1El1 ∷ []) reg
  in_registers reg.Ttbr0El2 = inl refl
  in_registers reg.VttbrEl2 = inr (inl refl)
  in_registers reg.Ttbr0El1 = inr (inr (inl refl))
  in_registers reg.Ttbr1El1 = inr (inr (inr (inl refl)))

  -- an `unroot` names no base of a readable register value
  pub no_base : (pe page p : ℕ) (reg : Reg) (value : ℕ) → root_in_use heading trust h (Unroot pe page) ≡ None
      → no_root heading trust h (Unroot pe page) ≡ None → p < heading.pes
      → among value (register_values (events_of h) p reg) ≡ true → base_of value ≡ Some page → ⊥
  no_base pe page p reg value in_use none is_pe readable base =
      let parts = or_parts (is_loaded heading trust h page) (not heading.words.unflushed && holds_some_tag heading trust h page)
      (unused pe page in_use none) in
      let here : is_base_at (events_of h) page p ≡ false
      = none_of (is_base_at (events_of h) page) (below heading.pes) parts.0 p (in_below heading.pes p is_pe) in
      let is_base : is_that (base_of value) page ≡ true = ap (λ (o : Option ℕ). is_that o page) base ∙ same_number page in
      true≢false (sym is_base ∙ none_of (λ value. is_that (base_of value) page)
      (flat_map (register_values (events_of h) p) (Ttbr0El2 ∷ VttbrEl2 ∷ Ttbr0El1 ∷ Ttbr1El1 ∷ [])) here value
      (to_flat (register_values (events_of h) p) (Ttbr0El2 ∷ VttbrEl2 ∷ Ttbr0El1 ∷ Ttbr1El1 ∷ []) reg value (in_registers reg)
      (in_among value (register_values (events_of h) p reg) readable)))

  -- nor, without `unflushed`, a root that holds a tag
  pub no_tag_held : heading.words.unflushed ≡ false → (pe page : ℕ) (tag : Tag)
      → root_in_use heading trust h (Unroot pe page) ≡ None
      → no_root heading trust h (Unroot pe page) ≡ None → holds_tag heading trust page tag (events_of h) ≡ false
  no_tag_held flushed pe page tag in_use none =
      let parts = or_parts (is_loaded heading trust h page) (not heading.words.unflushed && holds_some_tag heading trust h page)
      (unused pe page in_use none) in
      let some : holds_some_tag heading trust h page ≡ false
      = second_false (not heading.words.unflushed) (holds_some_tag heading trust h page) parts.1
      (not_from_false heading.words.unflushed flushed) in
      no_tag heading trust page (events_of h) (ap tag_set (empty (tags_of heading trust page (events_of h)) some)) tag
