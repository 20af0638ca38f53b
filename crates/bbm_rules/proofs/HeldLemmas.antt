-- The last valid write of a place, and what it leaves held.
use Rattle.bbm_rules.proofs.Common.{◌≡◌, ℕ, ◌%◌, ◌&&◌, ◌||◌, or_parts, Bool, true, false, cond, ◌⊎◌, ◌==◌, List, [], ◌∷◌, Option, Some}
use Rattle.bbm_rules.proofs.Common.{None, option_and_then, if◌then◌else◌, refl, sym, ◌∙◌, ap, subst, inl, inr, arith}
use Rattle.bbm_rules.proofs.Common.{true≢false, and_parts, eq-eqb, eqb-true, Kind, Form, form_01, form_11, is_valid}
use Rattle.bbm_rules.proofs.Common.{valid_form, type_bits, with_keeps, In, Trust, ValidWrite, cleansed_everywhere, held}
use Rattle.bbm_rules.proofs.Common.{last_valid, last_valid_after, later, Noted, events_of, page_of, written_places}
use Rattle.bbm_rules.proofs.Common.{with_has}
use Rattle.bbm_events.specs.Heading.{Heading}
use Rattle.bbm_rules.specs.Held.{emptied, held_unless}
use Rattle.bbm_events.specs.declared.event.Event.{Event}
use Rattle.bbm_events.specs.declared.event.Event.TheVariants.{Init, Write}

-- ---- the last valid write

-- the valid write of which one more event came after
pub record Older (n : Noted) (o : Option ValidWrite) (w : ValidWrite) : Type 0 where
  pub before : ValidWrite
  pub is : o ≡ Some before
  pub same : before.value ≡ w.value
  pub longer : n ∷ before.since ≡ w.since

pub older : (n : Noted) (o : Option ValidWrite) (w : ValidWrite) → later n o ≡ Some w → Older n o w
older n None w e = cc
older n (Some v) w e =
    let same : record { value = v.value; since = n ∷ v.since } ≡ w = cc in
    record { before = v; is = refl; same = ap (λ (x : ValidWrite). x.value) same; longer = ap (λ (x : ValidWrite). x.since) same }

-- the event is a valid write of the place, of this value
pub record ValidAt (kind : Kind) (level place value : ℕ) (e : Event) : Type 0 where
  pub pe : ℕ
  pub is : e ≡ Write pe place value
  pub valid : is_valid kind level value ≡ true

by_write : (kind : Kind) (level place pe at value : ℕ) (o : Option ValidWrite) (w : ValidWrite) (b : Bool)
    → (at == place && is_valid kind level value) ≡ b
    → cond b (Some (record { value = value; since = [] })) o ≡ Some w
    → (o ≡ Some w) ⊎ ValidAt kind level place w.value (Write pe at value)
by_write kind level place pe at value o w true k e =
    let parts = and_parts (at == place) (is_valid kind level value) k in
    let same : record { value = value; since = [] } ≡ w = cc in
    let there : at ≡ place = eqb-true at place parts.0 in
    let v : value ≡ w.value = ap (λ (x : ValidWrite). x.value) same in
    inr (record {
      pe = pe;
      is = ap (λ (x : ℕ). Write pe x value) there ∙ ap (Write pe place) v;
      valid = subst (λ (x : ℕ). is_valid kind level x ≡ true) v parts.1;
    })
by_write kind level place pe at value o w false k e = inl e

by_init : (o : Option ValidWrite) (w : ValidWrite) (b : Bool) → cond b None o ≡ Some w → o ≡ Some w
by_init o w true e = cc
by_init o w false e = e

pub last_cases : (kind : Kind) (level place : ℕ) (e : Event) (n : Noted) (found : Option ValidWrite) (w : ValidWrite)
    → last_valid_after kind level place e n found ≡ Some w
    → (later n found ≡ Some w) ⊎ ValidAt kind level place w.value e
last_cases kind level place (Write pe at value) n found w e =
    by_write kind level place pe at value (later n found) w (at == place && is_valid kind level value) refl e
last_cases kind level place (Init pe page) n found w e = inl (by_init (later n found) w (page == page_of place) e)
last_cases kind level place e n found w k = inl k

-- its place was written
pub written_here : (pe place value : ℕ) (es : List Event) → In (written_places (Write pe place value ∷ es)) place
written_here pe place value es = with_has place (written_places es)

pub written_stays : (e : Event) (es : List Event) (place : ℕ) → In (written_places es) place → In (written_places (e ∷ es)) place
written_stays (Write pe at value) es place i = with_keeps at (written_places es) place i
written_stays e es place i = i

pub last_is_written : (kind : Kind) (level place : ℕ) (h : List Noted) (w : ValidWrite)
    → last_valid kind level place h ≡ Some w → In (written_places (events_of h)) place
last_is_written kind level place [] w e = cc
last_is_written kind level place (n ∷ h) w e =
    elim (last_cases kind level place n.event n (last_valid kind level place h) w e) [
      | inl k ↦
          let o = older n (last_valid kind level place h) w k in
          written_stays n.event (events_of h) place (last_is_written kind level place h o.before o.is)
      | inr v ↦ subst (λ (x : Event). In (written_places (x ∷ events_of h)) place) (sym v.is)
          (written_here v.pe place w.value (events_of h))
    ]

-- a valid value has bit 0 set
odd_by : (level value : ℕ) (b c : Bool) → (type_bits value == 3) ≡ b → (type_bits value == 1) ≡ c
    → valid_form (cond b (form_11 level) (cond c (form_01 level) Form.invalid)) ≡ true → value % 2 ≡ 1
odd_by level value true c e k v = let h : type_bits value ≡ 3 = eqb-true (type_bits value) 3 e in omega arith
odd_by level value false true e k v = let h : type_bits value ≡ 1 = eqb-true (type_bits value) 1 k in omega arith
odd_by level value false false e k v = absurd (true≢false (sym v))

pub valid_is_odd : (kind : Kind) (level value : ℕ) → is_valid kind level value ≡ true → (value % 2 == 1) ≡ true
valid_is_odd kind level value v =
    eq-eqb (value % 2) 1 (odd_by level value (type_bits value == 3) (type_bits value == 1) refl refl v)

-- ---- what the place holds

module _ (heading : Heading) (trust : Trust) (place : ℕ) where
  module _ (gone : Bool) where
    -- what a valid write leaves held
    abbrev pub uncleansed : ValidWrite → Option ℕ
    uncleansed w = if gone || cleansed_everywhere heading trust place w.since then None else Some w.value

    -- the valid write whose value a place holds
    pub record Holding (o : Option ValidWrite) (value : ℕ) : Type 0 where
      pub write : ValidWrite
      pub is : o ≡ Some write
      pub same : write.value ≡ value
      pub still : cleansed_everywhere heading trust place write.since ≡ false
      pub stays : gone ≡ false

    holding_by : (w : ValidWrite) (value : ℕ) (b : Bool) → (gone || cleansed_everywhere heading trust place w.since) ≡ b
        → cond b None (Some w.value) ≡ Some value → Holding (Some w) value
    holding_by w value true k e = cc
    holding_by w value false k e =
        let parts = or_parts gone (cleansed_everywhere heading trust place w.since) k in
        record { write = w; is = refl; same = cc; still = parts.1; stays = parts.0 }

    pub holding : (o : Option ValidWrite) (value : ℕ) → option_and_then uncleansed o ≡ Some value → Holding o value
    holding None value e = cc
    holding (Some w) value e = holding_by w value (gone || cleansed_everywhere heading trust place w.since) refl e

  -- a place that holds something was written
  pub unless_is_written : (gone : Bool) (kind : Kind) (level : ℕ) (h : List Noted) (value : ℕ)
      → held_unless heading trust gone kind level place h ≡ Some value → In (written_places (events_of h)) place
  unless_is_written gone kind level h value e =
      let k : Holding gone (last_valid kind level place h) value = holding gone (last_valid kind level place h) value e in
      last_is_written kind level place h k.write k.is

  pub held_is_written : (kind : Kind) (level : ℕ) (h : List Noted) (value : ℕ)
      → held heading trust kind level place h ≡ Some value → In (written_places (events_of h)) place
  held_is_written kind level h value e =
      unless_is_written (emptied heading trust kind level place h) kind level h value e
