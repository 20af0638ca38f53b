-- The readable values of a register are those that the sentence names.
use Rattle.bbm_rules.proofs.Common.{◌≡◌, ℕ, Bool, true, false, cond, ◌&&◌, ◌==◌, List, [], ◌∷◌, ◌++◌, refl, sym, ◌∙◌}
use Rattle.bbm_rules.proofs.Common.{ap, subst, inl, inr, true≢false, take, and_from, and_left, and_parts, eqb-true}
use Rattle.bbm_rules.proofs.Common.{false_from_ne_true, or_cases, or_from, or_left, or_parts, or_right, Reg, Event, Isb}
use Rattle.bbm_rules.proofs.Common.{Msr, in_split, is_none_of, none_of, among, any, some, register_values, same_reg}
use Rattle.bbm_rules.proofs.SameRegister.{reg_equal, reg_self}
use Rattle.bbm_lemmas.proofs.Words.{same_number}
use Rattle.bbm_lemmas.proofs.Elements.{split_in}
use Rattle.bbm_rules.proofs.SearchLemmas.{is_none_before, none_before}
use Rattle.bbm_rules.specs.Sentences.{ReadableRegister, register_value}

module _ (p : ℕ) (reg : Reg) where
  abbrev writes : Event → Bool
  writes (Msr pe r value) = pe == p && same_reg r reg
  writes _ = false

  -- whether the event is an ISB of p that has a write of the register before it
  abbrev settles : Event → List Event → Bool
  settles (Isb pe) older = pe == p && any writes older
  settles _ older = false

  -- the sentence with a test
  record Readable (h : List Event) (value : ℕ) : Type 0 where
    newer : List Event
    older : List Event
    split : h ≡ newer ++ older
    had : register_value older p reg ≡ value
    unsettled : some settles newer ≡ false

  here : (h : List Event) (value : ℕ) → register_value h p reg ≡ value → Readable h value
  here h value had = record { newer = []; older = h; split = refl; had = had; unsettled = refl }

  further : (e : Event) (h : List Event) (value : ℕ) → ((older : List Event) → settles e older ≡ false)
      → Readable h value → Readable (e ∷ h) value
  further e h value none k = record {
    newer = e ∷ k.newer;
    older = k.older;
    split = ap (λ es. e ∷ es) k.split;
    had = k.had;
    unsettled = or_from (settles e k.newer) (some settles k.newer) (none k.newer) k.unsettled;
  }

  -- the newest readable value is the one that the register has
  first_write : (v : ℕ) (h : List Event) (b : Bool) → take 1 (register_values h p reg) ≡ register_value h p reg ∷ []
      → take 1 (cond b (v ∷ register_values h p reg) (register_values h p reg)) ≡ cond b v (register_value h p reg) ∷ []
  first_write v h true rest = refl
  first_write v h false rest = rest

  first_isb : (values : List ℕ) (value : ℕ) (b : Bool) → take 1 values ≡ value ∷ []
      → take 1 (cond b (take 1 values) values) ≡ value ∷ []
  first_isb values value true rest = ap (take 1) rest
  first_isb values value false rest = rest

  pub first : (h : List Event) → take 1 (register_values h p reg) ≡ register_value h p reg ∷ []
  first [] = refl
  first (Msr pe r v ∷ h) = first_write v h (pe == p && same_reg r reg) (first h)
  first (Isb pe ∷ h) = first_isb (register_values h p reg) (register_value h p reg) (pe == p) (first h)
  first (e ∷ h) = first h

  among_first : (values : List ℕ) (value n : ℕ) → take 1 values ≡ value ∷ [] → among n (take 1 values) ≡ true → value ≡ n
  among_first values value n e k =
      elim (or_cases (value == n) false (subst (λ vs. among n vs ≡ true) e k)) [
        | inl same ↦ eqb-true value n same
        | inr none ↦ absurd (true≢false (sym none))
      ]

  pub has_first : (values : List ℕ) (value : ℕ) → take 1 values ≡ value ∷ [] → among value values ≡ true
  has_first [] value e = cc
  has_first (v ∷ values) value e =
      let same : v ≡ value = cc in
      or_left (v == value) (among value values) (ap (λ n. n == value) same ∙ same_number value)

  at_write : (pe v : ℕ) (r : Reg) (h : List Event) (value : ℕ) (b : Bool) → (pe == p && same_reg r reg) ≡ b
      → among value (cond b (v ∷ register_values h p reg) (register_values h p reg)) ≡ true
      → (among value (register_values h p reg) ≡ true → Readable h value) → Readable (Msr pe r v ∷ h) value
  at_write pe v r h value false e k rest = further (Msr pe r v) h value (λ older. refl) (rest k)
  at_write pe v r h value true e k rest =
      elim (or_cases (v == value) (among value (register_values h p reg)) k) [
        | inl same ↦ here (Msr pe r v ∷ h) value
            (ap (λ b. cond b v (register_value h p reg)) e ∙ eqb-true v value same)
        | inr old ↦ further (Msr pe r v) h value (λ older. refl) (rest old)
      ]

  at_isb : (pe : ℕ) (h : List Event) (value : ℕ) (b : Bool) → (pe == p) ≡ b
      → among value (cond b (take 1 (register_values h p reg)) (register_values h p reg)) ≡ true
      → (among value (register_values h p reg) ≡ true → Readable h value) → Readable (Isb pe ∷ h) value
  at_isb pe h value true e k rest =
      here (Isb pe ∷ h) value (among_first (register_values h p reg) (register_value h p reg) value (first h) k)
  at_isb pe h value false e k rest =
      further (Isb pe) h value (λ older. and_left (pe == p) (any writes older) e) (rest k)

  sound : (h : List Event) (value : ℕ) → among value (register_values h p reg) ≡ true → Readable h value
  sound [] value k = here [] value (among_first (0 ∷ []) 0 value refl k)
  sound (Msr pe r v ∷ h) value k = at_write pe v r h value (pe == p && same_reg r reg) refl k (sound h value)
  sound (Isb pe ∷ h) value k = at_isb pe h value (pe == p) refl k (sound h value)
  sound (e ∷ h) value k = further e h value (λ older. refl) (sound h value k)

  -- where no event writes the register, its value stays
  same_value : (newer older : List Event) → any writes newer ≡ false
      → register_value (newer ++ older) p reg ≡ register_value older p reg
  same_value [] older none = refl
  same_value (Msr pe r v ∷ newer) older none =
      let k = or_parts (pe == p && same_reg r reg) (any writes newer) none in
      ap (λ b. cond b v (register_value (newer ++ older) p reg)) k.0 ∙ same_value newer older k.1
  same_value (e ∷ newer) older none = same_value newer older none

  past_write : (v value : ℕ) (values : List ℕ) (b : Bool) → among value values ≡ true → among value (cond b (v ∷ values) values) ≡ true
  past_write v value values true k = or_right (v == value) (among value values) k
  past_write v value values false k = k

  past_isb : (newer older : List Event) (b : Bool) → (b && any writes newer) ≡ false
      → among (register_value older p reg) (register_values (newer ++ older) p reg) ≡ true
      → among (register_value older p reg) (cond b (take 1 (register_values (newer ++ older) p reg)) (register_values (newer ++ older) p reg)) ≡ true
  past_isb newer older false none k = k
  past_isb newer older true none k =
      subst (λ vs. among (register_value older p reg) vs ≡ true)
      (sym (first (newer ++ older) ∙ ap (λ v. v ∷ []) (same_value newer older none)))
      (or_left (register_value older p reg == register_value older p reg) false (same_number (register_value older p reg)))

  complete : (newer older : List Event) → some settles newer ≡ false
      → among (register_value older p reg) (register_values (newer ++ older) p reg) ≡ true
  complete [] older none = has_first (register_values older p reg) (register_value older p reg) (first older)
  complete (Msr pe r v ∷ newer) older none =
      past_write v (register_value older p reg) (register_values (newer ++ older) p reg) (pe == p && same_reg r reg)
      (complete newer older none)
  complete (Isb pe ∷ newer) older none =
      let k = or_parts (pe == p && any writes newer) (some settles newer) none in
      past_isb newer older (pe == p) k.0 (complete newer older k.1)
  complete (e ∷ newer) older none = complete newer older none

  -- the test on the newer events, and the clause of the sentence
  is_write : (e : Event) → writes e ≡ true → (w : ℕ) × (e ≡ Msr p reg w)
  is_write (Msr pe r w) k =
      let parts = and_parts (pe == p) (same_reg r reg) k in
      let pe_is : pe ≡ p = eqb-true pe p parts.0 in
      let reg_is : r ≡ reg = reg_equal r reg parts.1 in
      (w, cc)
  is_write e k = absurd (true≢false (sym k))

  unsettled_by : (newer : List Event)
      (unreplaced : (w : ℕ) (after between before : List Event) → newer ≡ after ++ Isb p ∷ (between ++ Msr p reg w ∷ before) → ⊥)
      (after : List Event) (e : Event) (older : List Event) → newer ≡ after ++ e ∷ older → settles e older ≡ false
  unsettled_by newer unreplaced after (Isb pe) older split =
      false_from_ne_true (pe == p && any writes older) (λ k.
      let parts = and_parts (pe == p) (any writes older) k in
      true≢false (sym parts.1 ∙ is_none_of writes older (λ x i. false_from_ne_true (writes x) (λ stored.
      let w = is_write x stored in
      let s = split_in older x i in
      let pe_is : pe ≡ p = eqb-true pe p parts.0 in
      let older_is : older ≡ s.0 ++ Msr p reg w.0 ∷ s.1 = s.2 ∙ ap (λ e. s.0 ++ e ∷ s.1) w.1 in
      unreplaced w.0 after s.0 s.1 (split ∙ (ap (λ q. after ++ Isb q ∷ older) pe_is ∙ ap (λ es. after ++ Isb p ∷ es) older_is))))))
  unsettled_by newer unreplaced after e older split = refl

  unreplaced_by : (newer : List Event) → some settles newer ≡ false
      → (w : ℕ) (after between before : List Event) → newer ≡ after ++ Isb p ∷ (between ++ Msr p reg w ∷ before) → ⊥
  unreplaced_by newer none w after between before split =
      let t : (p == p && any writes (between ++ Msr p reg w ∷ before)) ≡ false
      = none_before settles newer none after (Isb p) (between ++ Msr p reg w ∷ before) split in
      let u : any writes (between ++ Msr p reg w ∷ before) ≡ false
      = sym (ap (λ b. b && any writes (between ++ Msr p reg w ∷ before)) (same_number p)) ∙ t in
      true≢false (sym (and_from (p == p) (same_reg reg reg) (same_number p) (reg_self reg))
      ∙ none_of writes (between ++ Msr p reg w ∷ before) u (Msr p reg w) (in_split between before (Msr p reg w)))

pub register_sound : (h : List Event) (p : ℕ) (reg : Reg) (value : ℕ) → among value (register_values h p reg) ≡ true
    → ReadableRegister h p reg value
register_sound h p reg value k =
    let s : Readable p reg h value = sound p reg h value k in
    record {
      newer = s.newer;
      older = s.older;
      split = s.split;
      had = s.had;
      unreplaced = unreplaced_by p reg s.newer s.unsettled;
    }

pub register_complete : (h : List Event) (p : ℕ) (reg : Reg) (value : ℕ) → ReadableRegister h p reg value
    → among value (register_values h p reg) ≡ true
register_complete h p reg value s =
    subst (λ (v : ℕ). among v (register_values h p reg) ≡ true) s.had
    (subst (λ (es : List Event). among (register_value s.older p reg) (register_values es p reg) ≡ true) (sym s.split)
    (complete p reg s.newer s.older (is_none_before (settles p reg) s.newer (unsettled_by p reg s.newer s.unreplaced))))

pub ruleset laws = (register_sound, register_complete)
