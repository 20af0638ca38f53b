-- The readable standings of a PE are those that the sentence names.
use Rattle.bbm_rules.proofs.Common.{◌≡◌, ℕ, Bool, true, false, cond, ◌&&◌, ◌==◌, List, [], ◌∷◌, ◌++◌, refl, sym, ◌∙◌}
use Rattle.bbm_rules.proofs.Common.{ap, subst, inl, inr, true≢false, take, and_left, and_parts, eqb-true, or_from}
use Rattle.bbm_rules.proofs.Common.{false_from_ne_true, or_parts, Reg, Ttbr0El1, Ttbr1El1, Event, Isb, Msr, In, in_split}
use Rattle.bbm_rules.proofs.Common.{is_none_of, none_of, any, some, same_reg, from_contains, to_contains, Contains}
use Rattle.bbm_lemmas.proofs.Words.{same_number}
use Rattle.bbm_lemmas.proofs.Elements.{split_in}
use Rattle.bbm_rules.proofs.SearchLemmas.{is_none_before, none_before}
use Rattle.bbm_rules.proofs.StandingLaw.{first_standing}
use Rattle.bbm_rules.specs.RegisterValues.{Standing, register_value, standing_of, standings}
use Rattle.bbm_rules.specs.Sentences.{ReadableStanding}

module _ (p : ℕ) where
  abbrev writes : Event → Bool
  writes (Msr pe r value) = pe == p
  writes _ = false

  -- whether the event is an ISB of p that has a register write of p before it
  abbrev settles : Event → List Event → Bool
  settles (Isb pe) older = pe == p && any writes older
  settles _ older = false

  -- the sentence with a test
  record Readable (h : List Event) (s : Standing) : Type 0 where
    newer : List Event
    older : List Event
    split : h ≡ newer ++ older
    had : standing_of older p ≡ s
    unsettled : some settles newer ≡ false

  here : (h : List Event) (s : Standing) → standing_of h p ≡ s → Readable h s
  here h s had = record { newer = []; older = h; split = refl; had = had; unsettled = refl }

  further : (e : Event) (h : List Event) (s : Standing) → ((older : List Event) → settles e older ≡ false)
      → Readable h s → Readable (e ∷ h) s
  further e h s none k = record {
    newer = e ∷ k.newer;
    older = k.older;
    split = ap (λ es. e ∷ es) k.split;
    had = k.had;
    unsettled = or_from (settles e k.newer) (some settles k.newer) (none k.newer) k.unsettled;
  }

  newest : (h : List Event) (s : Standing) → In (take 1 (standings h p)) s → standing_of h p ≡ s
  newest h s i = by (subst (λ (ss : List Standing). In ss s) (first_standing p h) i)
    where
      by : In (standing_of h p ∷ []) s → standing_of h p ≡ s
      by (inl e) = e
      by (inr k) = absurd k

  at_write : (pe v : ℕ) (r : Reg) (h : List Event) (s : Standing) (b : Bool)
      → In (cond b (standing_of (Msr pe r v ∷ h) p ∷ standings h p) (standings h p)) s
      → (In (standings h p) s → Readable h s) → Readable (Msr pe r v ∷ h) s
  at_write pe v r h s false i rest = further (Msr pe r v) h s (λ older. refl) (rest i)
  at_write pe v r h s true (inl e) rest = here (Msr pe r v ∷ h) s e
  at_write pe v r h s true (inr i) rest = further (Msr pe r v) h s (λ older. refl) (rest i)

  at_isb : (pe : ℕ) (h : List Event) (s : Standing) (b : Bool) → (pe == p) ≡ b
      → In (cond b (take 1 (standings h p)) (standings h p)) s
      → (In (standings h p) s → Readable h s) → Readable (Isb pe ∷ h) s
  at_isb pe h s true e i rest = here (Isb pe ∷ h) s (newest h s i)
  at_isb pe h s false e i rest = further (Isb pe) h s (λ older. and_left (pe == p) (any writes older) e) (rest i)

  sound : (h : List Event) (s : Standing) → In (standings h p) s → Readable h s
  sound [] s i = here [] s (newest [] s i)
  sound (Msr pe r v ∷ h) s i = at_write pe v r h s (pe == p) i (sound h s)
  sound (Isb pe ∷ h) s i = at_isb pe h s (pe == p) refl i (sound h s)
  sound (e ∷ h) s i = further e h s (λ older. refl) (sound h s i)

  -- where p writes no register, its standing stays
  unwritten : (pe v : ℕ) (r : Reg) (h : List Event) (b : Bool) → b ≡ false
      → record {
        first = cond (b && same_reg r Ttbr0El1) v (register_value h p Ttbr0El1);
        second = cond (b && same_reg r Ttbr1El1) v (register_value h p Ttbr1El1);
      } ≡ standing_of h p
  unwritten pe v r h b e = rw e refl

  same_standing : (newer older : List Event) → any writes newer ≡ false → standing_of (newer ++ older) p ≡ standing_of older p
  same_standing [] older none = refl
  same_standing (Msr pe r v ∷ newer) older none =
      let k = or_parts (pe == p) (any writes newer) none in
      unwritten pe v r (newer ++ older) (pe == p) k.0 ∙ same_standing newer older k.1
  same_standing (e ∷ newer) older none = same_standing newer older none

  at_first : (ss : List Standing) (s : Standing) → take 1 ss ≡ s ∷ [] → In ss s
  at_first [] s e = absurd (true≢false (nothing e))
    where
      nothing : [] ≡ s ∷ [] → true ≡ false
      nothing e = cc
  at_first (x ∷ ss) s e = inl (same e)
    where
      same : x ∷ [] ≡ s ∷ [] → x ≡ s
      same e = cc

  past_write : (x s : Standing) (ss : List Standing) (b : Bool) → In ss s → In (cond b (x ∷ ss) ss) s
  past_write x s ss true i = inr i
  past_write x s ss false i = i

  past_isb : (newer older : List Event) (b : Bool) → (b && any writes newer) ≡ false
      → In (standings (newer ++ older) p) (standing_of older p)
      → In (cond b (take 1 (standings (newer ++ older) p)) (standings (newer ++ older) p)) (standing_of older p)
  past_isb newer older false none i = i
  past_isb newer older true none i =
      subst (λ (ss : List Standing). In ss (standing_of older p))
      (sym (first_standing p (newer ++ older) ∙ ap (λ (s : Standing). s ∷ []) (same_standing newer older none)))
      (inl refl)

  complete : (newer older : List Event) → some settles newer ≡ false → In (standings (newer ++ older) p) (standing_of older p)
  complete [] older none = at_first (standings older p) (standing_of older p) (first_standing p older)
  complete (Msr pe r v ∷ newer) older none =
      past_write (standing_of (Msr pe r v ∷ (newer ++ older)) p) (standing_of older p) (standings (newer ++ older) p) (pe == p)
      (complete newer older none)
  complete (Isb pe ∷ newer) older none =
      let k = or_parts (pe == p && any writes newer) (some settles newer) none in
      past_isb newer older (pe == p) k.0 (complete newer older k.1)
  complete (e ∷ newer) older none = complete newer older none

  -- the test on the newer events, and the clause of the sentence
  is_write : (e : Event) → writes e ≡ true → (r : Reg) × (w : ℕ) × (e ≡ Msr p r w)
  is_write (Msr pe r w) k = let pe_is : pe ≡ p = eqb-true pe p k in (r, w, ap (λ (q : ℕ). Msr q r w) pe_is)
  is_write e k = absurd (true≢false (sym k))

  unsettled_by : (newer : List Event)
      (unreplaced : (r : Reg) (w : ℕ) (after between before : List Event) → newer ≡ after ++ Isb p ∷ (between ++ Msr p r w ∷ before) → ⊥)
      (after : List Event) (e : Event) (older : List Event) → newer ≡ after ++ e ∷ older → settles e older ≡ false
  unsettled_by newer unreplaced after (Isb pe) older split =
      false_from_ne_true (pe == p && any writes older) (λ k.
      let parts = and_parts (pe == p) (any writes older) k in
      true≢false (sym parts.1 ∙ is_none_of writes older (λ x i. false_from_ne_true (writes x) (λ stored.
      let w = is_write x stored in
      let s = split_in older x i in
      let pe_is : pe ≡ p = eqb-true pe p parts.0 in
      let older_is : older ≡ s.0 ++ Msr p w.0 w.1 ∷ s.1 = s.2 ∙ ap (λ e. s.0 ++ e ∷ s.1) w.2 in
      unreplaced w.0 w.1 after s.0 s.1 (split ∙ (ap (λ q. after ++ Isb q ∷ older) pe_is ∙ ap (λ es. after ++ Isb p ∷ es) older_is))))))
  unsettled_by newer unreplaced after e older split = refl

  unreplaced_by : (newer : List Event) → some settles newer ≡ false
      → (r : Reg) (w : ℕ) (after between before : List Event) → newer ≡ after ++ Isb p ∷ (between ++ Msr p r w ∷ before) → ⊥
  unreplaced_by newer none r w after between before split =
      let t : (p == p && any writes (between ++ Msr p r w ∷ before)) ≡ false
      = none_before settles newer none after (Isb p) (between ++ Msr p r w ∷ before) split in
      let u : any writes (between ++ Msr p r w ∷ before) ≡ false
      = sym (ap (λ b. b && any writes (between ++ Msr p r w ∷ before)) (same_number p)) ∙ t in
      true≢false (sym (same_number p)
      ∙ none_of writes (between ++ Msr p r w ∷ before) u (Msr p r w) (in_split between before (Msr p r w)))

pub standing_sound : (h : List Event) (p : ℕ) (s : Standing) → Contains (standings h p) s → ReadableStanding h p s
standing_sound h p s there =
    let k : Readable p h s = sound p h s (from_contains (standings h p) s there) in
    record {
      newer = k.newer;
      older = k.older;
      split = k.split;
      had = k.had;
      unreplaced = unreplaced_by p k.newer k.unsettled;
    }

pub standing_complete : (h : List Event) (p : ℕ) (s : Standing) → ReadableStanding h p s → Contains (standings h p) s
standing_complete h p s k =
    subst (λ (x : Standing). Contains (standings h p) x) k.had
    (subst (λ (es : List Event). Contains (standings es p) (standing_of k.older p)) (sym k.split)
    (to_contains (standings (k.newer ++ k.older) p) (standing_of k.older p)
    (complete p k.newer k.older (is_none_before (settles p) k.newer (unsettled_by p k.newer k.unreplaced)))))

pub ruleset laws = (standing_sound, standing_complete)
