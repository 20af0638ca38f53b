-- What two places of the same phase have in common.
use Rattle.bbm_idle.proofs.Common.{Phase, Clean, Live, Patterns, Known, same_phase}
use Rattle.bbm_rules.proofs.Common.{◌≡◌, ℕ, Bool, true, false, cond, List, refl, sym, true≢false, Heading, cleansed}
use Rattle.bbm_rules.proofs.Common.{half, seen, Noted, broken_phase}
use Rattle.bbm_rules.specs.declared.phase.Phase.TheVariants.{Broken, Seen, Half, Cleansed}
use Rattle.bbm_histories.proofs.SeenFirst.{cleansed_seen, half_seen}

-- the phase of a broken place that is cleansed, half and seen as told
abbrev pub marked : Bool → Bool → Bool → Phase
marked c h s = cond c Cleansed (cond h Half (cond s Seen Broken))

same_cleansed : (c h s c' h' s' : Bool) → same_phase (marked c h s) (marked c' h' s') ≡ true → c ≡ c'
same_cleansed true h s true h' s' e = refl
same_cleansed false h s false h' s' e = refl
same_cleansed true h s false true s' e = absurd (true≢false (sym e))
same_cleansed true h s false false true e = absurd (true≢false (sym e))
same_cleansed true h s false false false e = absurd (true≢false (sym e))
same_cleansed false true s true h' s' e = absurd (true≢false (sym e))
same_cleansed false false true true h' s' e = absurd (true≢false (sym e))
same_cleansed false false false true h' s' e = absurd (true≢false (sym e))

same_half : (h s h' s' : Bool) → same_phase (marked false h s) (marked false h' s') ≡ true → h ≡ h'
same_half true s true s' e = refl
same_half false s false s' e = refl
same_half true s false true e = absurd (true≢false (sym e))
same_half true s false false e = absurd (true≢false (sym e))
same_half false true true s' e = absurd (true≢false (sym e))
same_half false false true s' e = absurd (true≢false (sym e))

same_seen : (c h s c' h' s' : Bool) → (c ≡ true → s ≡ true) → (h ≡ true → s ≡ true) → (c' ≡ true → s' ≡ true) → (h' ≡ true → s' ≡ true)
    → same_phase (marked c h s) (marked c' h' s') ≡ true → s ≡ s'
same_seen c h true c' h' true a b a' b' e = refl
same_seen c h false c' h' false a b a' b' e = refl
same_seen c h true true h' false a b a' b' e = absurd (true≢false (sym (a' refl)))
same_seen c h true false true false a b a' b' e = absurd (true≢false (sym (b' refl)))
same_seen true h true false false false a b a' b' e = absurd (true≢false (sym e))
same_seen false true true false false false a b a' b' e = absurd (true≢false (sym e))
same_seen false false true false false false a b a' b' e = absurd (true≢false (sym e))
same_seen true h false c' h' true a b a' b' e = absurd (true≢false (sym (a refl)))
same_seen false true false c' h' true a b a' b' e = absurd (true≢false (sym (b refl)))
same_seen false false false true h' true a b a' b' e = absurd (true≢false (sym e))
same_seen false false false false true true a b a' b' e = absurd (true≢false (sym e))
same_seen false false false false false true a b a' b' e = absurd (true≢false (sym e))

-- a place that holds something isn't clean
pub never_clean : (live c h s : Bool) → same_phase Clean (cond live Live (marked c h s)) ≡ true → ⊥
never_clean true c h s e = true≢false (sym e)
never_clean false true h s e = true≢false (sym e)
never_clean false false true s e = true≢false (sym e)
never_clean false false false true e = true≢false (sym e)
never_clean false false false false e = true≢false (sym e)

module _ (heading : Heading) (k : Known heading) (place p : ℕ) where
  -- the same is seen, half and cleansed after two lots of events
  pub record SameMarks (since since' : List Noted) : Type 0 where
    pub seen_same : seen heading place p since ≡ seen heading place p since'
    pub half_same : half heading place p since ≡ half heading place p since'
    pub cleansed_same : cleansed heading Patterns place p since ≡ cleansed heading Patterns place p since'

  -- in the same phase, but for what is half where it is cleansed
  pub same_marks : (since since' : List Noted)
      → same_phase (broken_phase heading Patterns place p since) (broken_phase heading Patterns place p since') ≡ true
      → (cleansed heading Patterns place p since ≡ true → half heading place p since ≡ half heading place p since') → SameMarks since since'
  same_marks since since' e where_cleansed = record {
    seen_same = same_seen (cleansed heading Patterns place p since) (half heading place p since) (seen heading place p since)
        (cleansed heading Patterns place p since') (half heading place p since') (seen heading place p since')
        (cleansed_seen heading k.pattern_steps place p since) (half_seen heading k.pattern_steps place p since)
        (cleansed_seen heading k.pattern_steps place p since') (half_seen heading k.pattern_steps place p since') e;
    half_same = by (cleansed heading Patterns place p since) (cleansed heading Patterns place p since') e where_cleansed;
    cleansed_same = same_cleansed (cleansed heading Patterns place p since) (half heading place p since) (seen heading place p since)
        (cleansed heading Patterns place p since') (half heading place p since') (seen heading place p since') e;
  }
    where
      by : (c c' : Bool) → same_phase (marked c (half heading place p since) (seen heading place p since))
          (marked c' (half heading place p since') (seen heading place p since')) ≡ true
          → (c ≡ true → half heading place p since ≡ half heading place p since') → half heading place p since ≡ half heading place p since'
      by true c' e given = given refl
      by false false e given =
          same_half (half heading place p since) (seen heading place p since) (half heading place p since') (seen heading place p since') e
      by false true e given = absurd (true≢false (sym (same_cleansed false (half heading place p since) (seen heading place p since)
          true (half heading place p since') (seen heading place p since') e)))
