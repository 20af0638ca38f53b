-- The phase of a place, by the trace of its last valid write.
use Rattle.bbm_rules.proofs.Common.{◌≡◌, ℕ, ◌||◌, Bool, true, false, refl, cond, List, Option, Some, None, sym, ◌∙◌, ap}
use Rattle.bbm_rules.proofs.Common.{option_and_then, unwrap_or, is_valid, Trust, cleansed, half, seen, ValidWrite}
use Rattle.bbm_rules.proofs.Common.{cleansed_everywhere, last_valid, Noted, broken_phase, Heading}
use Rattle.bbm_rules.specs.Held.{emptied}
use Rattle.bbm_rules.specs.Prelude.{Kind}
use Rattle.bbm_rules.specs.declared.phase.Phase.TheVariants.{Clean, Live}
use Rattle.bbm_oracle_patterns.specs.PlacePhases.{furthest, phase_at}

module _ (heading : Heading) (trust : Trust) (kind : Kind) (level place value p : ℕ) (h since : List Noted)
    (old : ℕ) where
  -- the last valid write is found, and it is known what is cleansed, half and seen since
  pub phase_found : (everywhere valid clean halfway published : Bool) →
      last_valid kind level place h ≡ Some (record { value = old; since = since }) →
      everywhere ≡ (emptied heading trust kind level place h || cleansed_everywhere heading trust place since) → valid ≡ is_valid kind level value →
      clean ≡ cleansed heading trust place p since → halfway ≡ half heading place p since
      → published ≡ seen heading place p since →
      cond everywhere Clean (cond valid Live (furthest clean halfway published))
      ≡ phase_at heading trust kind level place value p h
  phase_found everywhere valid clean halfway published found all_is valid_is clean_is half_is seen_is =
      ap (λ (b : Bool). cond everywhere Clean (cond valid Live (furthest b halfway published))) clean_is
      ∙ ap (λ (b : Bool). cond everywhere Clean
      (cond valid Live (furthest (cleansed heading trust place p since) b published))) half_is
      ∙ ap (λ (b : Bool). cond everywhere Clean
      (cond valid Live (furthest (cleansed heading trust place p since) (half heading place p since) b))) seen_is
      ∙ ap (λ (b : Bool). cond everywhere Clean (cond b Live (broken_phase heading trust place p since))) valid_is
      ∙ ap (λ (b : Bool). cond b Clean (cond (is_valid kind level value) Live
      (broken_phase heading trust place p since))) all_is
      ∙ by (emptied heading trust kind level place h || cleansed_everywhere heading trust place since)
      ∙ ap (λ (o : Option ValidWrite). unwrap_or
      (option_and_then (λ w. cond (emptied heading trust kind level place h || cleansed_everywhere heading trust place w.since) None
      (Some (cond (is_valid kind level value) Live (broken_phase heading trust place p w.since)))) o) Clean) (sym found)
    where
      by : (b : Bool) → cond b Clean (cond (is_valid kind level value) Live (broken_phase heading trust place p since))
          ≡ unwrap_or (cond b None (Some (cond (is_valid kind level value) Live
          (broken_phase heading trust place p since)))) Clean
      by true = refl
      by false = refl
