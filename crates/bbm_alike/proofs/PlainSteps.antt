-- One event more, the same in both histories: what goes by the events alone stays alike, whatever the event is.
use Rattle.bbm_rules.proofs.Common.{◌≡◌, ℕ, ◌==◌, cond, List, [], ◌∷◌, take, refl, sym, ◌∙◌, ap, Ttbr0El1, Ttbr1El1, holder_of, is_null, Event, Init, Null, Root, Unroot, Write}
use Rattle.bbm_rules.proofs.Common.{Isb, Msr, Lock, Unlock, Reg, register_values, roots_of, value_of, written_places}
use Rattle.bbm_rules.proofs.RegisterLaw.{first}
use Rattle.bbm_rules.specs.RegisterValues.{Standing, register_value, standing_of, standings}
use Rattle.bbm_alike.specs.Alike.{SameRegisters}

value_alike : (g g' : List Event) (p : ℕ) → ((reg : Reg) → register_values g p reg ≡ register_values g' p reg) → (reg : Reg)
    → register_value g p reg ≡ register_value g' p reg
value_alike g g' p same reg =
    let one : register_value g p reg ∷ [] ≡ register_value g' p reg ∷ []
    = sym (first p reg g) ∙ (ap (take 1) (same reg) ∙ first p reg g') in cc

module _ (h h' : List Event) where
  pub values_step : (e : Event) (place : ℕ) → value_of h place ≡ value_of h' place
      → value_of (e ∷ h) place ≡ value_of (e ∷ h') place
  values_step (Write pe at value) place same = rw same refl
  values_step (Init pe page) place same = rw same refl
  values_step e place same = same

  pub places_step : (e : Event) → written_places h ≡ written_places h'
      → written_places (e ∷ h) ≡ written_places (e ∷ h')
  places_step (Write pe at value) same = rw same refl
  places_step e same = same

  pub roots_step : (e : Event) → roots_of h ≡ roots_of h' → roots_of (e ∷ h) ≡ roots_of (e ∷ h')
  roots_step (Root pe kind lock page) same = rw same refl
  roots_step (Unroot pe page) same = rw same refl
  roots_step e same = same

  pub nulls_step : (e : Event) (page : ℕ) → is_null h page ≡ is_null h' page
      → is_null (e ∷ h) page ≡ is_null (e ∷ h') page
  nulls_step (Null pe at) page same = rw same refl
  nulls_step e page same = same

  values_after : (e : Event) (p : ℕ) (reg : Reg) → register_values h p reg ≡ register_values h' p reg
      → register_values (e ∷ h) p reg ≡ register_values (e ∷ h') p reg
  values_after (Msr pe r value) p reg same = rw same refl
  values_after (Isb pe) p reg same = rw same refl
  values_after e p reg same = same

  -- the present standing is said by the readable values
  standing_alike : (g g' : List Event) (p : ℕ) → ((reg : Reg) → register_values g p reg ≡ register_values g' p reg)
      → standing_of g p ≡ standing_of g' p
  standing_alike g g' p same = rw (value_alike g g' p same Ttbr0El1, value_alike g g' p same Ttbr1El1) refl

  standings_after : (e : Event) (p : ℕ) → standing_of (e ∷ h) p ≡ standing_of (e ∷ h') p → standings h p ≡ standings h' p
      → standings (e ∷ h) p ≡ standings (e ∷ h') p
  standings_after (Msr pe r value) p present same =
      ap (λ (s : Standing). cond (pe == p) (s ∷ standings h p) (standings h p)) present
      ∙ ap (λ (ss : List Standing). cond (pe == p) (standing_of (Msr pe r value ∷ h') p ∷ ss) ss) same
  standings_after (Isb pe) p present same = rw same refl
  standings_after e p present same = same

  pub registers_step : (e : Event) → SameRegisters h h' → SameRegisters (e ∷ h) (e ∷ h')
  registers_step e same = record {
    values = λ p reg. values_after e p reg (same.values p reg);
    standings = λ p.
        standings_after e p (standing_alike (e ∷ h) (e ∷ h') p (λ reg. values_after e p reg (same.values p reg))) (same.standings p);
  }

  pub locks_step : (e : Event) (lock : ℕ) → holder_of h lock ≡ holder_of h' lock
      → holder_of (e ∷ h) lock ≡ holder_of (e ∷ h') lock
  locks_step (Lock pe number) lock same = rw same refl
  locks_step (Unlock pe number) lock same = rw same refl
  locks_step e lock same = same
