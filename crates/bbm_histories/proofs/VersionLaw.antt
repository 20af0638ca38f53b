-- Versions 1 and 2 judge alike, where the header has no `cnp` and no register is given a value with bit 0 set.
use Rattle.bbm_histories.proofs.Common.{Heading, Event, Rule, WrongWorld}
use Rattle.bbm_rules.proofs.Common.{option_map_or, ◌≡◌, ℕ, suc, ◌&&◌, ◌||◌, not, Bool, false, List, [], ◌∷◌, length}
use Rattle.bbm_rules.proofs.Common.{Option, Some, is_none, refl, sym, ◌∙◌, ap, or_parts, Breach, breaks, first_broken}
use Rattle.bbm_rules.proofs.Common.{keeps, Trust, noted, any, if_so, Noted, kind_of_reg, kind_in_world}
use Rattle.bbm_events.specs.declared.event.Event.TheVariants.{Msr}
use Rattle.bbm_rules.specs.Broken.{broken, rules}
use Rattle.bbm_rules.specs.Tree.{tree}
use Rattle.bbm_histories.specs.Versions.{in_version, sets_bit_0, verdict_after, verdict_of}

abbrev breach_of : Rule → ℕ → Option Breach
breach_of rule at = Some (record { rule = rule; at = at })

module _ (heading : Heading) (trust : Trust) where
  rule_alike : (h : List Noted) (e : Event) (r : Rule) → sets_bit_0 e ≡ false
      → breaks (in_version 1 heading) trust h e r ≡ breaks (in_version 2 heading) trust h e r
  unfolding tree
  rule_alike h (Msr pe reg value) WrongWorld k =
      ap (λ (b : Bool). if_so (not (kind_in_world heading.world (kind_of_reg reg)) || b) 0) (sym k)
  rule_alike h e r k = refl

  first_alike : (h : List Noted) (e : Event) (rs : List Rule) → sets_bit_0 e ≡ false
      → first_broken (in_version 1 heading) trust h e rs ≡ first_broken (in_version 2 heading) trust h e rs
  first_alike h e [] k = refl
  first_alike h e (r ∷ rs) k =
      ap (λ (o : Option ℕ). option_map_or (breach_of r) o (first_broken (in_version 1 heading) trust h e rs)) (rule_alike h e r k)
      ∙ ap (option_map_or (breach_of r) (breaks (in_version 2 heading) trust h e r)) (first_alike h e rs k)

  broken_alike : (h : List Event) (e : Event) → sets_bit_0 e ≡ false
      → broken (in_version 1 heading) trust h e ≡ broken (in_version 2 heading) trust h e
  unfolding broken tree
  broken_alike h e k = first_alike (noted (in_version 2 heading) trust h) e rules k

  keeps_alike : (h : List Event) → any sets_bit_0 h ≡ false
      → keeps (in_version 1 heading) trust h ≡ keeps (in_version 2 heading) trust h
  keeps_alike [] k = refl
  keeps_alike (e ∷ h) k =
      let parts = or_parts (sets_bit_0 e) (any sets_bit_0 h) k in
      ap (λ (b : Bool). b && is_none (broken (in_version 1 heading) trust h e)) (keeps_alike h parts.1)
      ∙ ap (λ (o : Option Breach). keeps (in_version 2 heading) trust h && is_none o) (broken_alike h e parts.0)

  verdict_alike : (h : List Event) → any sets_bit_0 h ≡ false
      → verdict_of (in_version 1 heading) trust h ≡ verdict_of (in_version 2 heading) trust h
  verdict_alike [] k = refl
  verdict_alike (e ∷ h) k =
      let parts = or_parts (sets_bit_0 e) (any sets_bit_0 h) k in
      ap (λ (o : Option Breach). verdict_after (suc (length h)) o (verdict_of (in_version 1 heading) trust h))
      (broken_alike h e parts.0)
      ∙ ap (verdict_after (suc (length h)) (broken (in_version 2 heading) trust h e)) (verdict_alike h parts.1)

pub kept_alike : (heading : Heading) (trust : Trust) (h : List Event) → any sets_bit_0 h ≡ false
    → keeps (in_version 1 heading) trust h ≡ keeps (in_version 2 heading) trust h
kept_alike = keeps_alike

pub judged_alike : (heading : Heading) (trust : Trust) (h : List Event) → any sets_bit_0 h ≡ false
    → verdict_of (in_version 1 heading) trust h ≡ verdict_of (in_version 2 heading) trust h
judged_alike = verdict_alike

pub ruleset laws = (kept_alike, judged_alike)
