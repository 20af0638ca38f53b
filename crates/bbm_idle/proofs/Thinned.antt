-- A history that keeps the rules is alike to itself without idle events, and that keeps them, too.
use Rattle.bbm_idle.proofs.Common.{Patterns, Alike, without, Known}
use Rattle.bbm_rules.proofs.Common.{◌≡◌, Bool, true, false, cond, List, [], ◌∷◌, Option, is_none, refl, sym, ◌∙◌, ap}
use Rattle.bbm_rules.proofs.Common.{and_from, and_parts, Breach, keeps, Heading, Event}
use Rattle.bbm_rules.specs.Broken.{broken}
use Rattle.bbm_idle.specs.Idle.{ChoosesIdle}
use Rattle.bbm_idle.proofs.Base.{base}

module _ (heading : Heading) (k : Known heading) (chosen : List Event → Event → Bool) (idle : ChoosesIdle heading chosen) where
  pub record Thin (h : List Event) : Type 0 where
    pub alike : Alike heading Patterns Patterns h (without chosen h)
    pub kept : keeps heading Patterns (without chosen h) ≡ true

  pub thinned : (h : List Event) → keeps heading Patterns h ≡ true → Thin h
  thinned [] kept = record { alike = k.alike_joins.start Patterns Patterns; kept = refl }
  thinned (e ∷ h) kept = let r = by (thinned h parts.0) (chosen h e) refl in record { alike = r.0; kept = r.1 }
    where
      parts : (keeps heading Patterns h ≡ true) × (is_none (broken heading Patterns h e) ≡ true)
      parts = and_parts (keeps heading Patterns h) (is_none (broken heading Patterns h e)) kept

      rest : List Event
      rest = without chosen h

      by : Thin h → (b : Bool) → chosen h e ≡ b → Alike heading Patterns Patterns (e ∷ h) (cond b rest (e ∷ rest))
          × (keeps heading Patterns (cond b rest (e ∷ rest)) ≡ true)
      by t true b = (
        k.alike_joins.joined Patterns Patterns Patterns (e ∷ h) h rest
            (base heading k h e kept (idle h e b)) t.alike,
        t.kept,
      )
      by t false b =
          let on : keeps heading Patterns (e ∷ rest) ≡ true
          = and_from (keeps heading Patterns rest) (is_none (broken heading Patterns rest e)) t.kept
          (ap (λ (x : Option Breach). is_none x) (sym (k.alike_judges.rule h rest e t.alike)) ∙ parts.1) in
          (k.alike_step h rest e k.proper.some_pe kept on t.alike (k.takes_alike.patterns h rest e t.alike), on)
