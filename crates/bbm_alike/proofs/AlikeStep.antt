-- After the same event, histories that are alike are so still.
use Rattle.bbm_rules.proofs.Common.{◌≡◌, ℕ, ◌<◌, true, List, ◌∷◌, Heading, Event, keeps, Trust, roots_of, value_of}
use Rattle.bbm_rules.proofs.Common.{written_places}
use Rattle.bbm_rules.proofs.Common.{Unroot, ap, given_up, with_number}
use Rattle.bbm_alike.specs.Alike.{Alike, TakesAlike}
use Rattle.bbm_alike.specs.KnownOfHistories.{Known}
use Rattle.bbm_alike.specs.SameTags.{SameTags}
use Rattle.bbm_alike.proofs.PlainSteps.{locks_step, nulls_step, places_step, registers_step, roots_step, values_step}
use Rattle.bbm_alike.proofs.TagSteps.{same_tags_step}
use Rattle.bbm_alike.proofs.TreesStep.{clean_step, fresh_step, held_step, patterns_step, tops_step, trees_step}

given_step : (h h' : List Event) (e : Event) → given_up h ≡ given_up h' → given_up (e ∷ h) ≡ given_up (e ∷ h')
given_step h h' (Unroot pe page) same = ap (λ (pages : List ℕ). with_number page pages) same
given_step h h' e same = same

module _ (heading : Heading) (k : Known heading) (one other : Trust) (h h' : List Event) (e : Event) (pes : 0 < heading.pes)
    (unbroken : keeps heading one (e ∷ h) ≡ true) (unbroken' : keeps heading other (e ∷ h') ≡ true)
    (a : Alike heading one other h h') (t : TakesAlike heading one other h h' e) where
  values : (place : ℕ) → value_of (e ∷ h) place ≡ value_of (e ∷ h') place
  values place = values_step h h' e place (a.values place)

  roots : roots_of (e ∷ h) ≡ roots_of (e ∷ h')
  roots = roots_step h h' e a.roots

  places : written_places (e ∷ h) ≡ written_places (e ∷ h')
  places = places_step h h' e a.places

  tags : SameTags heading one other (e ∷ h) (e ∷ h')
  tags =
      same_tags_step heading k.equality_tests.tags k.tag_steps.waits h h' e a.roots a.registers one other (k.tag_kept one) t.takes
      (record { tags = a.tags; holds = a.holds; left = a.left; tag_wait = a.tag_wait })

  pub alike_step : Alike heading one other (e ∷ h) (e ∷ h')
  alike_step = record {
    values = values;
    places = places;
    roots = roots;
    nulls = λ page. nulls_step h h' e page (a.nulls page);
    registers = registers_step h h' e a.registers;
    locks = λ lock. locks_step h h' e lock (a.locks lock);
    trees = trees_step heading k one other h h' a e pes unbroken unbroken' t values roots places;
    fresh = fresh_step heading k one other h h' a e pes unbroken unbroken' t values roots places;
    clean = clean_step heading k one other h h' a e pes unbroken unbroken' t values roots places;
    held = held_step heading k one other h h' a e pes unbroken unbroken' t values roots places;
    patterns = patterns_step heading k one other h h' a e pes unbroken unbroken' t values roots places;
    tops = tops_step heading k one other h h' a e pes unbroken unbroken' t values roots places;
    tags = tags.tags;
    given = given_step h h' e a.given;
    holds = tags.holds;
    left = tags.left;
    tag_wait = tags.tag_wait;
  }
