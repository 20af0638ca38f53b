-- Where every pattern is trusted, no later events tell histories apart that are alike.
use Rattle.bbm_rules.proofs.Common.{◌≡◌, ◌<◌, true, is_none, List, [], ◌∷◌, ◌++◌, sym, ◌∙◌, and_parts, Heading, Event}
use Rattle.bbm_rules.proofs.Common.{keeps, Patterns}
use Rattle.bbm_rules.specs.Broken.{broken}
use Rattle.bbm_alike.specs.Alike.{Alike}
use Rattle.bbm_alike.specs.KnownOfHistories.{Known}
use Rattle.bbm_alike.proofs.AlikeJudges.{same_keeps}
use Rattle.bbm_alike.proofs.AlikeStep.{alike_step}
use Rattle.bbm_alike.proofs.TakesLemmas.{takes_patterns}

module _ (heading : Heading) (k : Known heading) (pes : 0 < heading.pes) (h h' : List Event)
    (a : Alike heading Patterns Patterns h h') (unbroken' : keeps heading Patterns h' ≡ true) where
  abbrev Still : List Event → Type 0
  Still newer = (keeps heading Patterns (newer ++ h') ≡ true) × Alike heading Patterns Patterns (newer ++ h) (newer ++ h')

  one_more : (e : Event) (newer : List Event) → keeps heading Patterns (e ∷ (newer ++ h)) ≡ true
      → keeps heading Patterns (newer ++ h) ≡ true → Still newer → Still (e ∷ newer)
  one_more e newer unbroken before still =
      let kept : keeps heading Patterns (e ∷ (newer ++ h')) ≡ true
      = sym (same_keeps heading k Patterns Patterns (newer ++ h) (newer ++ h') still.1 e (before ∙ sym still.0)) ∙ unbroken in (
        kept,
        alike_step heading k Patterns Patterns (newer ++ h) (newer ++ h') e pes unbroken kept still.1
            (takes_patterns heading k (newer ++ h) (newer ++ h') still.1 e),
      )

  pub onward : (newer : List Event) → keeps heading Patterns (newer ++ h) ≡ true → Still newer
  onward [] unbroken = (unbroken', a)
  onward (e ∷ newer) unbroken =
      let before = (and_parts (keeps heading Patterns (newer ++ h)) (is_none (broken heading Patterns (newer ++ h) e)) unbroken).0 in
      one_more e newer unbroken before (onward newer before)
