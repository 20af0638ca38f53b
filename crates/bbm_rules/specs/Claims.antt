-- What the rules trust: every pattern of events that is there, or the patterns that a certificate names.
-- Source: project's own choice.
use Rattle.std.specs.Prelude.{Bool, true, false, ◌&&◌, ◌==◌, List}
pub use Rattle.bbm_regimes.specs.SameRegister.{same_tag}
use Rattle.bbm_events.specs.declared.claim.Claim.{Claim}
use Rattle.bbm_events.specs.declared.claim.Claim.TheVariants.{Place, Two, Taken}
use Rattle.bbm_rules.specs.Lists.{any}

-- whether two claims are the same
abbrev pub same_claim : Claim → Claim → Bool
same_claim (Place p a b t d) (Place p' a' b' t' d') = p == p' && a == a' && b == b' && t == t' && d == d'
same_claim (Two p a b t1 d1 t2 d2) (Two p' a' b' t1' d1' t2' d2') =
    p == p' && a == a' && b == b' && t1 == t1' && d1 == d1' && t2 == t2' && d2 == d2'
same_claim (Taken p g t d) (Taken p' g' t' d') = p == p' && same_tag g g' && t == t' && d == d'
same_claim _ _ = false

-- Under `Patterns` a place is cleansed, and a tag taken away, by every pattern of events that the definitions ask
-- for. Under `Listed` only by a pattern that a claim of the list names.
pub data Trust : Type 0 where
  Patterns : Trust
  Listed : List Claim → Trust

abbrev pub allows : Trust → Claim → Bool
allows Patterns claim = true
allows (Listed cs) claim = any (λ c. same_claim c claim) cs
