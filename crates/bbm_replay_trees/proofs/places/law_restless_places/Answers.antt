use Rattle.bbm_rules.proofs.Common.{from_contains, to_contains}
use Rattle.bbm_replay_trees.proofs.CountLemmas.{counted, numbered}
use Rattle.bbm_lemmas.proofs.Words.{apart}
use Rattle.bbm_replay_trees.proofs.places.law_restless_places.Goals as goal

pub returns : goal.returns
returns c heading = let b = c.below.ensures heading in record {
  listed = λ h places once iff.
      counted heading b h places (apart places once)
      (λ a i. (iff a).0 (to_contains places a i)) (λ a r. from_contains places a ((iff a).1 r));
  numbered = numbered heading b;
}
