use Rattle.bbm_rules.proofs.Common.{◌∷◌}
use Rattle.bbm_histories.proofs.Induction.{kept_before}
use Rattle.bbm_histories.proofs.PatternLemmas.{answer_stays, publication_stays}
use Rattle.bbm_histories.proofs.ValueLemmas.{published_stays, stays_unreadable}
use Rattle.bbm_histories.proofs.values.law_frozen.Goals as goal

pub returns : goal.returns
returns c heading trust = let b = c.below.ensures heading trust in record {
  kept = kept_before heading trust;
  published = published_stays heading trust b;
  publication = publication_stays heading;
  answered = answer_stays;
  covered = λ newer older e. b.notes.ends_in_older newer (e ∷ older);
  unreadable = stays_unreadable heading trust b;
}
