use Rattle.bbm_histories.proofs.PatternLemmas.{cleansed_stays, half_stays, last_on, publication_stays}
use Rattle.bbm_histories.proofs.patterns.law_patterns_stay.Goals as goal

pub returns : goal.returns
returns c heading trust = record {
  last = last_on c.law_last_valid.ensures;
  publication = publication_stays heading;
  half = half_stays heading;
  cleansed = cleansed_stays heading trust;
}
