use Rattle.bbm_histories.proofs.PatternLemmas.{half_begins, one_begins, publication_begins, two_begin}
use Rattle.bbm_histories.proofs.patterns.law_patterns_begin.Goals as goal

pub returns-clause-publication : goal.returns-clause-publication
returns-clause-publication c = publication_begins

pub returns-clause-half : goal.returns-clause-half
returns-clause-half c = half_begins

pub returns-clause-one_step : goal.returns-clause-one_step
returns-clause-one_step c = one_begins

pub returns-clause-two_steps : goal.returns-clause-two_steps
returns-clause-two_steps c = two_begin
