use Rattle.bbm_rules.proofs.Common.{Patterns}
use Rattle.bbm_histories.proofs.UniformLemmas.{flush_alike, half_alike, half_test_alike, publication_alike}
use Rattle.bbm_histories.proofs.UniformLemmas.{published_alike, reached_alike, seen_alike}
use Rattle.bbm_histories.proofs.patterns.law_uniform.Goals as goal

pub returns : goal.returns
returns c heading = record {
  published = λ q p r later cnp. published_alike heading cnp Patterns (c.below.ensures heading Patterns) q p r later;
  publication = λ place p r since b cnp. publication_alike heading cnp place p r since b;
  reached = λ e p r cnp. reached_alike heading cnp e p r;
  seen = λ place p r since cnp. seen_alike heading cnp Patterns (c.below.ensures heading Patterns) place p r since;
  half_test = λ place p r since cnp.
      half_test_alike heading cnp Patterns (c.below.ensures heading Patterns) place p r since;
  half = λ place p r since b t d cnp. half_alike heading cnp place p r since b t d;
  flush = λ cover place p r since t d cnp. flush_alike heading cnp cover place p r since t d;
}
