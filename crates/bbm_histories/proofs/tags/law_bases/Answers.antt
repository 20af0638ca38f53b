use Rattle.bbm_histories.proofs.BaseLemmas.{bases_stay, names_roots, new_root, null_root}
use Rattle.bbm_histories.proofs.tags.law_bases.Goals as goal

pub returns : goal.returns
returns c heading trust = let b = c.below.ensures heading trust in record {
  named = λ h proper kept. names_roots heading trust b proper h kept;
  stay = λ h e proper kept. bases_stay heading trust b proper h e kept;
  null = λ h proper kept. null_root heading trust b proper h kept;
  new_root = λ h pe page kind other lock proper kept. new_root heading trust b proper h pe page kind other lock kept;
}
