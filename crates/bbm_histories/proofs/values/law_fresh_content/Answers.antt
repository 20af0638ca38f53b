use Rattle.bbm_rules.proofs.Common.{noted}
use Rattle.bbm_histories.proofs.AttachedLemmas.{holds_present}
use Rattle.bbm_histories.proofs.FreshLemmas.{content}
use Rattle.bbm_histories.proofs.Induction.{last_kept}
use Rattle.bbm_histories.proofs.Invariants.{invariants}
use Rattle.bbm_histories.proofs.values.law_fresh_content.Goals as goal

pub returns : goal.returns
returns c heading trust = let b = c.below.ensures heading trust in record {
  odd_stays = λ h kept. (invariants heading trust b h kept).odd;
  content = λ h kept. content heading trust b (noted heading trust h) (invariants heading trust b h kept).odd;
  attached = λ h e pes kept n place a inside.
      let parts = last_kept heading trust b h e kept in
      holds_present heading trust b (noted heading trust h) (invariants heading trust b h parts.0)
      e n place a inside pes;
}
