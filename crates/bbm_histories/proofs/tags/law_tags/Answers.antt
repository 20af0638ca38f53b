use Rattle.bbm_histories.proofs.TagLemmas.{becomes, between, holder_is_root, kept_between, left_alone, none_left, one_left, one_root}
use Rattle.bbm_histories.proofs.TagLemmas.{stops, taken_begins}
use Rattle.bbm_histories.proofs.tags.law_tags.Goals as goal

pub returns : goal.returns
returns c heading trust = let b = c.below.ensures heading trust in record {
  becomes = λ h e proper kept. becomes heading trust b proper h e kept;
  stops = λ h e proper kept. stops heading trust b proper h e kept;
  one_root = λ h proper kept. one_root heading trust b proper h kept;
  root = λ h proper kept. holder_is_root heading trust b proper h kept;
  left_alone = λ h proper kept. left_alone heading trust b proper h kept;
  one_left = λ h proper kept. one_left heading trust b proper h kept;
  none_left = none_left heading trust b;
  taken_begins = taken_begins heading trust b;
  between = between heading trust b;
  kept_between = kept_between heading trust b;
}
