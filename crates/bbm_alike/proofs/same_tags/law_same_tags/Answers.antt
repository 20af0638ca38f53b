use Rattle.bbm_alike.proofs.IdleTags.{same_after_dmb, same_after_dsb, same_after_isb, same_after_tlbi}
use Rattle.bbm_alike.proofs.same_tags.law_same_tags.Goals as goal

pub returns : goal.returns
returns c heading =
    let tags = c.law_equality_tests.ensures.tags in
    let steps = c.law_tag_steps.ensures heading in record {
      dmb = same_after_dmb heading tags steps.waits;
      isb = same_after_isb heading tags steps.waits;
      tlbi = same_after_tlbi heading tags steps.waits steps.lost;
      dsb = λ q dsb h. same_after_dsb heading tags steps.waits steps.lost q dsb h (c.law_answered.ensures.sound q h);
    }
