use Rattle.bbm_replay_trees.proofs.PageLemmas.{after_attached, after_init, after_null, others}
use Rattle.bbm_replay_trees.proofs.pages.law_fresh_pages.Goals as goal

pub returns : goal.returns
returns c heading = let b = c.below.ensures heading in record {
  init = λ h old new pe page kept same is. after_init heading b h old.fresh same new.fresh pe page kept is;
  null = λ h old new pe page kept same is. after_null heading b h old.fresh same new.fresh pe page kept is;
  attached = λ h old new e inits nulls same nodes is.
      after_attached heading b h old.fresh same new.fresh new.node e inits nulls nodes is;
  others = λ h view e kept inits nulls none same. others heading b h view.fresh same e kept inits nulls none;
}
