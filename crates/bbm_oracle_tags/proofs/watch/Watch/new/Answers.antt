use Rattle.bbm_rules.proofs.Common.{refl, sym}
use Rattle.bbm_oracle_tags.proofs.MomentLemmas.{reads-nothing, reads-nothing-some}
use Rattle.bbm_oracle_tags.proofs.watch.Watch.new.Goals as goal

pub returns : goal.returns
returns c = λ heading p root tag. record {
  looks = record {
    moment = c.in_ok-moment.ensures heading.world p;
    reads = sym (reads-nothing heading p tag root);
    reads_some = sym (reads-nothing-some heading p tag);
  };
  holds = refl;
  left = refl;
  local = c.none.ensures;
  broadcast = c.none-2.ensures;
}
