use Rattle.bbm_rules.proofs.Common.{[], take, get_or, take_more, tag_number}
use Rattle.bbm_counterrun.proofs.MapCode.{map_next}
use Rattle.bbm_counterrun.proofs.numbers.numbers_in.Goals as goal

pub loop-value-preserved : goal.loop-value-preserved
loop-value-preserved c = record {
  so_far = map_next tag_number (take c.loop-value.value-index c.args.values.now) _
      (get_or c.args.values.now c.loop-value.value-index 0) c.tag_number.result [] c.loop-value.numbers.items c.push.new.self.items
      (take_more c.args.values.now c.loop-value.value-index 0 c.loop-value-test.true) c.tag_number.ensures
      c.loop-value.invariant.so_far c.in_ok-push.ensures.items;
}
