use Rattle.bbm_lemmas.proofs.Elements.{filter_map_more}
use Rattle.bbm_counterrun.proofs.numbers.numbers_of.Goals as goal

pub loop-reading-preserved : goal.loop-reading-preserved
loop-reading-preserved c = record {
  so_far = filter_map_more _ c.args.readings.now c.loop-reading.reading-index c.reading-item.result _ _ c.loop-reading-test.true
      c.reading-item.is c.loop-reading.invariant.so_far c.in_ok-add_number.ensures;
}
