use Rattle.bbm_counterrun.proofs.Common.{BestAmong, plain_by}
use Rattle.bbm_rules.proofs.Common.{take, reverse, Write}
use Rattle.bbm_counterrun.proofs.trying.try_numbers.Given as goal

abbrev pub invariant-loop-number : goal.invariant-loop-number
invariant-loop-number l = record {
  best : BestAmong (plain_by l.search.header.now (reverse l.search.events.now) (Write 0 l.search.place l.search.value) l.search.kind
      l.starts l.pe l.reads) (take l.number-index l.numbers) l.best;
}
