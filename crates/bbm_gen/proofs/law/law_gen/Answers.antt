use Rattle.bbm_gen.proofs.Logs.{each_unbroken, event_fits, keeps_rules, no_limit}
use Rattle.bbm_gen.proofs.law.law_gen.Goals as goal

pub returns : goal.returns
returns c = record {
  kept = keeps_rules c.below.ensures c.args.n c.args.count;
  unbroken = λ i lt. each_unbroken c.below.ensures c.args.n i;
  fits = λ i lt. event_fits c.args.n i;
  limits = λ i lt. no_limit c.args.n i;
}
