use Rattle.bbm_texts.proofs.Common.{Event, heading, log_of}
use Rattle.bbm_rules.proofs.Common.{List, arith, subst}
use Rattle.bbm_texts.proofs.Selftests.{log-length, log-longer, unbroken-answer}
use Rattle.bbm_texts.proofs.selftesting.take_event.Goals as goal

pub step-requires : goal.step-requires
step-requires g c =
    let long = log-length c.args.n c.args.i in
    (heading, log_of c.args.n c.args.i, c.requires.stands, c.gen_event.ensures.fits, omega (arith, long, c.ranges.i))

pub returns-in-Ok : goal.returns-in-Ok
returns-in-Ok g c = record {
  taken = subst (λ (h : List Event). g.C.Checker.stands c.step.new.self heading h) (log-longer c.args.n c.args.i c.gen_event.result c.gen_event.ensures.value) (c.in-Ok.ensures.taken heading (log_of c.args.n c.args.i) c.requires.stands);
}

pub want-requires : goal.want-requires
want-requires g c = unbroken-answer c.args.n c.args.i c.gen_event.result c.in-Err.fault c.gen_event.ensures.value c.requires.unbroken c.requires.free (c.in-Err.ensures.judged heading (log_of c.args.n c.args.i) c.requires.stands)
