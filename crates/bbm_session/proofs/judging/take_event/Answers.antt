use Rattle.bbm_rules.proofs.Common.{length}
use Rattle.bbm_session.proofs.Judgements.{event-kept, keeps-more, keeps-on}
use Rattle.bbm_session.proofs.judging.take_event.Goals as goal

pub returns-in-Ok-clause-taken : goal.returns-in-Ok-clause-taken
returns-in-Ok-clause-taken g c = λ is heading h label keeps fits.
    let before = g.C.Checker.stands c.args.judging.now.checker in
    let after = g.C.Checker.stands c.step.new.self in
    let judged = c.in-Ok.ensures.judged heading h keeps.known in (
      event-kept after c.args.judging.now.limits heading c.args.number h c.args.event label judged.0 judged.1
          (c.may_reach.ensures.none c.if-may_reach.false (length h)),
      keeps-more before after heading h c.args.event keeps fits judged.0 (c.in-Ok.ensures.taken heading h keeps.known),
    )

pub returns-in-Err-clause-untaken : goal.returns-in-Err-clause-untaken
returns-in-Err-clause-untaken g c = λ is heading h keeps.
    keeps-on (g.C.Checker.stands c.args.judging.now.checker) (g.C.Checker.stands c.step.new.self) heading h keeps
    (c.in-Err.ensures.unchanged heading h keeps.known)
