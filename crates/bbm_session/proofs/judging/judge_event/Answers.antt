use Rattle.bbm_session.proofs.Common.{limit_after, NoMemory, event_needs}
use Rattle.bbm_rules.proofs.Common.{◌≡◌, ◌∷◌, suc, length, None, Err, true, ap, sym, arith}
use Rattle.bbm_session.proofs.Judgements.{needed, event-refused, event-kept, keeps-more, keeps-on}
use Rattle.bbm_session.proofs.judging.judge_event.Goals as goal

pub returns-in-Err-clause-judges : goal.returns-in-Err-clause-judges
returns-in-Err-clause-judges g c = λ heading h keeps fits.
    let before = g.C.Checker.stands c.args.judging.now.checker in
    let kept = keeps-on before (g.C.Checker.stands c.step.new.self) heading h keeps (c.in-Err.ensures.unchanged heading h keeps.known) in
    let frugal = g.C.Checker.frugal c.args.judging.now.checker in
    let needs = λ (stops : c.refuse.new.stop ≡ NoMemory). needed frugal heading h c.args.event (Err c.in-Err.fault) c.in-Err.ensures.frugal_barriers (λ is writes. c.in-Err.ensures.frugal_writes heading h keeps.known is writes) (ap Err (c.refuse.ensures.want stops)) in
    event-refused (g.C.Checker.stands c.step.new.self) c.args.judging.now.limits heading (event_needs frugal heading h c.args.event ≡ true) c.refuse.new.stop c.args.number h c.args.event c.args.label kept needs (c.refuse.ensures.stops _ _ (c.in-Err.ensures.judged heading h keeps.known))

pub returns-in-None-clause-judges : goal.returns-in-None-clause-judges
returns-in-None-clause-judges g c = λ heading h keeps fits.
    let judged = c.in_default.ensures.judged heading h keeps.known in
    let taken = c.in_default.ensures.taken heading h keeps.known in
    let counted = c.events.ensures heading (c.args.event ∷ h) taken in
    let count : c.events.result ≡ suc (length h) = omega (arith, counted) in
    let free : limit_after c.args.judging.now.limits c.args.number (length h) ≡ None = sym (c.in-None.ensures.reached (length h) count) in
    let after = g.C.Checker.stands c.step.new.self in
    (c.args.event ∷ h, event-kept after c.args.judging.now.limits heading c.args.number h c.args.event c.args.label judged.0 judged.1 free, keeps-more (g.C.Checker.stands c.args.judging.now.checker) after heading h c.args.event keeps fits judged.0 taken, omega arith)
