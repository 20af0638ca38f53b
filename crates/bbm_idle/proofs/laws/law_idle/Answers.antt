use Rattle.bbm_idle.proofs.Common.{without}
use Rattle.bbm_rules.proofs.Common.{sym}
use Rattle.bbm_idle.specs.Idle.{is_idle}
use Rattle.bbm_idle.proofs.Rest.{left}
use Rattle.bbm_idle.proofs.Thinned.{thinned}
use Rattle.bbm_idle.proofs.laws.law_idle.Goals as goal

pub returns-clause-all : goal.returns-clause-all
returns-clause-all c heading h ok kept =
    let t = thinned heading (c.known.ensures heading ok) (is_idle heading) (λ older e idle. idle) h kept in t.kept

pub returns-clause-any : goal.returns-clause-any
returns-clause-any c heading h chosen ok idle kept =
    let t = thinned heading (c.known.ensures heading ok) chosen idle h kept in t.kept

pub returns-clause-alike : goal.returns-clause-alike
returns-clause-alike c heading h chosen ok idle kept =
    let t = thinned heading (c.known.ensures heading ok) chosen idle h kept in t.alike

pub returns-clause-phases : goal.returns-clause-phases
returns-clause-phases c heading h chosen place p ok idle kept less =
    let k = c.known.ensures heading ok in
    let t = thinned heading k chosen idle h kept in
    sym (k.alike_judges.phase h (without chosen h) place p t.alike less)

pub returns-clause-judged : goal.returns-clause-judged
returns-clause-judged c heading h chosen e ok idle kept =
    let k = c.known.ensures heading ok in
    let t = thinned heading k chosen idle h kept in
    sym (k.alike_judges.rule h (without chosen h) e t.alike)

pub returns-clause-rest : goal.returns-clause-rest
returns-clause-rest c heading h newer older e ok kept split =
    let l = left heading (c.known.ensures heading ok) h kept in l.none_idle newer older e split
