use Rattle.bbm_place_map.proofs.Common.{◌≡◌, ◌∙◌, Bool, false≢true, refl, Option, sym, subst, true, false, not, Publish}
use Rattle.bbm_place_map.proofs.Common.{Does, Effect}
use Rattle.bbm_place_map.proofs.Common.{Entry, Stays}
use Rattle.bbm_place_map.specs.Dsbs.{HasEffect, IsBusy}
use Rattle.bbm_place_map.proofs.Doing.{busy_publish, idle_complete, idle_publish}
use Rattle.bbm_place_map.proofs.visit.is_idle.Goals as goal

not_true : (b : Bool) → not b ≡ true → b ≡ false
not_true true is = absurd (false≢true is)
not_true false is = refl

not_false : (b : Bool) → not b ≡ false → b ≡ true
not_false true is = refl
not_false false is = absurd (false≢true (sym is))

has : (c : goal.After-is_empty) → HasEffect (Publish c.in-Publish.heard) c.args.barrier.now
has c = subst (λ (x : Effect). HasEffect x c.args.barrier.now) c.in-Publish.is c.requires

pub returns-in-Publish-clause-idle : goal.returns-in-Publish-clause-idle
returns-in-Publish-clause-idle c = λ none.
    let by = c.args.barrier.now in
    let P : Effect → Type 0 = λ x. (o : Option Entry) → Stays x by.n o → Does x by o o in
    subst P (sym c.in-Publish.is) (λ o _. idle_publish by c.in-Publish.heard (has c).0 (c.is_empty.ensures.0 none) o)

pub returns-in-Publish-clause-busy : goal.returns-in-Publish-clause-busy
returns-in-Publish-clause-busy c = λ some.
    let by = c.args.barrier.now in
    let P : Effect → Type 0 = λ x. IsBusy x by in
    subst P (sym c.in-Publish.is) (busy_publish by c.in-Publish.heard c.is_empty.result (has c).0 (has c).1 c.is_empty.ensures some)

pub returns-in-Complete-clause-idle : goal.returns-in-Complete-clause-idle
returns-in-Complete-clause-idle c = λ none.
    let by = c.args.barrier.now in
    let P : Effect → Type 0 = λ x. (o : Option Entry) → Stays x by.n o → Does x by o o in
    subst P (sym c.in-Complete.is) (idle_complete by (sym c.completes_local.ensures ∙ not_true c.completes_local.result none))

pub returns-in-Complete-clause-busy : goal.returns-in-Complete-clause-busy
returns-in-Complete-clause-busy c = λ some.
    let by = c.args.barrier.now in
    let P : Effect → Type 0 = λ x. IsBusy x by in
    subst P (sym c.in-Complete.is) (sym c.completes_local.ensures ∙ not_false c.completes_local.result some)
