use Rattle.bbm_rules.proofs.Common.{Option, subst, Breach}
use Rattle.bbm_judge.specs.Judges.{Judges}
use Rattle.bbm_judge.proofs.Stands.{broken_stands}
use Rattle.bbm_judge.proofs.order.judge.Goals as goal

pub returns : goal.returns
returns g c = λ heading h s.
    let P : Option Breach → Type 0 = λ b. Judges c.first_broken.result b in
    subst P (broken_stands c.args.history.now heading h s c.args.event.now) c.first_broken.ensures
