use Rattle.bbm_rules.proofs.Common.{ap, ◌∙◌, among, reverse, take}
use Rattle.bbm_counterrun.proofs.ChoiceSteps.{every_number}
use Rattle.bbm_counterrun.proofs.NumberCode.{is_numbered}
use Rattle.bbm_counterrun.proofs.trying.first_number.Goals as goal

pub returns : goal.returns
returns c =
    let search = c.args.search.now in
    every_number search.header.now search.events.now search.place search.value c.args.starts c.args.pe search.kind c.args.reads.now
    c.deref.result.now c.in_ok-best.best c.requires.within (λ n now at v may.
    ap (among n) (c.deref.ensures.value ∙ c.in_ok-numbers.ensures) ∙ is_numbered search.header.now (reverse (take c.args.starts search.events.now)) c.args.pe search.kind n now at v may) c.in_ok-best.ensures
