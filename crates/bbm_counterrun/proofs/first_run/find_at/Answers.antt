use Rattle.bbm_rules.proofs.Common.{option_map, sym, ◌∙◌}
use Rattle.bbm_counterrun.proofs.FindRun.{no_tree_found, run_found}
use Rattle.bbm_counterrun.proofs.first_run.find_at.Goals as goal

pub run_found-requires : goal.run_found-requires
run_found-requires c = record {
  proper = (c.law_proper.ensures c.args.header.now c.said.ensures).start c.in-Some.kind;
  answers = rw c.deref.ensures.value c.in_ok-answers-in-Some.ensures;
}

pub returns-in_ok-found-in-Some : goal.returns-in_ok-found-in-Some
returns-in_ok-found-in-Some c pe same refused leaf =
    let heading = c.args.header.now in
    let write = c.args.write.now in
    run_found heading (record { tested = c.law_plain_is_tested.ensures heading; least = c.law_least_reads.ensures heading })
    write.before.now c.said.ensures c.requires.fits c.args.history.now c.requires.trust c.requires.stands pe write.place write.value
    refused leaf write.log.now same c.in-Some.kind (sym c.in-Some.is ∙ c.kind_at.ensures) c.deref-in-Some.result.now
    (c.deref-in-Some.ensures.value ∙ c.in_ok-way-in-Some.ensures) (option_map (λ v. v.items) c.in_ok-found-in-Some.found)
    c.in_ok-found-in-Some.ensures

pub returns-in-None : goal.returns-in-None
returns-in-None c pe same refused leaf =
    let heading = c.args.header.now in
    let write = c.args.write.now in
    no_tree_found heading (record { tested = c.law_plain_is_tested.ensures heading; least = c.law_least_reads.ensures heading })
    write.before.now c.said.ensures c.requires.fits c.args.history.now c.requires.trust c.requires.stands pe write.place write.value
    refused leaf (sym c.in-None.is ∙ c.kind_at.ensures)
