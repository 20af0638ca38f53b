use Rattle.bbm_texts.proofs.Common.{Step}
use Rattle.bbm_rules.proofs.Common.{Option, Vec, Global, ap, is_some, true, sym, ◌∙◌}
use Rattle.bbm_texts.proofs.ConflictRuns.{by-leaf, ends-fit}
use Rattle.bbm_texts.proofs.counterrun.report_refused.Goals as goal

pub find_over_leaf-requires : goal.find_over_leaf-requires
find_over_leaf-requires g c = record {
  fits = ends-fit c.args.header.now c.requires.ends.0 c.requires.ends.1 c.args.log.now.items c.requires.ends.2;
}

pub returns-in-Ok-Some : goal.returns-in-Ok-Some
returns-in-Ok-Some g c = λ h e ends.
    by-leaf c.args.header.now h e c.args.verdict.now c.args.log.now.items true c.report_run.result _ _ _ _
    (sym (ap (λ (o : Option (Option (Vec Step Global))). is_some o) c.in-Ok-Some.field-0-is) ∙ c.in-Ok-Some.ensures.leaf) ends (c.report_run.ensures h e ends)
