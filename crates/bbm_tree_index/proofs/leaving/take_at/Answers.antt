use Rattle.bbm_tree_index.proofs.Common.{roles_of}
use Rattle.bbm_rules.proofs.Common.{◌∙◌, ◌<◌, ◌^◌, false≢true, sym, subst}
use Rattle.bbm_tree_index.proofs.Departures.{takes_none}
use Rattle.bbm_tree_index.proofs.leaving.take_at.Goals as goal

pub returns-in-Some-clause-taken : goal.returns-in-Some-clause-taken
returns-in-Some-clause-taken c = λ s is d. let t = c.take_page.ensures.taken s is d in record {
  departs = t.departs;
  kept = t.kept;
  taken = λ p k. t.taken p (k.0 ∙ sym c.in-Some.ensures.value);
}

pub returns-in-None-clause-taken : goal.returns-in-None-clause-taken
returns-in-None-clause-taken c = λ s is d.
    takes_none s _ (roles_of c.args.roles.now) c.args.map.now
    (λ p k. false≢true (c.in-None.ensures.is_one.1 (subst (λ x. x < 2 ^ 48) k.0 k.1, c.requires.aligned))) d
