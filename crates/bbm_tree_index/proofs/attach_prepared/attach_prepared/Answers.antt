use Rattle.bbm_tree_index.proofs.Common.{get, keys, hung}
use Rattle.bbm_rules.proofs.Common.{◌∙◌, ap, sym, nat_eq, is_some, arith, if◌then◌else◌}
use Rattle.bbm_tree_index.proofs.Growing.{all_keys, first_more_keys, same_keys}
use Rattle.bbm_tree_index.proofs.Hanging.{at_end, one_more}
use Rattle.bbm_tree_index.proofs.attach_prepared.attach_prepared.Goals as goal

pub put-requires-clause-same : goal.put-requires-clause-same
put-requires-clause-same c = c.requires.same ∙ sym c.loop-index.invariant.same.keys

pub put-requires-clause-known : goal.put-requires-clause-known
put-requires-clause-known c = c.loop-index.invariant.same.known c.entry_at-page.result.0
    ∙ c.requires.known c.entry_at-page.result.0 (ap (λ o. is_some o) c.entry_at-page.ensures.mark)

pub loop-index-preserved : goal.loop-index-preserved
loop-index-preserved c = let page = c.entry_at-page.result.0 in record {
  roles = λ p. one_more p page _ (get nat_eq c.args.level.now) c.entry_at-page.result.1 (get nat_eq c.args.roles.now p)
      (get nat_eq c.loop-index.roles p) (get nat_eq c.put.new.roles p) c.entry_at-page.ensures.mark (c.loop-index.invariant.roles p) (c.put.ensures.roles p)
      ∙ ap (λ b. if b then hung (get nat_eq c.args.level.now p) (get nat_eq c.args.roles.now p) else get nat_eq c.args.roles.now p)
      (sym (first_more_keys (keys c.args.level.now) c.loop-index.index page p c.entry_at-page.ensures.at));
  same = same_keys c.put.ensures.same c.loop-index.invariant.same;
}

pub returns-clause-roles : goal.returns-clause-roles
returns-clause-roles c = λ p. c.loop-index.invariant.roles p
    ∙ ap (λ b. if b then hung (get nat_eq c.args.level.now p) (get nat_eq c.args.roles.now p) else get nat_eq c.args.roles.now p)
    (all_keys c.args.level.now c.loop-index.index (omega (arith, c.loop-index-test.false, c.len-index-end.ensures.len)) p)
    ∙ at_end (get nat_eq c.args.level.now p) (get nat_eq c.args.roles.now p)
