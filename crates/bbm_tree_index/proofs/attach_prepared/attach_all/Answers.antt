use Rattle.bbm_tree_index.proofs.Common.{get}
use Rattle.bbm_rules.proofs.Common.{◌∙◌, nat_eq, refl, slice_get_read, sym}
use Rattle.bbm_tree_index.proofs.Growing.{same_keys}
use Rattle.bbm_tree_index.proofs.Hanging.{hung_more}
use Rattle.bbm_tree_index.proofs.attach_prepared.attach_all.Goals as goal

pub attach_prepared-requires-clause-pages : goal.attach_prepared-requires-clause-pages
attach_prepared-requires-clause-pages c = c.requires.pages c.loop-index.index c.index-tables-index.result
    (slice_get_read _ _ _ _ refl c.loop-index-test.true c.index-tables-index.is)

pub attach_prepared-requires-clause-same : goal.attach_prepared-requires-clause-same
attach_prepared-requires-clause-same c = c.requires.same ∙ sym c.loop-index.invariant.same.keys

pub attach_prepared-requires-clause-known : goal.attach_prepared-requires-clause-known
attach_prepared-requires-clause-known c = λ p has. c.loop-index.invariant.same.known p
    ∙ c.requires.known c.loop-index.index p c.index-tables-index.result
    (slice_get_read _ _ _ _ refl c.loop-index-test.true c.index-tables-index.is) has

pub loop-index-preserved : goal.loop-index-preserved
loop-index-preserved c = record {
  roles = λ p. hung_more c.args.tables.now p (get nat_eq c.args.roles.now p) c.loop-index.index c.index-tables-index.result
      (slice_get_read _ _ _ _ refl c.loop-index-test.true c.index-tables-index.is) (get nat_eq c.loop-index.roles p)
      (get nat_eq c.attach_prepared.new.roles p) (c.attach_prepared.ensures.roles p) (c.loop-index.invariant.roles p);
  same = same_keys c.attach_prepared.ensures.same c.loop-index.invariant.same;
}
