use Rattle.bbm_tree_index.proofs.Common.{get, keys, Counts, Partly, Reached, fresh_of, value_at}
use Rattle.bbm_rules.proofs.Common.{ℕ, Bool, false, ◌||◌, ◌==◌, ◌+◌, nat_eq, take, sym, ap, ◌∙◌, subst, arith, list_any}
use Rattle.bbm_rules.proofs.Common.{lookup, true≢false, page_of}
use Rattle.bbm_tree_index.proofs.Growing.{all_keys, first_more_keys, not_before, well_none}
use Rattle.bbm_tree_index.proofs.Levels.{all_done}
use Rattle.bbm_tree_index.proofs.Scanning.{alike}
use Rattle.bbm_tree_index.proofs.survey.expand.Goals as goal

pub loop-index-init : goal.loop-index-init
loop-index-init c = record {
  well = well_none c.args.header.now (get nat_eq c.new-below.result) (λ p. ap (λ es. lookup (nat_eq p) es) c.new-below.ensures.empty);
  level = λ starts k uniform plain level q. subst (Counts (Partly (fresh_of c.args.roles.now) (value_at c.args.map.now) starts k (λ a. false)) q)
      (sym (ap (λ es. lookup (nat_eq q) es) c.new-below.ensures.empty)) (λ m r at. true≢false (sym r.is_done));
}

pub loop-index-preserved : goal.loop-index-preserved
loop-index-preserved c = let fresh = fresh_of c.args.roles.now in let value = value_at c.args.map.now in
    let ks = keys c.args.level.now in let i = c.loop-index.index in let page = c.entry_at-page.result.0 in
    let entry = c.entry_at-page.ensures in record {
      well = c.in_ok-expand_entry.ensures.well c.args.header.now c.loop-index.invariant.well;
      level = λ starts k uniform plain level.
          let old : ℕ → Bool = λ a. list_any (nat_eq (page_of a)) (take i ks) in
          alike fresh value starts k (λ a. old a || page_of a == page) (λ a. list_any (nat_eq (page_of a)) (take (i + 1) ks))
          (λ q a at. first_more_keys ks i page (page_of a) entry.at) (get nat_eq c.expand_entry.new.below)
          (c.in_ok-expand_entry.ensures.level starts k old uniform plain
          (λ a e. ap (λ p. list_any (nat_eq p) (take i ks)) e ∙ not_before ks i page entry.unique entry.at)
          (subst (Counts (Reached fresh value starts k) page) entry.mark (level page))
          (c.loop-index.invariant.level starts k uniform plain level));
    }

pub returns-clause-level : goal.returns-clause-level
returns-clause-level c = λ starts k uniform plain level. all_done (fresh_of c.args.roles.now) (value_at c.args.map.now) starts k
    (get nat_eq c.args.level.now) (get nat_eq c.loop-index.below) (λ a. list_any (nat_eq (page_of a)) (take c.loop-index.index (keys c.args.level.now)))
    level (λ a e. all_keys c.args.level.now c.loop-index.index (omega (arith, c.loop-index-test.false, c.len-index-end.ensures.len)) (page_of a) ∙ e)
    (c.loop-index.invariant.level starts k uniform plain level)
