use Rattle.bbm_rules.proofs.Common.{None, root_pages, from_contains}
use Rattle.bbm_replay_trees.proofs.RuleLemmas.{init_free, init_rule, null_unfresh, null_unused, null_used, root_fresh}
use Rattle.bbm_replay_trees.proofs.RuleLemmas.{root_rule}
use Rattle.bbm_replay_trees.proofs.rules.law_page_rules.Goals as goal

pub returns : goal.returns
returns c heading =
    let b = c.below.ensures heading in
    let events = b.notes_keep_the_events in record {
      init = λ h view. init_rule heading h (events h) view.node view.null;
      root = λ h view. root_rule heading h (events h) view.fresh;
      init_free = λ h view. init_free heading h (events h) view.node view.null;
      root_fresh = λ h view pe page kind lock n same none there.
          root_fresh heading h (events h) view.fresh pe page kind lock n.page same none
          (from_contains (root_pages heading.world kind page) n.page
          (b.root_pages.fields (record { page = page; kind = kind; lock = None }) n there).4);
      null_unused = λ h view. null_unused heading h (events h) view.fresh view.value;
      null_unfresh = λ h view. null_unfresh heading h (events h) view.fresh;
      null_used = λ h view. null_used heading h (events h) view.value;
    }
