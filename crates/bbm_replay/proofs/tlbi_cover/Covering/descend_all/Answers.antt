use Rattle.bbm_replay.proofs.Common.{below_more, core_at, IsSettled, MetFromAll, covers_kind}
use Rattle.bbm_rules.proofs.Common.{◌≡◌, ℕ, true, Some, arith, page_count, Declared}
use Rattle.bbm_tree_index.specs.Index.{node_in}
use Rattle.bbm_roots.specs.Listed.{nth_in}
use Rattle.bbm_replay.proofs.Findings.{settled_more}
use Rattle.bbm_replay.proofs.tlbi_cover.Covering.descend_all.Goals as goal

pub loop-number-preserved : goal.loop-number-preserved
loop-number-preserved c =
    let by = c.args.self.now in
    let map = c.args.map.now in
    let v = c.loop-number.invariant in
    let e = c.in_ok-descend_root.ensures in
    let new = c.descend_root.new.found.items in
    record {
      grows = (λ all. e.grows.0 (v.grows.0 all), λ a has. e.grows.1 a (v.grows.1 a has));
      met = λ j below. below_more (λ (i : ℕ). (root : Declared) → nth_in by.roots.now i ≡ Some root
          → covers_kind by.named.now.scope.family root.kind ≡ true
          → MetFromAll (node_in by.index.now) (core_at map) c.args.input root.page (page_count by.header.now.world root.kind)
          (IsSettled map by new)) c.loop-number.number
          (λ i less root is covers part within page way a w.
          settled_more map by c.loop-number.found.items new e.grows a (v.met i less root is covers part within page way a w)) e.met j below;
    }

pub returns-clause-met : goal.returns-clause-met
returns-clause-met c heading h root stands at covers =
    let i = c.count-number-end.ensures.each heading h root.page root stands at in
    c.loop-number.invariant.met i.0 (omega (arith, i.1)) root i.2 covers
