use Rattle.bbm_replay.proofs.Common.{node_in, nth_in, core_at, Grows, IsSettled, MetFromAll, covers_kind}
use Rattle.bbm_rules.proofs.Common.{◌≡◌, ℕ, ◌<◌, true, Some, page_count, Declared}
use Rattle.bbm_replay.proofs.tlbi_cover.Covering.descend_all.Given as goal

abbrev pub invariant-loop-number : goal.invariant-loop-number
invariant-loop-number l = record {
  grows : Grows l.map l.self l.fn.found.items l.found.items;
  met : (i : ℕ) → i < l.number → (root : Declared) → nth_in l.self.roots.now i ≡ Some root
      → covers_kind l.self.named.now.scope.family root.kind ≡ true
      → MetFromAll (node_in l.self.index.now) (core_at l.map) l.input root.page (page_count l.self.header.now.world root.kind)
      (IsSettled l.map l.self l.found.items);
}
