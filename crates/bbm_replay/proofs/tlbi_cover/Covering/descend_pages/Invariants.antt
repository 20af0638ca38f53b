use Rattle.bbm_replay.proofs.Common.{node_in, core_at, Grows, IsSettled, MetFromAll}
use Rattle.bbm_replay.proofs.tlbi_cover.Covering.descend_pages.Given as goal

abbrev pub invariant-loop-part : goal.invariant-loop-part
invariant-loop-part l = record {
  grows : Grows l.map l.self l.fn.found.items l.found.items;
  met : MetFromAll (node_in l.self.index.now) (core_at l.map) l.input l.pages.first l.part
      (IsSettled l.map l.self l.found.items);
}
