use Rattle.bbm_replay.proofs.Common.{restless_place, notes, IssuesAt}
use Rattle.bbm_rules.proofs.Common.{◌≡◌, ℕ, ◌<◌, List, Some, length, slice_get, Patterns, cover_at, Heading, Event}
use Rattle.bbm_rules.proofs.Common.{Tlbi, TlbiOp}
use Rattle.bbm_replay.specs.Covering.{CoversAlike}
use Rattle.bbm_replay.proofs.tlbi_cover.Covering.covers.Given as goal

abbrev pub invariant-loop-i : goal.invariant-loop-i
invariant-loop-i l = record {
  len : length l.covers.items ≡ l.i;
  each : (heading : Heading) (h : List Event) (pe : ℕ) (op : TlbiOp) (xt : ℕ)
      → IssuesAt l.map l.self heading h pe op xt → (j : ℕ) → j < l.i → slice_get l.covers.items j
      ≡ Some (cover_at heading Patterns (notes heading h) (Tlbi pe op xt) (restless_place l.map j));
  alike : CoversAlike l.map l.self l.alike;
}
