use Rattle.bbm_roots.proofs.Common.{◌≡◌, ℕ, ◌<◌, ◌≤◌, ◌&&◌, not, nat_eq, Tag, tag_key, wait_at, wait_bit, has_tag}
use Rattle.bbm_roots.proofs.pending.clear_places.Given as goal

abbrev pub invariant-loop-map : goal.invariant-loop-map
invariant-loop-map l = record {
  front : (n : ℕ) (g : Tag) (p : ℕ) → n < l.map-index → wait_bit p (wait_at l.waits n (tag_key g))
      ≡ (wait_bit p (wait_at l.initial.waits n (tag_key g)) && not (nat_eq p l.pe && has_tag g l.readings));
  back : (n key : ℕ) → l.map-index ≤ n → wait_at l.waits n key ≡ wait_at l.initial.waits n key;
}
