use Rattle.bbm_roots.proofs.Common.{◌≡◌, ℕ, ◌&&◌, not, nat_eq, take, Tag, wait_in, has_tag}
use Rattle.bbm_roots.proofs.pending.clear_place.Given as goal

abbrev pub invariant-loop-reading : goal.invariant-loop-reading
invariant-loop-reading l =
    (g : Tag) (p : ℕ) → wait_in l.map g p
    ≡ (wait_in l.initial.map g p && not (nat_eq p l.pe && has_tag g (take l.reading-index l.readings)))
