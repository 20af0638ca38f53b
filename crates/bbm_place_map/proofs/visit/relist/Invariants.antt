use Rattle.bbm_place_map.proofs.Common.{◌≡◌, ℕ, Bool, ◌<◌, ◌⊎◌, Some, slice_get, Holds, RestsAt, Entry}
use Rattle.bbm_place_map.proofs.visit.relist.Given as goal

abbrev pub invariant-loop-k : goal.invariant-loop-k
invariant-loop-k l =
    (wide : Bool) (m : ℕ) (e : Entry) → m < l.k → slice_get l.broken m ≡ Some e
    → Holds l.list wide e.cell ⊎ RestsAt l.barrier.effect wide l.barrier.n l.barrier.issuer e
