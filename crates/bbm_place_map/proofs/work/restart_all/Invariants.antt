use Rattle.bbm_place_map.proofs.Common.{◌≡◌, ◌<◌, ℕ, Some, slice_get, vec_len, WorkList}
use Rattle.bbm_place_map.proofs.work.restart_all.Given as goal

abbrev pub invariant-loop-k : goal.invariant-loop-k
invariant-loop-k l = record {
  done : (q : ℕ) (list : WorkList) → q < l.k → slice_get l.lists.items q ≡ Some list → list.given_up ≡ l.given_up;
  len : vec_len l.lists ≡ vec_len l.initial.lists;
}
