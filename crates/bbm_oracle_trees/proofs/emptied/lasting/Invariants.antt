use Rattle.bbm_rules.proofs.Common.{◌≡◌, ℕ, ◌&&◌, not, take, Kind}
use Rattle.bbm_oracle_trees.specs.Emptied.{ends_last, is_among}
use Rattle.bbm_oracle_trees.proofs.emptied.lasting.Given as goal

abbrev pub invariant-loop-seat : goal.invariant-loop-seat
invariant-loop-seat l = (k : Kind) (level place : ℕ) → is_among l.left.items k level place
    ≡ (not (ends_last k level place l.event) && is_among (take l.seat-index l.seats) k level place)
