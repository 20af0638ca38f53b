-- Who holds a lock, by the calls that were accepted.
-- Source: project's own choice.
use Rattle.std.specs.Prelude.{◌≡◌, ℕ, ◌==◌, List, [], ◌∷◌, ◌++◌, Option, None, Some, get_or, if◌then◌else◌}
use Rattle.bbm_locks.specs.declared.locks.Locks.{Locks}

-- an accepted call: a PE took a lock, or gave it back
pub data Call : Type 0 where
  taken : (pe lock : ℕ) → Call
  given : (pe lock : ℕ) → Call

-- The last PE that took the lock and hasn't given it back, after a list of accepted calls, the newest first; None
-- where there is none.
abbrev pub holder_after : List Call → ℕ → Option ℕ
holder_after [] lock = None
holder_after (taken pe number ∷ calls) lock = if number == lock then Some pe else holder_after calls lock
holder_after (given pe number ∷ calls) lock = if number == lock then None else holder_after calls lock

-- Which lists are accepted: a lock is taken where it is free, and given back by the PE that holds it.
abbrev pub AreAccepted : List Call → Type 0
AreAccepted [] = Unit {0}
AreAccepted (taken pe lock ∷ calls) = AreAccepted calls × (holder_after calls lock ≡ None)
AreAccepted (given pe lock ∷ calls) = AreAccepted calls × (holder_after calls lock ≡ Some pe)

-- none of the calls takes the lock or gives it back
abbrev pub LeavesAlone : ℕ → List Call → Type 0
LeavesAlone lock [] = Unit {0}
LeavesAlone lock (taken pe number ∷ calls) = ¬ (number ≡ lock) × LeavesAlone lock calls
LeavesAlone lock (given pe number ∷ calls) = ¬ (number ≡ lock) × LeavesAlone lock calls

-- the PE took the lock, and no later call takes it or gives it back
pub record TookLast (calls : List Call) (pe lock : ℕ) : Type 0 where
  pub later : List Call
  pub earlier : List Call
  pub split : calls ≡ later ++ taken pe lock ∷ earlier
  pub alone : LeavesAlone lock later

-- the one word by which contracts speak of the holder of a lock
unfoldable pub holder_at : Locks → ℕ → Option ℕ
holder_at locks lock = get_or locks.holders lock None

-- the locks are as after these accepted calls
pub record AreAfter (locks : Locks) (calls : List Call) : Type 0 where
  pub accepted : AreAccepted calls
  pub holders : (lock : ℕ) → holder_at locks lock ≡ holder_after calls lock
