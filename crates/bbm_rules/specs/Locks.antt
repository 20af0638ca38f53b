-- Who holds a lock. A history is newest first.
-- Source: project's own choice.
use Rattle.std.specs.Prelude.{ℕ, ◌&&◌, ◌==◌, List, [], ◌∷◌, Option, Some, None, if◌then◌else◌}
use Rattle.bbm_rules.specs.Prelude.{Event, Lock, Unlock}
use Rattle.bbm_rules.specs.Lists.{is_that}

-- The PE that took the lock last and hasn't given it back; None where the lock is free, as each is at the start. An
-- `unlock` by another PE doesn't free it.
abbrev pub holder_of : List Event → ℕ → Option ℕ
holder_of [] lock = None
holder_of (Lock pe number ∷ h) lock = if number == lock then Some pe else holder_of h lock
holder_of (Unlock pe number ∷ h) lock =
    if number == lock && is_that (holder_of h lock) pe then None else holder_of h lock
holder_of (_ ∷ h) lock = holder_of h lock
