-- When a source or a sink may answer that a call failed, and how a call counts its faults. Source: project's own choice.
use Rattle.std.specs.Prelude.{ℕ, ◌≡◌, ◌<◌, ◌≤◌, ◌-◌, ◌^◌, ◌⊎◌, Result, OnErr, OnOk}

-- The count of faults rose in the call, or it stands at the greatest number that 64 bits can show.
abbrev pub Rose : ℕ → ℕ → Type 0
Rose old new = (old < new) ⊎ (new ≡ 2 ^ 64 - 1)

-- The count of faults before and after a call: it rose, or stands at the greatest number, where the call failed; it
-- stays where it didn't; and it never falls.
pub record CountsFaults {A E : Type 0} (result : Result A E) (old new : ℕ) : Type 0 where
  pub failed : OnErr result (Rose old new)
  pub sound : OnOk result (new ≡ old)
  pub never_falls : old ≤ new

-- the same of a call that tells by this alone that a read failed
pub record CountsFaultsIf (told : Type 0) (old new : ℕ) : Type 0 where
  pub failed : told → Rose old new
  pub sound : ¬ told → new ≡ old
  pub never_falls : old ≤ new
