-- Tests of every PE.
use Rattle.std.specs.Prelude.{ℕ, Bool, true, ◌&&◌, zero, suc}

-- whether a test holds of each PE of a log with n PEs
abbrev pub every_pe : ℕ → (ℕ → Bool) → Bool
every_pe zero test = true
every_pe (suc n) test = test n && every_pe n test
