-- Two intervals meet where neither lies beyond the other, and one holds the other where it reaches as far on both sides.
use Rattle.std.proofs.Common.{◌≤◌, max, arith}
use Rattle.bbm_regimes.specs.Extent.{Extent, Meets, Holds}

pub meets_from-ends : (e f : Extent) → e.lo ≤ e.hi → f.lo ≤ f.hi → e.lo ≤ f.hi → f.lo ≤ e.hi → Meets e f
meets_from-ends e f he hf ef fe = (max e.lo f.lo, (omega arith, omega arith), (omega arith, omega arith))

pub ends_from-meets : (e f : Extent) → Meets e f → (e.lo ≤ f.hi) × (f.lo ≤ e.hi)
ends_from-meets e f m = (omega (arith, m.1, m.2), omega (arith, m.1, m.2))

pub holds_from-ends : (e f : Extent) → e.lo ≤ f.lo → f.hi ≤ e.hi → Holds e f
holds_from-ends e f low high n inside = (omega arith, omega arith)

pub ends_from-holds : (e f : Extent) → f.lo ≤ f.hi → Holds e f → (e.lo ≤ f.lo) × (f.hi ≤ e.hi)
ends_from-holds e f hf h = ((h f.lo (omega arith, omega arith)).0, (h f.hi (omega arith, omega arith)).1)

pub ruleset intervals = (meets_from-ends, ends_from-meets, holds_from-ends, ends_from-holds)
