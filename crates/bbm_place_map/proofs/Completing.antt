-- What a DSB answers, of one place.
use Rattle.bbm_place_map.proofs.Common.{◌≡◌, Bool, true, false, Option, None, refl, if◌then◌else◌, Core, Barrier}
use Rattle.bbm_place_map.proofs.Common.{every_pe, clean_after, Clean, no_pends, Completes}
use Rattle.bbm_place_map.proofs.Idle.{nothing_waits}

cases : (b : Bool) → ◌≡◌ {A = Option Core} None (if b then None else None)
cases true = refl
cases false = refl

-- a place that wasn't broken
pub completes_none : (by : Barrier) → Completes by None None
completes_none by = record {
  own = record {
    core = cases (every_pe by.n (clean_after Clean no_pends by.dsb));
    broken = refl;
    writers = λ p. refl;
    seen = λ p. refl;
    half = λ p. refl;
    clean = λ p. refl;
    waiting = nothing_waits;
  };
  others = λ q other. nothing_waits;
}
