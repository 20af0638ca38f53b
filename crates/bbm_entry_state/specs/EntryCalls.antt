-- What each call makes of a state and its pendings, PE by PE.
-- Source: project's own choice; the order that it keeps is that of the Arm ARM (DDI 0487), "Using break-before-make
-- when updating translation table entries".
use Rattle.std.specs.Prelude.{◌≡◌, ℕ, Bool, false, Option, Some, None, is_none, is_some, nat_eq, not, ◌&&◌, ◌||◌}
use Rattle.std.specs.Prelude.{if◌then◌else◌}
use Rattle.bbm_lemmas.specs.EveryPe.{every_pe}
use Rattle.bbm_regimes.specs.PeMask.{pe_in}
use Rattle.bbm_regimes.specs.declared.pe.PeMask.{PeMask}
use Rattle.bbm_descriptor.specs.declared.desc.Core.{Core}
use Rattle.bbm_lemmas.specs.ListWords.{same_flag}
use Rattle.bbm_barriers.specs.declared.Dsb.{Dsb}
use Rattle.bbm_barriers.specs.Options.{publishes, answers}
use Rattle.bbm_tlbi_scope.specs.declared.entry.Cover.{Cover}
use Rattle.bbm_tlbi_scope.specs.declared.entry.Cover.TheVariants.{Half, Second, Full}
use Rattle.bbm_entry_state.specs.Answered.{answered_at}
use Rattle.bbm_tlbi_scope.specs.SameCover.{same_cover}
use Rattle.bbm_entry_state.specs.declared.pending.Pends.{Pends}
use Rattle.bbm_entry_state.specs.declared.state.EntryState.{EntryState}
use Rattle.bbm_entry_state.specs.declared.state.EntryState.TheVariants.{Clean, Live, Broken}
use Rattle.bbm_entry_state.specs.Marking.{counts_for}
use Rattle.bbm_entry_state.specs.Points.{core_in, is_broken, writer_at, seen_at, half_at, clean_at, waits}

-- the core after a write: a new one, or the old one where the written value is invalid
abbrev pub core_after : Option Core → Option Core → Option Core
core_after (Some core) old = Some core
core_after None old = old

-- The PE wrote the place. A valid value makes it live and voids all masks; an invalid one breaks it, or adds the PE
-- to the writers.
pub record Written (old : EntryState) (pe : ℕ) (value : Option Core) (new : EntryState) : Type 0 where
  pub core : core_in new ≡ core_after value (core_in old)
  pub broken : is_broken new ≡ (is_none value && is_some (core_in old))
  pub writers : (p : ℕ) → writer_at new p ≡ (is_broken new && (nat_eq p pe || writer_at old p))
  pub seen : (p : ℕ) → seen_at new p ≡ (is_none value && seen_at old p)
  pub half : (p : ℕ) → half_at new p ≡ (is_none value && half_at old p)
  pub clean : (p : ℕ) → clean_at new p ≡ (is_none value && clean_at old p)

-- A DSB of the issuer, in a log with n PEs, published its writes of the place.
pub record Published (old : EntryState) (issuer : ℕ) (dsb : Dsb) (n : ℕ) (new : EntryState) : Type 0 where
  pub core : core_in new ≡ core_in old
  pub broken : is_broken new ≡ is_broken old
  pub writers : (p : ℕ) → writer_at new p ≡ writer_at old p
  pub seen : (p : ℕ) → seen_at new p ≡ ((publishes dsb issuer n p && writer_at old issuer) || seen_at old p)
  pub half : (p : ℕ) → half_at new p ≡ half_at old p
  pub clean : (p : ℕ) → clean_at new p ≡ clean_at old p

-- where a TLBI with this cover counts for the PE
abbrev pub counts_at : EntryState → Cover → ℕ → Bool
counts_at Clean c p = false
counts_at (Live core) c p = false
counts_at (Broken marks) c p = counts_for marks c p

-- A TLBI was issued that covers the place so far: each PE that it reaches, and where it counts, waits for its answer.
abbrev pub Noted : EntryState → Pends → PeMask → Bool → Cover → Pends → Type 0
Noted state old reach broadcast cover new =
    (b : Bool) (c : Cover) (p : ℕ) → waits new b c p
    ≡ ((same_flag broadcast b && (pe_in reach p && (same_cover c cover && counts_at state c p))) || waits old b c p)

-- whether the PE has taken the first of two steps, and whether it is cleansed, once the DSB has answered
abbrev pub half_after : EntryState → Pends → Dsb → ℕ → Bool
half_after state pends dsb p = half_at state p || (seen_at state p && answered_at pends dsb Half p)

abbrev pub clean_after : EntryState → Pends → Dsb → ℕ → Bool
clean_after state pends dsb p =
    clean_at state p || (seen_at state p && (answered_at pends dsb Full p || answered_at pends dsb Second p))

-- A DSB, in a log with n PEs, answered TLBIs of its issuer. Where each PE is cleansed, the place is clean and nothing
-- waits.
pub record Completed (old : EntryState) (pends : Pends) (dsb : Dsb) (n : ℕ) (new : EntryState) (left : Pends)
    : Type 0 where
  pub core : core_in new ≡ (if every_pe n (clean_after old pends dsb) then None else core_in old)
  pub broken : is_broken new ≡ (is_some (core_in new) && is_broken old)
  pub writers : (p : ℕ) → writer_at new p ≡ (is_some (core_in new) && writer_at old p)
  pub seen : (p : ℕ) → seen_at new p ≡ (is_some (core_in new) && seen_at old p)
  pub half : (p : ℕ) → half_at new p ≡ (is_some (core_in new) && half_after old pends dsb p)
  pub clean : (p : ℕ) → clean_at new p ≡ (is_some (core_in new) && clean_after old pends dsb p)
  pub waiting : (b : Bool) (c : Cover) (p : ℕ)
      → waits left b c p ≡ (is_some (core_in new) && (not (answers dsb b) && waits pends b c p))
