-- What a state and the pendings of each issuer are to the steps of their place.
-- Source: project's own choice.
use Rattle.std.specs.Prelude.{◌≡◌, ℕ, Bool, true, false, None, is_some, List, ◌&&◌, ◌==◌, if◌then◌else◌}
use Rattle.bbm_tlbi_scope.specs.declared.entry.Cover.{Cover}
use Rattle.bbm_entry_state.specs.declared.pending.Pends.{Pends}
use Rattle.bbm_entry_state.specs.declared.state.EntryState.{EntryState}
use Rattle.bbm_entry_state.specs.Points.{core_in, is_broken, writer_at, seen_at, half_at, clean_at, waits}
use Rattle.bbm_entry_state.specs.EntrySteps.{Step, since, some, is_write, writes, still_waits}
use Rattle.bbm_entry_state.specs.EntryPatterns.{seen, half, cleansed, flushes, earned, held}

-- nothing waits
abbrev pub IsIdle : Pends → Type 0
IsIdle pends = (b : Bool) (c : Cover) (p : ℕ) → waits pends b c p ≡ false

-- The masks are the sets of the PEs at which the patterns hold: writers and seen after the steps `published`, the
-- others after the steps `steps`. The two lists are one, but between the two calls that take in a DSB.
pub record Marked (n : ℕ) (state : EntryState) (pends : ℕ → Pends) (published steps : List Step) : Type 0 where
  pub broken : is_broken state ≡ some is_write (since published)
  pub writers : (p : ℕ) → writer_at state p ≡ some (writes p) (since published)
  pub seen : (p : ℕ) → seen_at state p ≡ seen n p (since published)
  pub half : (p : ℕ) → half_at state p ≡ half n p (since steps)
  pub clean : (p : ℕ) → clean_at state p ≡ cleansed n p (since steps)
  pub waiting : (q : ℕ) (b : Bool) (c : Cover) (p : ℕ)
      → waits (pends q) b c p ≡ still_waits (flushes (earned n c p) c p) q b (since steps)

-- The state and the pendings of each issuer stand for these steps.
pub record Between (n : ℕ) (state : EntryState) (pends : ℕ → Pends) (published steps : List Step) : Type 0 where
  pub core : core_in state ≡ held n steps
  pub marks : is_some (core_in state) ≡ true → Marked n state pends published steps
  pub idle : core_in state ≡ None → (q : ℕ) → IsIdle (pends q)

abbrev pub Stands : ℕ → EntryState → (ℕ → Pends) → List Step → Type 0
Stands n state pends steps = Between n state pends steps steps

-- The new pendings of each issuer are the old ones where the place is broken, and else none.
abbrev pub KeepsPends : EntryState → (ℕ → Pends) → (ℕ → Pends) → Type 0
KeepsPends state old new =
    (q : ℕ) (b : Bool) (c : Cover) (p : ℕ) → waits (new q) b c p ≡ (is_broken state && waits (old q) b c p)

-- The new pendings of one issuer are these, and those of each other issuer the old ones.
abbrev pub SetsPends : ℕ → Pends → (ℕ → Pends) → (ℕ → Pends) → Type 0
SetsPends issuer pends old new =
    (q : ℕ) (b : Bool) (c : Cover) (p : ℕ)
    → waits (new q) b c p ≡ (if issuer == q then waits pends b c p else waits (old q) b c p)
