-- What the laws of the state of one place state. A history is newest first.
use Rattle.std.specs.Prelude.{◌≡◌, ℕ, ◌<◌, ◌⊎◌, Bool, true, false, ◌&&◌, List, ◌∷◌, Some, None, is_some}
use Rattle.std.specs.Option.{option_map_or}
use Rattle.bbm_descriptor.specs.Descriptor.{core_of, desc_of, desc_with, differ, needs}
use Rattle.bbm_descriptor.specs.declared.desc.Core.{Core}
use Rattle.bbm_entry_state.specs.EntryCalls.{Completed, Noted, Written}
use Rattle.bbm_entry_state.specs.EntryStanding.{IsIdle, KeepsPends}
use Rattle.bbm_entry_state.specs.Points.{core_in, is_broken, waits}
use Rattle.bbm_entry_state.specs.declared.pending.Pends.{Pends}
use Rattle.bbm_entry_state.specs.declared.state.EntryState.{EntryState}
use Rattle.bbm_regimes.specs.PeMask.{pe_in}
use Rattle.bbm_regimes.specs.declared.pe.PeMask.{PeMask}
use Rattle.bbm_tlbi_scope.specs.Operations.{operation}
use Rattle.bbm_tlbi_scope.specs.declared.entry.Cover.{Cover}
use Rattle.bbm_tlbi_scope.specs.declared.entry.Cover.TheVariants.{None as NoCover}
use Rattle.bbm_histories.specs.TreeChanges.{Attaches}
use Rattle.bbm_rules.specs.Broken.{keeps}
use Rattle.bbm_rules.specs.Claims.Trust.{Patterns}
use Rattle.bbm_rules.specs.Covers.{cover_at, noted}
use Rattle.bbm_rules.specs.Held.{emptied}
use Rattle.bbm_rules.specs.Lists.{if_so, ◌>>=◌}
use Rattle.bbm_rules.specs.Pages.{is_fresh}
use Rattle.bbm_rules.specs.Phases.{is_restless, phase_of}
use Rattle.bbm_rules.specs.Places.{page_of}
use Rattle.bbm_rules.specs.Prelude.{Barrier, Kind, Heading, Event, Write, Dsb, Tlbi, TlbiOp}
use Rattle.bbm_rules.specs.Reach.{reaches}
use Rattle.bbm_rules.specs.Rules.{break_before_make}
use Rattle.bbm_rules.specs.Tree.{Node, node_of, next_in}
use Rattle.bbm_rules.specs.Values.{value_of}
use Rattle.bbm_rules.specs.declared.phase.Phase.TheVariants.{Clean}
use Rattle.bbm_replay_entries.specs.EntryEvents.{Heard, OthersStay, OthersWait, touches}
use Rattle.bbm_replay_entries.specs.EntryPhases.{phase_in}
use Rattle.bbm_replay_entries.specs.EntryStands.{ByValue, EntryStands, held_now, next_now}

-- A place of a fresh page, at whatever kind and level it is read, stands by its value alone: it is live where the value
-- is valid, and else clean, and nothing waits. So does a place of a page that the event attaches.
pub record EntryBegins (heading : Heading) : Type 0 where
  pub fresh : (h : List Event) (kind : Kind) (level place : ℕ) (state : EntryState) (pends : ℕ → Pends)
      → 0 < heading.pes → keeps heading Patterns h ≡ true
      → is_fresh heading Patterns (noted heading Patterns h) (page_of place) ≡ true
      → ByValue kind level (value_of h place) state pends → EntryStands heading h kind level place state pends
  pub attached : (h : List Event) (e : Event) (n : Node) (place : ℕ) (state : EntryState) (pends : ℕ → Pends)
      → 0 < heading.pes → keeps heading Patterns (e ∷ h) ≡ true
      → Attaches heading Patterns (noted heading Patterns h) e n → page_of place ≡ n.page
      → ByValue n.kind n.level (value_of (e ∷ h) place) state pends
      → EntryStands heading (e ∷ h) n.kind n.level place state pends

-- Only the points of the pendings count, and those only where the place is broken.
abbrev pub EntryAlike : Heading → Type 0
EntryAlike heading = (h : List Event) (kind : Kind) (level place : ℕ) (state : EntryState) (pends pends' : ℕ → Pends)
    → EntryStands heading h kind level place state pends
    → ((q : ℕ) (b : Bool) (c : Cover) (p : ℕ) → waits (pends' q) b c p ≡ (is_broken state && waits (pends q) b c p))
    → EntryStands heading h kind level place state pends'

-- An event that doesn't touch the place leaves its state and what waits there.
abbrev pub EntryStays : Heading → Type 0
EntryStays heading = (h : List Event) (e : Event) (kind : Kind) (level place : ℕ) (state : EntryState)
    (pends : ℕ → Pends) → 0 < heading.pes → touches place e ≡ false
    → EntryStands heading h kind level place state pends → EntryStands heading (e ∷ h) kind level place state pends

-- After a write of the place its state is that of the call, with the core of the value; what waits stays where the
-- place is then broken, and else nothing waits.
abbrev pub EntryWrite : Heading → Type 0
EntryWrite heading = (h : List Event) (kind : Kind) (level place pe value : ℕ) (old new : EntryState)
    (pends pends' : ℕ → Pends) → 0 < heading.pes → Written old pe (core_of kind level value) new
    → KeepsPends new pends pends' → EntryStands heading h kind level place old pends
    → EntryStands heading (Write pe place value ∷ h) kind level place new pends'

-- After a DSB of a PE the state of a place is that of the two calls, and what waits for the PE is what the second one
-- leaves; what waits for each other stays where the place is still broken, and else nothing waits. That is so where the
-- DSB doesn't empty the place; where it does, a clean state stands for it. A place that isn't broken keeps its state.
pub record EntryDsb (heading : Heading) : Type 0 where
  pub calls : (h : List Event) (kind : Kind) (level place q : ℕ) (dsb : Barrier) (old mid new : EntryState)
      (pends pends' : ℕ → Pends) → 0 < heading.pes → Heard heading old q dsb mid
      → Completed mid (pends q) dsb heading.pes new (pends' q) → OthersStay new q pends pends'
      → emptied heading Patterns kind level place (noted heading Patterns (Dsb q dsb ∷ h)) ≡ false
      → EntryStands heading h kind level place old pends
      → EntryStands heading (Dsb q dsb ∷ h) kind level place new pends'
  pub empties : (h : List Event) (kind : Kind) (level place : ℕ) (state : EntryState) (pends : ℕ → Pends)
      → emptied heading Patterns kind level place (noted heading Patterns h) ≡ true → core_in state ≡ None
      → is_broken state ≡ false → ((i : ℕ) → IsIdle (pends i)) → EntryStands heading h kind level place state pends
  pub whole : (h : List Event) (kind : Kind) (level place q : ℕ) (dsb : Barrier) (state : EntryState)
      (pends : ℕ → Pends) → 0 < heading.pes → is_broken state ≡ false
      → EntryStands heading h kind level place state pends
      → EntryStands heading (Dsb q dsb ∷ h) kind level place state pends

-- After a TLBI of a PE the state of a place is as it was, and what waits for the PE is that of the call, with the cover
-- of the place before the TLBI. Where the place isn't broken, or the TLBI reaches no PE or doesn't cover the place,
-- what waits is as it was, too.
pub record EntryTlbi (heading : Heading) : Type 0 where
  pub call : (h : List Event) (kind : Kind) (level place q : ℕ) (op : TlbiOp) (xt : ℕ) (reach : PeMask) (cover : Cover)
      (state : EntryState) (pends pends' : ℕ → Pends) → 0 < heading.pes
      → ((p : ℕ) → p < heading.pes → pe_in reach p ≡ reaches heading (Tlbi q op xt) p)
      → cover ≡ cover_at heading Patterns (noted heading Patterns h) (Tlbi q op xt) place
      → Noted state (pends q) reach (operation op).broadcast cover (pends' q) → OthersWait q pends pends'
      → EntryStands heading h kind level place state pends
      → EntryStands heading (Tlbi q op xt ∷ h) kind level place state pends'
  pub idle : (h : List Event) (kind : Kind) (level place q : ℕ) (op : TlbiOp) (xt : ℕ) (state : EntryState)
      (pends : ℕ → Pends) → 0 < heading.pes
      → (is_broken state ≡ false) ⊎ ((p : ℕ) → p < heading.pes → reaches heading (Tlbi q op xt) p ≡ false)
      ⊎ (cover_at heading Patterns (noted heading Patterns h) (Tlbi q op xt) place ≡ NoCover)
      → EntryStands heading h kind level place state pends
      → EntryStands heading (Tlbi q op xt ∷ h) kind level place state pends

-- A write of a value needs break-before-make over what the place holds exactly where the core of the state and that of
-- the value differ; and so a write of a place of a tree breaks that rule exactly there.
pub record EntryNeed (heading : Heading) : Type 0 where
  pub need : (h : List Event) (kind : Kind) (level place value : ℕ) (state : EntryState) (pends : ℕ → Pends)
      → EntryStands heading h kind level place state pends
      → option_map_or (λ old. needs kind level old value) (held_now heading h kind level place) false
      ≡ differ (core_in state) (core_of kind level value)
  pub rule : (h : List Event) (n : Node) (pe place value : ℕ) (state : EntryState) (pends : ℕ → Pends)
      → node_of heading Patterns (noted heading Patterns h) (page_of place) ≡ Some n
      → EntryStands heading h n.kind n.level place state pends
      → break_before_make heading Patterns (noted heading Patterns h) (Write pe place value)
      ≡ if_so (differ (core_in state) (core_of n.kind n.level value)) place
  pub outside : (h : List Event) (pe place value : ℕ)
      → node_of heading Patterns (noted heading Patterns h) (page_of place) ≡ None
      → break_before_make heading Patterns (noted heading Patterns h) (Write pe place value) ≡ None

-- A place holds something exactly where its state has a core; the descriptor of what it holds has the fields of that
-- core, and the next page is that of the core. Where the place isn't broken, the core is that of its present value.
pub record EntryHolds (heading : Heading) : Type 0 where
  pub holds : (h : List Event) (kind : Kind) (level place : ℕ) (state : EntryState) (pends : ℕ → Pends)
      → EntryStands heading h kind level place state pends
      → is_some (held_now heading h kind level place) ≡ is_some (core_in state)
  pub descriptor : (h : List Event) (kind : Kind) (level place value : ℕ) (core : Core) (state : EntryState)
      (pends : ℕ → Pends) → EntryStands heading h kind level place state pends
      → held_now heading h kind level place ≡ Some value → core_in state ≡ Some core
      → desc_of kind level value ≡ desc_with core
  pub next : (h : List Event) (kind : Kind) (level place : ℕ) (state : EntryState) (pends : ℕ → Pends)
      → EntryStands heading h kind level place state pends
      → next_now heading h kind level place ≡ (core_in state >>= (λ core. next_in (desc_with core)))
  pub present : (h : List Event) (kind : Kind) (level place : ℕ) (state : EntryState) (pends : ℕ → Pends)
      → 0 < heading.pes → EntryStands heading h kind level place state pends → is_broken state ≡ false
      → core_in state ≡ core_of kind level (value_of h place)

-- The phase of a place of a tree at a PE is the one that its state tells, and it is restless exactly where it is
-- broken; a place of no tree is clean, and isn't restless.
pub record EntryPhase (heading : Heading) : Type 0 where
  pub phase : (h : List Event) (n : Node) (place p : ℕ) (state : EntryState) (pends : ℕ → Pends) → p < heading.pes
      → node_of heading Patterns (noted heading Patterns h) (page_of place) ≡ Some n
      → EntryStands heading h n.kind n.level place state pends → phase_of heading Patterns h place p ≡ phase_in state p
  pub restless : (h : List Event) (n : Node) (place : ℕ) (state : EntryState) (pends : ℕ → Pends)
      → node_of heading Patterns (noted heading Patterns h) (page_of place) ≡ Some n
      → EntryStands heading h n.kind n.level place state pends
      → is_restless heading Patterns (noted heading Patterns h) place ≡ is_broken state
  pub outside_clean : (h : List Event) (place p : ℕ)
      → node_of heading Patterns (noted heading Patterns h) (page_of place) ≡ None
      → phase_of heading Patterns h place p ≡ Clean
  pub outside_restless : (h : List Event) (place : ℕ)
      → node_of heading Patterns (noted heading Patterns h) (page_of place) ≡ None
      → is_restless heading Patterns (noted heading Patterns h) place ≡ false
