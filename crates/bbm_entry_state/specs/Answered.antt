-- Which pendings a DSB of their issuer answers.
-- Source: Arm ARM (DDI 0487), "TLB maintenance instructions", "Ordering and completion of TLB maintenance
-- instructions"; the pendings are the project's own choice.
use Rattle.std.specs.Prelude.{◌≡◌, ℕ, Bool, true, false, ◌&&◌, ◌||◌}
use Rattle.bbm_regimes.specs.PeMask.{pe_in}
use Rattle.bbm_barriers.specs.declared.Dsb.{Dsb}
use Rattle.bbm_barriers.specs.Options.{answers}
use Rattle.bbm_tlbi_scope.specs.declared.entry.Cover.{Cover}
use Rattle.bbm_entry_state.specs.declared.marks.Marks.{Marks}
use Rattle.bbm_entry_state.specs.declared.pending.Pend.{Pend}
use Rattle.bbm_entry_state.specs.declared.pending.Pends.{Pends}
use Rattle.bbm_entry_state.specs.Points.{waits, waits_in}

-- the DSB answers a TLBI that covers so far and for which the PE waits
abbrev pub answered_at : Pends → Dsb → Cover → ℕ → Bool
answered_at pends dsb cover p =
    (answers dsb true && waits pends true cover p) || (answers dsb false && waits pends false cover p)

-- The masks of a broken place after a DSB of an issuer with these pendings answered TLBIs for which these PEs waited.
pub record Answered (old : Marks) (pends : Pends) (dsb : Dsb) (done : Pend) (new : Marks) : Type 0 where
  pub answers : (c : Cover) (p : ℕ) → waits_in done c p ≡ answered_at pends dsb c p
  pub core : new.core ≡ old.core
  pub writers : (p : ℕ) → pe_in new.writers p ≡ pe_in old.writers p
  pub seen : (p : ℕ) → pe_in new.seen p ≡ pe_in old.seen p
  pub half : (p : ℕ) → pe_in new.half p ≡ (pe_in old.half p || (pe_in old.seen p && pe_in done.half p))
  pub clean : (p : ℕ) → pe_in new.clean p ≡ (pe_in old.clean p || (pe_in old.seen p && (pe_in done.full p || pe_in done.second p)))
