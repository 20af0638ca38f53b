-- The generated logs, one for each number n. An EL2 root and a stage 2 root are declared and put into the registers of
-- PE 0. Then come rounds of eight events: each makes a block and takes it away again, break and flush included, in turn
-- in the EL2 tree and in the stage 2 tree. Source: project's own choice.
use Rattle.std.specs.Prelude.{◌≡◌, ◌<◌, ℕ, zero, suc, ◌+◌, ◌-◌, ◌*◌, ◌/◌, ◌%◌, ◌^◌, List, [], ◌∷◌, None, true, false}
use Rattle.std.specs.Prelude.{◌==◌, nat_lt, if◌then◌else◌}
use Rattle.bbm_regimes.specs.declared.regime.HypWorld.{HypWorld}
use Rattle.bbm_regimes.specs.declared.regime.World.TheVariants.{Hyp}
use Rattle.bbm_regimes.specs.declared.regime.Kind.TheVariants.{El2, S2}
use Rattle.bbm_regimes.specs.declared.regime.Reg.TheVariants.{Ttbr0El2, VttbrEl2}
use Rattle.bbm_barriers.specs.declared.Dsb.{Dsb as Barrier}
use Rattle.bbm_barriers.specs.declared.Domain.TheVariants.{Inner}
use Rattle.bbm_barriers.specs.declared.Types.TheVariants.{All, Stores}
use Rattle.bbm_tlbi_scope.specs.declared.op.TlbiOp.TheVariants.{Vae2is, Ipas2e1is, Vmalle1is}
use Rattle.bbm_events.specs.Fits.{fits_heading}
use Rattle.bbm_events.specs.Heading.{Heading, no_words}
use Rattle.bbm_events.specs.declared.event.Event.{Event}
use Rattle.bbm_events.specs.declared.event.Event.TheVariants.{Init, Root, Write, Dsb, Dmb, Isb, Tlbi, Msr}
use Rattle.bbm_rules.specs.Broken.{broken, keeps}
use Rattle.bbm_rules.specs.Claims.{Patterns}
use Rattle.bbm_rules.specs.Limits.{limit_of}

-- four PEs of version 1; walks of both kinds start at level 1, and a stage 2 root has one page
abbrev pub small_world : HypWorld
small_world = record { el2_start = 1; s2_start = 1; s2_pages = 1 }

abbrev pub heading : Heading
heading = record { version = 1; pes = 4; cnp = false; words = no_words; world = Hyp small_world }

abbrev pub el2_root : ℕ
el2_root = 0x40000000

abbrev pub s2_root : ℕ
s2_root = 0x40001000

-- the value of VTTBR_EL2: the stage 2 root under VMID 1
abbrev pub vttbr : ℕ
vttbr = 2 ^ 48 + s2_root

abbrev pub ishst : Barrier
ishst = record { domain = Inner; types = Stores }

abbrev pub ish : Barrier
ish = record { domain = Inner; types = All }

-- the seven events before the rounds
abbrev pub opening : ℕ → Event
opening k =
    if k == 0 then Init 0 el2_root
    else (if k == 1 then Root 0 El2 None el2_root
    else (if k == 2 then Init 0 s2_root
    else (if k == 3 then Root 0 S2 None s2_root
    else (if k == 4 then Msr 0 Ttbr0El2 el2_root
    else (if k == 5 then Msr 0 VttbrEl2 vttbr
    else Isb 0)))))

-- The eight events of a round in the EL2 tree: the PE p makes a block at the place, clears it, flushes its first page
-- and waits.
abbrev pub el2_step : ℕ → ℕ → ℕ → ℕ → ℕ → Event
el2_step p place block page k =
    if k == 0 then Write p place block
    else (if k == 1 then Dsb p ishst
    else (if k == 2 then Write p place 0
    else (if k == 3 then Dsb p ishst
    else (if k == 4 then Tlbi p Vae2is page
    else (if k == 5 then Dsb p ish
    else (if k == 6 then Isb p
    else Dmb p ish))))))

-- The eight events of a round in the stage 2 tree: PE 0 does the same, and flushes what combines both stages, too.
abbrev pub s2_step : ℕ → ℕ → ℕ → ℕ → Event
s2_step place block page k =
    if k == 0 then Write 0 place block
    else (if k == 1 then Dsb 0 ishst
    else (if k == 2 then Write 0 place 0
    else (if k == 3 then Dsb 0 ishst
    else (if k == 4 then Tlbi 0 Ipas2e1is page
    else (if k == 5 then Dsb 0 ish
    else (if k == 6 then Tlbi 0 Vmalle1is 0
    else Dsb 0 ish))))))

-- which of the 512 descriptors of a root the round r writes
abbrev pub slot : ℕ → ℕ → ℕ
slot n r = (n + r) % 512

abbrev pub place_in : ℕ → ℕ → ℕ
place_in root s = root + 8 * s

-- the number of the first page of the 1 GiB that the descriptor translates
abbrev pub first_page : ℕ → ℕ
first_page s = s * 0x40000

-- the block of the round r: its output address is a multiple of 1 GiB
abbrev pub block : ℕ → ℕ
block r = r % 512 * 2 ^ 30 + 0x701

-- rounds of even numbers are in the EL2 tree, by the four PEs in turn; the others are in the stage 2 tree
abbrev pub round_step : ℕ → ℕ → ℕ → Event
round_step n r k =
    if r % 2 == 0
    then el2_step (r / 2 % 4) (place_in el2_root (slot n r)) (block r) (first_page (slot n r)) k
    else s2_step (place_in s2_root (slot n r)) (block r) (first_page (slot n r)) k

-- the event of index i, from 0
abbrev pub event_at : ℕ → ℕ → Event
event_at n i = if nat_lt i 7 then opening i else round_step n ((i - 7) / 8) ((i - 7) % 8)

-- The first events of the log, so many, newest first.
abbrev pub log_of : ℕ → ℕ → List Event
log_of n zero = []
log_of n (suc i) = event_at n i ∷ log_of n i

-- The first so many events of the log of a number keep the rules: each of them breaks none after those before it. Each
-- fits the header, and none reaches a limit of pages, roots or register values.
pub record GeneratedKeepsRules (n count : ℕ) : Type 0 where
  pub kept : keeps heading Patterns (log_of n count) ≡ true
  pub unbroken : (i : ℕ) → i < count → broken heading Patterns (log_of n i) (event_at n i) ≡ None
  pub fits : (i : ℕ) → i < count → fits_heading heading (event_at n i) ≡ true
  pub limits : (i : ℕ) → i < count → limit_of (log_of n i) (event_at n i) ≡ None
