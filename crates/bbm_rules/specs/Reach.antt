-- Which PEs a TLBI reaches, and which DSB answers it. A history is newest first.
use Rattle.std.specs.Prelude.{ℕ, Bool, false, ◌&&◌, ◌||◌, not, ◌==◌, List, [], ◌∷◌, filter, if◌then◌else◌}
use Rattle.bbm_barriers.specs.Options.{answers}
use Rattle.bbm_tlbi_scope.specs.Operations.{operation}
use Rattle.bbm_rules.specs.Prelude.{Barrier, Heading, Event, Dsb, Tlbi}

-- Reach: a broadcast TLBI reaches every PE. Any other reaches its issuer alone, or no PE where the header has `cnp`,
-- since what it takes may come back from the TLB of another PE.
-- Source: Arm ARM (DDI 0487), "TLB maintenance instructions"; under `cnp` it is the project's own choice.
abbrev pub reaches : Heading → Event → ℕ → Bool
reaches heading (Tlbi pe op xt) p = (operation op).broadcast || (not heading.cnp && pe == p)
reaches heading _ p = false

-- whether a DSB completes the TLBIs of this kind that its issuer issued before
abbrev pub completes : Barrier → Event → Bool
completes dsb (Tlbi pe op xt) = answers dsb (operation op).broadcast
completes dsb _ = false

-- a TLBI with what came before it; the items of a history are events, or events with notes
pub record Issued (A : Type 0) : Type 0 where
  pub tlbi : A
  pub before : List A

-- the TLBIs that the DSB doesn't complete
abbrev pub left_open : {A : Type 0} → (A → Event) → Barrier → List (Issued A) → List (Issued A)
left_open event dsb ts = filter (λ t. not (completes dsb (event t.tlbi))) ts

-- the unanswered TLBIs of q after one more event
abbrev pub still_open : {A : Type 0} → (A → Event) → ℕ → Event → Issued A → List (Issued A) → List (Issued A)
still_open event q (Tlbi pe op xt) issued ts = if pe == q then issued ∷ ts else ts
still_open event q (Dsb pe dsb) issued ts = if pe == q then left_open event dsb ts else ts
still_open event q _ issued ts = ts

-- Answered: a TLBI is answered by the first later DSB of its issuer that completes it. These are the TLBIs of the
-- PE q that no DSB has answered yet, the newest first. A DSB of q answers those of them that it completes.
-- Source: Arm ARM (DDI 0487), "TLB maintenance instructions", "Ordering and completion of TLB maintenance
-- instructions".
abbrev pub unanswered : {A : Type 0} → (A → Event) → ℕ → List A → List (Issued A)
unanswered event q [] = []
unanswered event q (x ∷ h) = still_open event q (event x) (record { tlbi = x; before = h }) (unanswered event q h)
