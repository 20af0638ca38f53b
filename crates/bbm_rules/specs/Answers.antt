-- What a checker may be asked, what its answer to an event means, and where it takes no memory.
-- Source: project's own choice, where no other is named.
use Rattle.std.specs.Prelude.{◌≡◌, ℕ, ◌<◌, ◌-◌, ◌^◌, Bool, true, false, ◌&&◌, ◌||◌, ◌==◌, List, [], ◌∷◌, length}
use Rattle.std.specs.Prelude.{Option, Some, None, is_none, Result, Ok, Err, if◌then◌else◌}
use Rattle.bbm_regimes.specs.declared.regime.Which.{Which}
use Rattle.bbm_events.specs.Fits.{fits_heading}
use Rattle.bbm_rules.specs.Prelude.{Heading, Event, Init, Write, Dsb, Dmb, Isb, Lock, Unlock}
use Rattle.bbm_rules.specs.declared.step_fault.StepFault.{StepFault}
use Rattle.bbm_rules.specs.declared.step_fault.StepFault.TheVariants.{Broken, Limit, NoMemory}
use Rattle.bbm_rules.specs.Attach.{attached_by}
use Rattle.bbm_rules.specs.Broken.{Breach}
use Rattle.bbm_rules.specs.Claims.{Patterns}
use Rattle.bbm_rules.specs.Covers.{noted}
use Rattle.bbm_rules.specs.Places.{page_of}

-- What stands for a history of a header may take this event: it fits the header, and fewer than 2^64 - 1 events were
-- taken.
abbrev pub MayTake : (Heading → List Event → Type 0) → Event → Type 0
MayTake stands event = (heading : Heading) × (h : List Event) × stands heading h × (fits_heading heading event ≡ true)
    × (length h < 2 ^ 64 - 1)

-- What stands for a history of a header may be asked of this PE, which is one of the header.
abbrev pub MayAsk : (Heading → List Event → Type 0) → ℕ → Type 0
MayAsk stands pe = (heading : Heading) × (h : List Event) × stands heading h × (pe < heading.pes)

-- Given the least broken rule with its number, or none, and the limit that the event reaches, or none: the event is
-- taken where there is neither; a broken rule is named before a limit. Want of memory may come in the place of any.
abbrev pub Answers : Result (Unit {0}) StepFault → Option Breach → Option Which → Type 0
Answers (Ok _) breach limit = (breach ≡ None) × (limit ≡ None)
Answers (Err (Broken rule at)) breach limit = breach ≡ Some (record { rule = rule; at = at })
Answers (Err (Limit which)) breach limit = (breach ≡ None) × (limit ≡ Some which)
Answers (Err NoMemory) breach limit = Unit {0}

-- The events for which a frugal checker takes no memory.
abbrev pub takes_no_memory : Event → Bool
takes_no_memory (Dsb pe dsb) = true
takes_no_memory (Dmb pe dsb) = true
takes_no_memory (Isb pe) = true
takes_no_memory (Lock pe lock) = true
takes_no_memory (Unlock pe lock) = true
takes_no_memory _ = false

-- whether the place was written since the last init of its page
abbrev pub is_written : List Event → ℕ → Bool
is_written [] place = false
is_written (Write pe at value ∷ h) place = at == place || is_written h place
is_written (Init pe page ∷ h) place = if page == page_of place then false else is_written h place
is_written (_ ∷ h) place = is_written h place

-- Whether the event is a write that attaches nothing, at a place that was written since the last init of its page. Room
-- for the place stands already.
abbrev pub rewrites : Heading → List Event → Event → Bool
rewrites heading h (Write pe place value) =
    is_written h place && is_none (attached_by heading Patterns (noted heading Patterns h) (Write pe place value))
rewrites heading h _ = false
