-- What the state of a place and its pendings are to a history. Trust is in all patterns.
-- Source: project's own choice.
use Rattle.std.specs.Prelude.{◌≡◌, ℕ, true, false, not, ◌&&◌, List, Option, Some, is_some}
use Rattle.bbm_descriptor.specs.Descriptor.{core_of, is_valid}
use Rattle.bbm_descriptor.specs.declared.desc.Core.{Core}
use Rattle.bbm_entry_state.specs.Points.{core_in, is_broken}
use Rattle.bbm_entry_state.specs.EntryStanding.{IsIdle}
use Rattle.bbm_entry_state.specs.declared.pending.Pends.{Pends}
use Rattle.bbm_entry_state.specs.declared.state.EntryState.{EntryState}
use Rattle.bbm_rules.specs.Prelude.{Kind, Heading, Event}
use Rattle.bbm_rules.specs.Claims.Trust.{Patterns}
use Rattle.bbm_rules.specs.Covers.{noted}
use Rattle.bbm_rules.specs.Held.{ValidWrite, held, last_valid}
use Rattle.bbm_rules.specs.Lists.{◌>>=◌}
use Rattle.bbm_rules.specs.Tree.{next_of}
use Rattle.bbm_rules.specs.Values.{value_of}
use Rattle.bbm_replay_entries.specs.Marked.{Marked}

module _ (heading : Heading) where
  -- what a place holds that is read at this kind and level
  abbrev pub held_now : List Event → Kind → ℕ → ℕ → Option ℕ
  held_now h kind level place = held heading Patterns kind level place (noted heading Patterns h)

  -- the core of that, and the next page where it is a table
  abbrev pub core_now : List Event → Kind → ℕ → ℕ → Option Core
  core_now h kind level place = held_now h kind level place >>= core_of kind level

  abbrev pub next_now : List Event → Kind → ℕ → ℕ → Option ℕ
  next_now h kind level place = held_now h kind level place >>= next_of kind level

  -- The state of a place that is read at this kind and level, and what waits there for each issuer, stand for the
  -- history: the core is that of the held value; the place is broken where it holds a value and its present value is
  -- invalid; then the masks and pendings are those of the events since the last valid write, and else nothing waits.
  pub record EntryStands (h : List Event) (kind : Kind) (level place : ℕ) (state : EntryState) (pends : ℕ → Pends)
      : Type 0 where
    pub core : core_in state ≡ core_now h kind level place
    pub broken : is_broken state
        ≡ (is_some (held_now h kind level place) && not (is_valid kind level (value_of h place)))
    pub marks : is_broken state ≡ true → (w : ValidWrite)
        → last_valid kind level place (noted heading Patterns h) ≡ Some w → Marked heading place w.since state pends
    pub idle : is_broken state ≡ false → (q : ℕ) → IsIdle (pends q)

-- The state of a place that isn't broken and has this value, with nothing that waits: live where the value is valid,
-- and else clean.
pub record ByValue (kind : Kind) (level value : ℕ) (state : EntryState) (pends : ℕ → Pends) : Type 0 where
  pub core : core_in state ≡ core_of kind level value
  pub unbroken : is_broken state ≡ false
  pub idle : (q : ℕ) → IsIdle (pends q)
