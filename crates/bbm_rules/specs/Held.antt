-- What a place holds: the value that some TLB may still keep, or that the place has.
-- Source: Arm ARM (DDI 0487), "Using break-before-make when updating translation table entries".
use Rattle.std.specs.Option.{option_map_or}
use Rattle.std.specs.Prelude.{ℕ, zero, suc, Bool, false, not, ◌&&◌, ◌||◌, ◌==◌, List, [], ◌∷◌, Option, Some}
use Rattle.std.specs.Prelude.{None, is_some, if◌then◌else◌}
use Rattle.bbm_descriptor.specs.Descriptor.{is_valid}
use Rattle.bbm_rules.specs.Prelude.{Kind, Heading, Event, Init, Write, Dsb}
use Rattle.bbm_rules.specs.Claims.{Trust}
use Rattle.bbm_rules.specs.Cleansing.{above, cleansed}
use Rattle.bbm_rules.specs.Next.{next_of}
use Rattle.bbm_rules.specs.Notes.{Noted, events_of}
use Rattle.bbm_lemmas.specs.EveryPe.{every_pe}
use Rattle.bbm_rules.specs.Lists.{◌>>=◌, any}
use Rattle.bbm_rules.specs.Places.{page_of}
use Rattle.bbm_rules.specs.Values.{places_in}

-- Whether a table goes, too, where no entry ends in it any more and nothing is held below it. It waits for the commands:
-- no version does so yet.
abbrev pub empties_tables : ℕ → Bool
empties_tables version = false

-- a valid write: its value, and the part of the history after it
pub record ValidWrite : Type 0 where
  pub value : ℕ
  pub since : List Noted

-- one more event after a valid write
abbrev pub later : Noted → Option ValidWrite → Option ValidWrite
later n found = found >>= (λ w. Some (record w { since = n ∷ w.since }))

-- The last valid write of a place since the last init of its page, where the place has this kind and level. Given is
-- that of the history before the event.
abbrev pub last_valid_after : Kind → ℕ → ℕ → Event → Noted → Option ValidWrite → Option ValidWrite
last_valid_after kind level place (Write pe at value) n found =
    if at == place && is_valid kind level value then Some (record { value = value; since = [] }) else later n found
last_valid_after kind level place (Init pe page) n found = if page == page_of place then None else later n found
last_valid_after kind level place _ n found = later n found

abbrev pub last_valid : Kind → ℕ → ℕ → List Noted → Option ValidWrite
last_valid kind level place [] = None
last_valid kind level place (n ∷ h) = last_valid_after kind level place n.event n (last_valid kind level place h)

module _ (heading : Heading) (trust : Trust) where
  -- whether a place is cleansed, or above, at every PE of the header
  abbrev pub cleansed_everywhere : ℕ → List Noted → Bool
  cleansed_everywhere place since = every_pe heading.pes (λ p. cleansed heading trust place p since)

  abbrev pub above_everywhere : ℕ → List Noted → Bool
  above_everywhere place since = every_pe heading.pes (λ p. above heading trust place p since)

  -- the last valid value of the place since the last init of its page, unless the place is cleansed at every PE or, by
  -- what is given, emptied
  abbrev pub held_unless : Bool → Kind → ℕ → ℕ → List Noted → Option ℕ
  held_unless gone kind level place h = last_valid kind level place h
      >>= (λ w. if gone || cleansed_everywhere place w.since then None else Some w.value)

  -- Given whether a place one level deeper holds something: whether the last valid value of the place is a table, the
  -- place is above at every PE, and no place of the next page holds anything.
  abbrev pub is_empty_above : (ℕ → List Noted → Bool) → Kind → ℕ → ℕ → List Noted → Bool
  is_empty_above holds kind level place h = option_map_or (λ w. option_map_or
      (λ next. above_everywhere place w.since && not (any (λ below. holds below h) (places_in (events_of h) next)))
      (next_of kind level w.value) false) (last_valid kind level place h) false

  -- so it is at a DSB, and since then the last valid value stays
  abbrev pub emptied_after : Kind → ℕ → ℕ → Event → Bool → Bool → Bool
  emptied_after kind level place (Write pe at value) now before = not (at == place && is_valid kind level value) && before
  emptied_after kind level place (Init pe page) now before = not (page == page_of place) && before
  emptied_after kind level place (Dsb pe dsb) now before = before || now
  emptied_after kind level place _ now before = before

  abbrev pub emptied_by : (ℕ → List Noted → Bool) → Kind → ℕ → ℕ → List Noted → Bool
  emptied_by holds kind level place [] = false
  emptied_by holds kind level place (n ∷ h) = emptied_after kind level place n.event
      (is_empty_above holds kind level place (n ∷ h)) (emptied_by holds kind level place h)

  -- the same, where tables stand on so many levels at most from this one on; what a place of the next page holds is read
  -- at its kind one level deeper, whether or not its page is in a tree
  abbrev pub emptied_in : ℕ → Kind → ℕ → ℕ → List Noted → Bool
  emptied_in zero kind level place h = false
  emptied_in (suc levels) kind level place h = emptied_by (λ below older. is_some
      (held_unless (emptied_in levels kind (suc level) below older) kind (suc level) below older)) kind level place h

  -- Emptied: the last valid value is a table, and at some DSB since it was written the place was above at every PE and
  -- no place of the table's next page held anything. Before version 5 no place is emptied.
  abbrev pub emptied : Kind → ℕ → ℕ → List Noted → Bool
  emptied kind level place h = empties_tables heading.version && emptied_in 3 kind level place h

  -- Held: the last valid value of the place since the last init of its page, unless the place is cleansed at every PE or
  -- emptied.
  abbrev pub held : Kind → ℕ → ℕ → List Noted → Option ℕ
  held kind level place h = held_unless (emptied kind level place h) kind level place h
