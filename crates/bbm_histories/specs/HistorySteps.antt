-- Step equations: what a definition gives after an event, by the event and by what it gave before at the same place and
-- PE, or for the same tag. Most definitions are such equations already; here are those that search. Trust is in all
-- patterns. Source: project's own choice.
use Rattle.std.specs.Prelude.{ℕ, length, Bool, true, false, not, ◌&&◌, ◌||◌, ◌==◌, List, ◌∷◌, Option, Some, None}
use Rattle.std.specs.Prelude.{if◌then◌else◌}
use Rattle.bbm_barriers.specs.Options.{answers}
use Rattle.bbm_descriptor.specs.Descriptor.{is_valid}
use Rattle.bbm_lemmas.specs.ListWords.{same_flag}
use Rattle.bbm_tlbi_scope.specs.Operations.{operation}
use Rattle.bbm_tlbi_scope.specs.declared.entry.Cover.TheVariants.{Half, Second, Full}
use Rattle.bbm_rules.specs.Prelude.{Barrier, Kind, Tag, Heading, Event, Init, Write, Dsb, Tlbi}
use Rattle.bbm_rules.specs.Claims.{Trust}
use Rattle.bbm_rules.specs.Claims.Trust.{Patterns}
use Rattle.bbm_rules.specs.Cleansing.{cleansed, flushes, half, seen, writes}
use Rattle.bbm_rules.specs.Held.{cleansed_everywhere, emptied, held, last_valid}
use Rattle.bbm_rules.specs.Lists.{◌>>=◌, any, some}
use Rattle.bbm_rules.specs.Notes.{Noted, event_of}
use Rattle.bbm_rules.specs.Places.{page_of}
use Rattle.bbm_rules.specs.Reach.{Issued, reaches, unanswered}
use Rattle.bbm_rules.specs.Tags.{itself, read_since, takes_tag}
use Rattle.bbm_rules.specs.Values.{publishes_to}

-- whether the event is a TLBI that is broadcast, or one that isn't, as told
abbrev pub is_tlbi : Bool → Event → Bool
is_tlbi b (Tlbi pe op xt) = same_flag (operation op).broadcast b
is_tlbi b _ = false

-- whether some TLBI of q that no DSB has answered yet, broadcast or not as told, passes the test
abbrev pub waits : {A : Type 0} → (A → Event) → ℕ → Bool → (Issued A → Bool) → List A → Bool
waits event q b test h = any (λ t. is_tlbi b (event t.tlbi) && test t) (unanswered event q h)

-- the same after one more item
abbrev pub waits_after : {A : Type 0} → (A → Event) → ℕ → Bool → (Issued A → Bool) → Event → A → List A → Bool
waits_after event q b test (Tlbi pe op xt) x h =
    (pe == q && (is_tlbi b (Tlbi pe op xt) && test (record { tlbi = x; before = h }))) || waits event q b test h
waits_after event q b test (Dsb pe dsb) x h = if pe == q && answers dsb b then false else waits event q b test h
waits_after event q b test _ x h = waits event q b test h

-- what a DSB answers of what waits, broadcast or not
abbrev pub answered_by : Barrier → (Bool → Bool) → Bool
answered_by dsb waiting = (answers dsb true && waiting true) || (answers dsb false && waiting false)

-- ---- one place at one PE; `since` are the events after its last valid write

module _ (heading : Heading) (place p : ℕ) where
  -- whether q wrote the place
  abbrev pub wrote : ℕ → List Noted → Bool
  wrote q since = some (λ n older. writes q place n.event) since

  abbrev pub seen_after : Event → List Noted → Bool
  seen_after (Dsb q dsb) since = (publishes_to heading dsb q p && wrote q since) || seen heading place p since
  seen_after _ since = seen heading place p since

  -- TLBIs of q that reach p and aren't answered yet: one that covered the place half, or in full, when it was seen, and
  -- one that covered its rest when it was half
  abbrev pub half_waits : ℕ → Bool → List Noted → Bool
  half_waits q b since = waits event_of q b (flushes heading place p Half (seen heading place p)) since

  abbrev pub full_waits : ℕ → Bool → List Noted → Bool
  full_waits q b since = waits event_of q b (flushes heading place p Full (seen heading place p)) since

  abbrev pub second_waits : ℕ → Bool → List Noted → Bool
  second_waits q b since = waits event_of q b (flushes heading place p Second (half heading place p)) since

  abbrev pub half_after : Event → List Noted → Bool
  half_after (Dsb q dsb) since = answered_by dsb (λ b. half_waits q b since) || half heading place p since
  half_after _ since = half heading place p since

  abbrev pub cleansed_after : Event → List Noted → Bool
  cleansed_after (Dsb q dsb) since =
      (answered_by dsb (λ b. full_waits q b since) || answered_by dsb (λ b. second_waits q b since))
      || cleansed heading Patterns place p since
  cleansed_after _ since = cleansed heading Patterns place p since

-- ---- what a place holds

abbrev pub held_after : Heading → Trust → Kind → ℕ → ℕ → Event → Noted → List Noted → Option ℕ
held_after heading trust kind level place (Write pe at value) n h =
    if at == place && is_valid kind level value then Some value else held heading trust kind level place h
held_after heading trust kind level place (Init pe page) n h =
    if page == page_of place then None else held heading trust kind level place h
held_after heading trust kind level place (Dsb pe dsb) n h = last_valid kind level place h
    >>= (λ w. if emptied heading trust kind level place (n ∷ h) || cleansed_everywhere heading trust place (n ∷ w.since)
    then None else Some w.value)
held_after heading trust kind level place _ n h = held heading trust kind level place h

-- ---- one tag at one PE

module _ (heading : Heading) (p : ℕ) (tag : Tag) where
  -- a TLBI that reaches p and takes the whole tag, which hasn't been readable at p since its issue
  abbrev pub takes : List Event → Issued Event → Bool
  takes h t = (reaches heading t.tlbi p && takes_tag heading t.tlbi t.before tag)
      && not (read_since heading (length t.before) p tag h)

  -- such a TLBI of q isn't answered yet
  abbrev pub tag_waits : ℕ → Bool → List Event → Bool
  tag_waits q b h = waits itself q b (takes h) h

  abbrev pub tag_waits_after : ℕ → Bool → Event → List Event → Bool
  tag_waits_after q b (Tlbi pe op xt) h = (pe == q && (is_tlbi b (Tlbi pe op xt)
      && (reaches heading (Tlbi pe op xt) p && takes_tag heading (Tlbi pe op xt) h tag))) || tag_waits q b h
  tag_waits_after q b (Dsb pe dsb) h = if pe == q && answers dsb b then false else tag_waits q b h
  tag_waits_after q b _ h = tag_waits q b h
