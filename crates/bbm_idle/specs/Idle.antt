-- Idle events: those that a log can do without, and still keep the rules. A history is newest first, so whether an
-- event is idle goes by the events before it alone. Source: project's own choice.
use Rattle.std.specs.Option.{option_map_or}
use Rattle.std.specs.Prelude.{◌≡◌, ℕ, Bool, true, false, not, ◌&&◌, ◌||◌, ◌==◌, List, [], ◌∷◌, map, Option}
use Rattle.std.specs.Prelude.{if◌then◌else◌}
use Rattle.bbm_lemmas.specs.EveryPe.{every_pe}
use Rattle.bbm_tlbi_scope.specs.declared.entry.Cover.{Cover}
use Rattle.bbm_tlbi_scope.specs.declared.entry.Cover.TheVariants.{None as NoCover, Half, Second, Full}
use Rattle.bbm_rules.specs.Claims.{Patterns}
use Rattle.bbm_rules.specs.Cleansing.{cleansed, half, seen}
use Rattle.bbm_rules.specs.Covers.{note, noted}
use Rattle.bbm_rules.specs.Held.{ValidWrite, empties_tables, last_valid}
use Rattle.bbm_rules.specs.Lists.{any, every, some_pe}
use Rattle.bbm_rules.specs.Notes.{Noted, topped}
use Rattle.bbm_rules.specs.Phases.{phase_of}
use Rattle.bbm_rules.specs.Places.{page_of}
use Rattle.bbm_rules.specs.Prelude.{Barrier, Heading, Event, Dsb, Dmb, Isb, Tlbi, Msr}
use Rattle.bbm_rules.specs.Reach.{Issued, completes, reaches, unanswered}
use Rattle.bbm_rules.specs.Roots.{first_pages}
use Rattle.bbm_rules.specs.Tags.{itself}
use Rattle.bbm_rules.specs.Tree.{node_of}
use Rattle.bbm_rules.specs.Values.{written_places}
use Rattle.bbm_alike.specs.SameTags.{takes_of}
use Rattle.bbm_idle.specs.SamePhase.{same_phase}

-- whether p wrote a register since its last ISB
abbrev pub wrote_register : ℕ → List Event → Bool
wrote_register p [] = false
wrote_register p (Msr pe reg value ∷ h) = pe == p || wrote_register p h
wrote_register p (Isb pe ∷ h) = if pe == p then false else wrote_register p h
wrote_register p (_ ∷ h) = wrote_register p h

-- Whether a TLBI that covers a place so far adds something at a PE at which the place is seen, half and cleansed as
-- told: in full, where it is seen and not cleansed; half, where it is seen and not half; the rest, where it is half and
-- not cleansed.
abbrev pub adds : Cover → Bool → Bool → Bool → Bool
adds Full is_seen is_half is_cleansed = is_seen && not is_cleansed
adds Half is_seen is_half is_cleansed = is_seen && not is_half
adds Second is_seen is_half is_cleansed = is_half && not is_cleansed
adds NoCover is_seen is_half is_cleansed = false

module _ (heading : Heading) where
  -- whether a TLBI that covers the place so far adds something at p, where these events came after its last valid write
  abbrev pub adds_to : Cover → ℕ → ℕ → List Noted → Bool
  adds_to cover p place since =
      adds cover (seen heading place p since) (half heading place p since) (cleansed heading Patterns place p since)

  -- whether a TLBI with these notes adds something at p, over the last valid write of the place: by its cover, and from
  -- version 5 on by its top cover, too
  abbrev pub adds_since : Noted → ℕ → ℕ → Option ValidWrite → Bool
  adds_since tlbi p place found = option_map_or (λ w. adds_to (tlbi.covers place) p place w.since
      || (empties_tables heading.version && adds_to (tlbi.tops place) p place (map topped w.since))) found false

  -- the same of a place of a tree
  abbrev pub adds_with : List Noted → Noted → ℕ → ℕ → Bool
  adds_with h tlbi p place = option_map_or (λ n. adds_since tlbi p place (last_valid n.kind n.level place h))
      (node_of heading Patterns h (page_of place)) false

  -- the same of a TLBI that comes after these events
  abbrev pub adds_at : List Noted → Event → ℕ → ℕ → Bool
  adds_at h e p place = adds_with h (note heading Patterns h e) p place

  -- Needed: a TLBI that at a PE which it reaches adds something at a place of a tree, or takes a whole tag that is kept
  -- there for the page of a declared root, or of one that was given up. A place that was never written holds nothing.
  abbrev pub is_needed_at : List Event → Event → ℕ → Bool
  is_needed_at h e p = reaches heading e p
      && (any (adds_at (noted heading Patterns h) e p) (written_places h)
      || any (takes_of heading h e p) (first_pages h))

  abbrev pub is_needed : List Event → Event → Bool
  is_needed h e = some_pe heading.pes (is_needed_at h e)

  -- whether the event leaves the phase of each place at each PE
  abbrev pub keeps_phases : List Event → Event → Bool
  keeps_phases h e = every (λ place. every_pe heading.pes
      (λ p. same_phase (phase_of heading Patterns (e ∷ h) place p) (phase_of heading Patterns h place p)))
      (written_places h)

  -- whether the DSB answers a TLBI that was needed
  abbrev pub answers_needed : Barrier → Issued Event → Bool
  answers_needed dsb t = completes dsb t.tlbi && is_needed t.before t.tlbi

  -- Idle: a DMB; an ISB of a PE that wrote no register since its last one; a TLBI that isn't needed; a DSB that changes
  -- no phase and answers no TLBI that was needed.
  unfoldable pub is_idle : List Event → Event → Bool
  is_idle h (Dmb pe dsb) = true
  is_idle h (Isb pe) = not (wrote_register pe h)
  is_idle h (Tlbi pe op xt) = not (is_needed h (Tlbi pe op xt))
  is_idle h (Dsb pe dsb) = keeps_phases h (Dsb pe dsb) && not (any (answers_needed dsb) (unanswered itself pe h))
  is_idle h _ = false

  -- for each event of a log whether it is idle, the newest first
  abbrev pub idle_marks : List Event → List Bool
  idle_marks [] = []
  idle_marks (e ∷ h) = is_idle h e ∷ idle_marks h

-- the log without the events that are chosen, each by what came before it
abbrev pub without : (List Event → Event → Bool) → List Event → List Event
without chosen [] = []
without chosen (e ∷ h) = if chosen h e then without chosen h else e ∷ without chosen h

-- each event that is chosen is idle
abbrev pub ChoosesIdle : Heading → (List Event → Event → Bool) → Type 0
ChoosesIdle heading chosen =
    (older : List Event) (e : Event) → chosen older e ≡ true → is_idle heading older e ≡ true

-- the log without its idle events
abbrev pub without_idle : Heading → List Event → List Event
without_idle heading h = without (is_idle heading) h
