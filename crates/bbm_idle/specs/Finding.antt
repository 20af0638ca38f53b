-- What is kept beside a history, and asked of it, while the idle events of a log are found. No public contract cites
-- these words. Source: project's own choice.
use Rattle.std.specs.Option.{option_map_or}
use Rattle.std.specs.Prelude.{◌≡◌, ℕ, Bool, true, false, not, ◌&&◌, ◌||◌, ◌==◌, List, Option, Some, None}
use Rattle.std.specs.Prelude.{if◌then◌else◌}
use Rattle.bbm_lemmas.specs.EveryPe.{every_pe}
use Rattle.bbm_regimes.specs.PeMask.{pe_in}
use Rattle.bbm_barriers.specs.Options.{answers}
use Rattle.bbm_tlbi_scope.specs.declared.entry.Cover.{Cover}
use Rattle.bbm_tlbi_scope.specs.ScopeTags.{takes_whole_tag}
use Rattle.bbm_rules.specs.declared.phase.Phase.{Phase}
use Rattle.bbm_rules.specs.declared.phase.Phase.TheVariants.{Clean, Live}
use Rattle.bbm_rules.specs.Claims.{Patterns}
use Rattle.bbm_rules.specs.Held.{ValidWrite, cleansed_everywhere, last_valid}
use Rattle.bbm_rules.specs.Lists.{any}
use Rattle.bbm_rules.specs.Notes.{Noted}
use Rattle.bbm_rules.specs.Phases.{broken_phase}
use Rattle.bbm_rules.specs.Prelude.{Heading, Event, Scope, Tag, Dsb, Tlbi}
use Rattle.bbm_rules.specs.Reach.{Issued, reaches, unanswered}
use Rattle.bbm_rules.specs.Roots.{first_pages}
use Rattle.bbm_rules.specs.Tags.{Reading, ever_read, itself, takes_tag}
use Rattle.bbm_rules.specs.Values.{written_places}
use Rattle.bbm_oracle_tags.specs.Watches.{is_cast}
use Rattle.bbm_oracle_patterns.specs.Kept.{notes_for}
use Rattle.bbm_oracle_patterns.specs.PlacePhases.{furthest}
use Rattle.bbm_oracle_patterns.specs.declared.kept.Covering.{Covering}
use Rattle.bbm_oracle_patterns.specs.declared.trace.Trace.{Trace}
use Rattle.bbm_oracle_trees.specs.ByPatterns.{StandsByPatterns}
use Rattle.bbm_alike.specs.SameTags.{takes_of}
use Rattle.bbm_idle.specs.Idle.{adds, adds_since, adds_to, is_needed}
use Rattle.bbm_idle.specs.SamePhase.{same_phase}
use Rattle.bbm_oracle_patterns.specs.declared.search.TreePlace.{TreePlace}
use Rattle.bbm_idle.specs.declared.find_phases.Phases.{Phases}
use Rattle.bbm_idle.specs.declared.find_phases.Phases.TheVariants.{Clean as AllClean, Live as AllLive, Broken as Marked}
use Rattle.bbm_idle.specs.declared.find_phases.PlacePhases.{PlacePhases}
use Rattle.bbm_idle.specs.declared.find_waiting.Waiting.{Waiting}
use Rattle.bbm_idle.specs.declared.finding.Search.{Search}

-- ---- places

-- whether a TLBI that covers a place so far adds something at p, by the sets of PEs at which the place is seen, half
-- and cleansed
abbrev pub trace_adds : Cover → ℕ → Option Trace → Bool
trace_adds cover p None = false
trace_adds cover p (Some t) = adds cover (pe_in t.seen p) (pe_in t.half p) (pe_in t.cleansed p)

-- the same over the last valid write of the place, where each event covers it as far as is asked
abbrev pub adds_for : Heading → Covering → Cover → ℕ → ℕ → Option ValidWrite → Bool
adds_for heading covering cover p place found =
    option_map_or (λ w. adds_to heading cover p place (notes_for covering w.since)) found false

-- whether a TLBI with these notes adds something at a seat, a place with the kind and the level that it has in its tree
abbrev pub place_adds : Heading → List Noted → Noted → ℕ → TreePlace → Bool
place_adds heading h tlbi p s = adds_since heading tlbi p s.place (last_valid s.kind s.level s.place h)

abbrev pub seat_adds : Heading → List Noted → Noted → ℕ → Option TreePlace → Bool
seat_adds heading h tlbi p None = false
seat_adds heading h tlbi p (Some s) = place_adds heading h tlbi p s

-- ---- tags

-- whether the reading is one of the root, and its tag passes the test
abbrev pub passes : ℕ → (Tag → Bool) → Reading → Bool
passes root test r = r.root == root && test r.tag

-- the list has what was ever readable
abbrev pub IsKnown : Heading → List Event → List Reading → Type 0
IsKnown heading h known = (root : ℕ) (test : Tag → Bool) → any (passes root test) known ≡ any test (ever_read heading root h)

-- whether the reading is one of the root, its tag is taken whole by a TLBI of this scope, and it passes the test
abbrev pub is_taken : Scope → Option ℕ → ℕ → (Reading → Bool) → Reading → Bool
is_taken scope vmid root test r = (r.root == root && takes_whole_tag scope vmid r.tag) && test r

-- what was ever readable for the root of the page under a tag that the TLBI takes whole passes the test
abbrev pub taken_passes : Heading → List Event → Event → (ℕ → Tag → Bool) → ℕ → Bool
taken_passes heading h e test page = any (λ tag. takes_tag heading e h tag && test page tag) (ever_read heading page h)

-- the list has what was ever readable under a tag that the TLBI takes whole, for a declared root or one that was given
-- up
abbrev pub AreTaken : Heading → List Event → Event → List Reading → Type 0
AreTaken heading h e taken = (test : ℕ → Tag → Bool)
    → any (λ r. test r.root r.tag) taken ≡ any (taken_passes heading h e test) (first_pages h)

-- whether a TLBI that adds something at places at these PEs is needed at p
abbrev pub needed_by : Heading → List Event → Event → (ℕ → Bool) → ℕ → Bool
needed_by heading h e added p = reaches heading e p && (added p || any (takes_of heading h e p) (first_pages h))

-- ---- phases

-- the phase at p of a place that is broken
abbrev pub phase_by : Trace → ℕ → Phase
phase_by t p = furthest (pe_in t.cleansed p) (pe_in t.half p) (pe_in t.seen p)

-- the phase at p of a place whose value is valid or isn't, by what came after its last valid write
abbrev pub phase_since : Heading → Bool → ℕ → ℕ → List Noted → Phase
phase_since heading valid place p since = if cleansed_everywhere heading Patterns place since then Clean
    else (if valid then Live else broken_phase heading Patterns place p since)

-- the phase at p, by the phases at all PEs
abbrev pub phase_from : Phases → ℕ → Phase
phase_from AllClean p = Clean
phase_from AllLive p = Live
phase_from (Marked t) p = phase_by t p

-- whether a place has the same phase at each PE before and after
abbrev pub is_kept : ℕ → (ℕ → ℕ → Phase) → (ℕ → ℕ → Phase) → ℕ → Bool
is_kept pes new old place = every_pe pes (λ p. same_phase (new place p) (old place p))

abbrev pub is_kept_by : ℕ → (ℕ → ℕ → Phase) → PlacePhases → Bool
is_kept_by pes new o = every_pe pes (λ p. same_phase (new o.place p) (phase_from o.phases p))

-- ---- TLBIs that await their answer

module _ (heading : Heading) where
  -- a needed TLBI of this sort, broadcast or not
  abbrev pub waits_for : Bool → Issued Event → Bool
  waits_for cast t = is_cast cast t.tlbi && is_needed heading t.before t.tlbi

  -- whether q has such a TLBI, unanswered
  abbrev pub waits : Bool → ℕ → List Event → Bool
  waits cast q h = any (waits_for cast) (unanswered itself q h)

-- what an event changes of it, where it is told whether the event is idle
abbrev pub waits_after : Bool → Bool → Event → ℕ → Bool → Bool
waits_after cast idle (Tlbi pe op xt) q before = (pe == q && (is_cast cast (Tlbi pe op xt) && not idle)) || before
waits_after cast idle (Dsb pe dsb) q before = before && not (pe == q && answers dsb cast)
waits_after cast idle _ q before = before

-- which PEs wait for a local TLBI of theirs that may matter, and which for a broadcast one
pub record IsWaiting (w : Waiting) (heading : Heading) (h : List Event) : Type 0 where
  pub local : (q : ℕ) → pe_in w.local q ≡ waits heading false q h
  pub broadcast : (q : ℕ) → pe_in w.broadcast q ≡ waits heading true q h

-- ---- all of it

-- the search stands after these events
pub record IsSearch (s : Search) (heading : Heading) (h : List Event) : Type 0 where
  pub history : StandsByPatterns s.history heading h
  pub written : s.written.items ≡ written_places h
  pub known : IsKnown heading h s.known.items
  pub waiting : IsWaiting s.waiting heading h

-- what is kept of the events beside the history stays
pub record KeepsRest (old new : Search) : Type 0 where
  pub written : new.written ≡ old.written
  pub known : new.known ≡ old.known
  pub waiting : new.waiting ≡ old.waiting
