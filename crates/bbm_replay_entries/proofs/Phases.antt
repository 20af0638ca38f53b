-- The phase that a state tells.
use Rattle.bbm_rules.proofs.Common.{◌≡◌, ℕ, ◌<◌, Bool, true, false, cond, List, Option, Some, None, is_some}
use Rattle.bbm_rules.proofs.Common.{option_and_then, refl, sym, ◌∙◌, ap, is_valid, Patterns, noted, ValidWrite}
use Rattle.bbm_rules.proofs.Common.{cleansed_everywhere, last_valid, Noted, broken_phase, is_restless, page_of, Node}
use Rattle.bbm_rules.proofs.Common.{node_of, value_of, arith, ◌||◌}
use Rattle.std.specs.Prelude.{unwrap_or}
use Rattle.bbm_entry_state.specs.Points.{core_in, is_broken}
use Rattle.bbm_entry_state.specs.declared.pending.Pends.{Pends}
use Rattle.bbm_entry_state.specs.declared.state.EntryState.{EntryState}
use Rattle.bbm_events.specs.Heading.{Heading}
use Rattle.bbm_events.specs.declared.event.Event.{Event}
use Rattle.bbm_rules.specs.declared.phase.Phase.{Phase}
use Rattle.bbm_rules.specs.declared.phase.Phase.TheVariants.{Clean, Live}
use Rattle.bbm_rules.specs.Held.{emptied}
use Rattle.bbm_rules.specs.Phases.{phase_of}
use Rattle.bbm_replay_entries.specs.KnownOfEntries.{Known}
use Rattle.bbm_replay_entries.specs.Marked.{Marked}
use Rattle.bbm_replay_entries.specs.EntryPhases.{phase_in}
use Rattle.bbm_replay_entries.specs.EntryStands.{EntryStands, held_now}
use Rattle.bbm_replay_entries.proofs.Places.{holds_core}
use Rattle.bbm_entry_state.specs.declared.state.EntryState.TheVariants as state

-- a state without a core
coreless : (s : EntryState) (p : ℕ) → is_some (core_in s) ≡ false → phase_in s p ≡ Clean
coreless s p t = grind arith

-- one with a core that isn't broken
living : (s : EntryState) (p : ℕ) → is_some (core_in s) ≡ true → is_broken s ≡ false → phase_in s p ≡ Live
living s p t b = grind arith

module _ (heading : Heading) (k : Known heading) (h : List Event) (place p : ℕ) where
  -- a broken one
  breaking : (s : EntryState) (pends : ℕ → Pends) (since : List Noted) → p < heading.pes → is_broken s ≡ true → Marked heading place since s pends
      → broken_phase heading Patterns place p since ≡ phase_in s p
  breaking (state.Broken marks) pends since below b m = cc (m.clean p below, m.half p below, m.seen p)
  breaking s pends since below b m = cc

  -- whether nothing of the last valid write is held any more
  abbrev gone : Node → ValidWrite → Bool
  gone n w = emptied heading Patterns n.kind n.level place (noted heading Patterns h) || cleansed_everywhere heading Patterns place w.since

  -- the phase by the last valid write
  abbrev phase_from : (n : Node) → ValidWrite → Option Phase
  phase_from n w = cond (gone n w) None
      (Some (cond (is_valid n.kind n.level (value_of h place)) Live (broken_phase heading Patterns place p w.since)))

  abbrev by_node : Option Node → Phase
  by_node o = unwrap_or (option_and_then (λ n. option_and_then (λ w. phase_from n w) (last_valid n.kind n.level place (noted heading Patterns h))) o) Clean

  phase_is : phase_of heading Patterns h place p ≡ by_node (node_of heading Patterns (noted heading Patterns h) (page_of place))
  unfolding phase_of
  phase_is = refl

  module _ (n : Node) (s : EntryState) (pends : ℕ → Pends) (e : EntryStands heading h n.kind n.level place s pends) (below : p < heading.pes) where
    holds : is_some (held_now heading h n.kind n.level place) ≡ is_some (core_in s)
    holds = holds_core heading k n.kind n.level place h s pends e

    phase_found : (o : Option ValidWrite) → last_valid n.kind n.level place (noted heading Patterns h) ≡ o → unwrap_or (option_and_then (λ w. phase_from n w) o) Clean ≡ phase_in s p
    phase_found None is = cc (coreless s p (cc (holds, is)))
    phase_found (Some w) is = by (gone n w) refl
      where
        valid : (t : Bool) → is_valid n.kind n.level (value_of h place) ≡ t → is_some (held_now heading h n.kind n.level place) ≡ true
            → cond (is_valid n.kind n.level (value_of h place)) Live (broken_phase heading Patterns place p w.since) ≡ phase_in s p
        valid true v some = cc (v, living s p (sym holds ∙ some) (cc (e.broken, some, v)))
        valid false v some =
            let broken : is_broken s ≡ true = cc (e.broken, some, v) in cc (v, breaking s pends w.since below broken (e.marks broken w is))

        by : (t : Bool) → gone n w ≡ t → unwrap_or (cond (gone n w) None
            (Some (cond (is_valid n.kind n.level (value_of h place)) Live (broken_phase heading Patterns place p w.since)))) Clean ≡ phase_in s p
        by true t = cc (t, coreless s p (cc (holds, is, t)))
        by false t = cc (t, valid (is_valid n.kind n.level (value_of h place)) refl (cc (is, t)))

    pub phase_tells : node_of heading Patterns (noted heading Patterns h) (page_of place) ≡ Some n → phase_of heading Patterns h place p ≡ phase_in s p
    phase_tells is = phase_is ∙ (ap by_node is ∙ phase_found (last_valid n.kind n.level place (noted heading Patterns h)) refl)

  pub phase_outside : node_of heading Patterns (noted heading Patterns h) (page_of place) ≡ None → phase_of heading Patterns h place p ≡ Clean
  phase_outside is = phase_is ∙ ap by_node is

pub restless_tells : (heading : Heading) (k : Known heading) (h : List Event) (n : Node) (place : ℕ) (s : EntryState) (pends : ℕ → Pends)
    → node_of heading Patterns (noted heading Patterns h) (page_of place) ≡ Some n → EntryStands heading h n.kind n.level place s pends
    → is_restless heading Patterns (noted heading Patterns h) place ≡ is_broken s
restless_tells heading k h n place s pends is e = rw (is, k.notes_keep_the_events h) (sym e.broken)

pub restless_outside : (heading : Heading) (h : List Event) (place : ℕ)
    → node_of heading Patterns (noted heading Patterns h) (page_of place) ≡ None
    → is_restless heading Patterns (noted heading Patterns h) place ≡ false
restless_outside heading h place is = rw (is) refl
