-- The phase of a place of a tree.
use Rattle.bbm_rules.proofs.Common.{◌≡◌, ℕ, ◌||◌, cond, List, Option, Some, None, refl, sym, ◌∙◌, ap, is_valid, Heading}
use Rattle.bbm_rules.proofs.Common.{Event, Trust, cleansed_everywhere, last_valid, ◌>>=◌, Noted, events_of}
use Rattle.bbm_rules.proofs.Common.{broken_phase, noted, page_of, Node, node_of, value_of}
use Rattle.std.specs.Option.{unwrap_or}
use Rattle.bbm_rules.specs.declared.phase.Phase.TheVariants.{Clean, Live}
use Rattle.bbm_rules.specs.Held.{emptied}
use Rattle.bbm_rules.specs.Phases.{phase_of}
use Rattle.bbm_oracle_patterns.specs.PlacePhases.{phase_at}
use Rattle.bbm_oracle_trees.specs.Past.{Past, notes}
use Rattle.bbm_oracle_trees.specs.TreePhases.{phase_among}
use Rattle.bbm_oracle_trees.specs.HistoryStandsFor.{StandsFor}

-- where the search of the node found one
pub phase_at_node : (heading : Heading) (trust : Trust) (h : List Noted) (place p : ℕ) (n : Node) →
    node_of heading trust h (page_of place) ≡ Some n →
    phase_at heading trust n.kind n.level place (value_of (events_of h) place) p h ≡ phase_among heading trust h place p
phase_at_node heading trust h place p n found =
    sym (ap (λ (o : Option Node). unwrap_or (o >>= (λ m. last_valid m.kind m.level place h >>= (λ w.
    cond (emptied heading trust m.kind m.level place h || cleansed_everywhere heading trust place w.since) None
    (Some (cond (is_valid m.kind m.level (value_of (events_of h) place)) Live (broken_phase heading trust place p w.since)))))) Clean) found)

-- where it found none
pub phase_nowhere : (heading : Heading) (trust : Trust) (h : List Noted) (place p : ℕ) →
    node_of heading trust h (page_of place) ≡ None → Clean ≡ phase_among heading trust h place p
phase_nowhere heading trust h place p none =
    sym (ap (λ (o : Option Node). unwrap_or (o >>= (λ m. last_valid m.kind m.level place h >>= (λ w.
    cond (emptied heading trust m.kind m.level place h || cleansed_everywhere heading trust place w.since) None
    (Some (cond (is_valid m.kind m.level (value_of (events_of h) place)) Live (broken_phase heading trust place p w.since)))))) Clean) none)

-- the same of the history that the notes stand for
phase_noted : (heading : Heading) (trust : Trust) (h : List Event) (place p : ℕ) → events_of (noted heading trust h) ≡ h →
    phase_among heading trust (noted heading trust h) place p ≡ phase_of heading trust h place p
unfolding phase_of
phase_noted heading trust h place p e = rw e refl

pub phase_stands : (past : Past) (heading : Heading) (h : List Event) → StandsFor past heading h → (place p : ℕ) →
    phase_among past.heading past.trust (notes past) place p ≡ phase_of heading past.trust h place p
phase_stands past heading h s place p =
    ap (λ (g : Heading). phase_among g past.trust (notes past) place p) s.heading_is
    ∙ ap (λ (n : List Noted). phase_among heading past.trust n place p) s.notes_are
    ∙ phase_noted heading past.trust h place p (ap (λ (n : List Noted). events_of n) (sym s.notes_are) ∙ s.events_are)
