-- Where two histories are alike, each place has the same phase at each PE of the header, and the same are restless.
use Rattle.bbm_rules.proofs.Common.{option_map_or, ◌≡◌, ℕ, ◌<◌, Bool, false, not, ◌&&◌, cond, List, Option, Some, None}
use Rattle.bbm_rules.proofs.Common.{count_by, is_some, refl, sym, ◌∙◌, ap, fun_ext, is_valid, Trust, noted, last_valid}
use Rattle.bbm_rules.proofs.Common.{Noted, events_of, broken_phase, is_restless, page_of, Heading, Event, Node, held_at}
use Rattle.bbm_rules.proofs.Common.{node_of, value_of, written_places}
use Rattle.bbm_rules.specs.Held.{emptied}
use Rattle.bbm_rules.specs.declared.phase.Phase.{Phase}
use Rattle.bbm_rules.specs.declared.phase.Phase.TheVariants.{Live}
use Rattle.bbm_rules.specs.Phases.{phase_of, restless_of}
use Rattle.bbm_alike.specs.Alike.{Alike, SamePatterns}
use Rattle.bbm_alike.specs.KnownOfHistories.{Known}
use Rattle.bbm_alike.proofs.NotesAlike.{NotesAlike, notes_alike}
use Rattle.bbm_alike.proofs.HeldStep.{last_of}

module _ (heading : Heading) (k : Known heading) (one other : Trust) (h h' : List Event)
    (a : Alike heading one other h h') where
  abbrev marks : List Noted
  marks = noted heading one h

  abbrev marks' : List Noted
  marks' = noted heading other h'

  abbrev notes : NotesAlike heading one other marks marks'
  notes = notes_alike heading k one other h h' a

  same_broken_phase : (place p : ℕ) (since since' : List Noted) → p < heading.pes
      → SamePatterns heading place one other since since'
      → broken_phase heading one place p since ≡ broken_phase heading other place p since'
  same_broken_phase place p since since' under same =
      rw (same.cleansed_alike p under, same.half_alike p under, same.seen_alike p under) refl

  module _ (place p : ℕ) (under : p < heading.pes) where
    by_held : (n : Node) (o : Option ℕ) → node_of heading one marks (page_of place) ≡ Some n
        → node_of heading other marks' (page_of place) ≡ Some n → held_at heading one marks n place ≡ o
        → held_at heading other marks' n place ≡ o → phase_of heading one h place p ≡ phase_of heading other h' place p
    by_held n None found found' is is' =
        (k.phase_parts one).empty h place p n found is ∙ sym ((k.phase_parts other).empty h' place p n found' is')
    by_held n (Some value) found found' is is' =
        let w = last_of heading one (emptied heading one n.kind n.level place marks) place value (last_valid n.kind n.level place marks) is in
        let w' = last_of heading other (emptied heading other n.kind n.level place marks') place value (last_valid n.kind n.level place marks') is' in
        let taken = (k.tree one).taken marks (page_of place) n found in
        let same : SamePatterns heading place one other w.0.since w'.0.since
        = a.patterns n place w.0 w'.0 taken.0 (sym taken.1) (ap is_some is) w.1 w'.1 in
        (k.phase_parts one).holding h place p value n w.0 found is w.1
        ∙ (ap (λ (v : ℕ). cond (is_valid n.kind n.level v) Live (broken_phase heading one place p w.0.since)) (a.values place)
        ∙ (ap (λ (phase : Phase). cond (is_valid n.kind n.level (value_of h' place)) Live phase)
        (same_broken_phase place p w.0.since w'.0.since under same)
        ∙ sym ((k.phase_parts other).holding h' place p value n w'.0 found' is' w'.1)))

    by_node : (o : Option Node) → node_of heading one marks (page_of place) ≡ o
        → node_of heading other marks' (page_of place) ≡ o → phase_of heading one h place p ≡ phase_of heading other h' place p
    by_node None found found' =
        (k.phase_parts one).outside h place p found ∙ sym ((k.phase_parts other).outside h' place p found')
    by_node (Some n) found found' =
        by_held n (held_at heading one marks n place) found found' refl
        (sym (notes.held n place found))

    pub same_phase : phase_of heading one h place p ≡ phase_of heading other h' place p
    same_phase =
        by_node (node_of heading one marks (page_of place)) refl
        (sym (notes.nodes (page_of place)))

  same_restless : (place : ℕ) → is_restless heading one marks place ≡ is_restless heading other marks' place
  same_restless place =
      by (node_of heading one marks (page_of place)) refl
      ∙ ap (λ (o : Option Node). option_map_or (at_node heading other marks') o false)
      (notes.nodes (page_of place))
    where
      at_node : Heading → Trust → List Noted → Node → Bool
      at_node heading trust h n =
          is_some (held_at heading trust h n place) && not (is_valid n.kind n.level (value_of (events_of h) place))

      by : (o : Option Node) → node_of heading one marks (page_of place) ≡ o
          → option_map_or (at_node heading one marks) o false ≡ option_map_or (at_node heading other marks') o false
      by None found = refl
      by (Some n) found =
          ap (λ (o : Option ℕ). is_some o && not (is_valid n.kind n.level (value_of (events_of marks) place)))
          (notes.held n place found)
          ∙ ap (λ (v : ℕ). is_some (held_at heading other marks' n place) && not (is_valid n.kind n.level v))
          (notes.values place)

  pub same_count : restless_of heading one h ≡ restless_of heading other h'
  unfolding restless_of
  same_count =
      ap (λ (f : ℕ → Bool). count_by f (written_places h)) (fun_ext same_restless)
      ∙ ap (λ (ps : List ℕ). count_by (is_restless heading other marks') ps) a.places
