-- The phase of a place by its node, what it holds, its value, and what is cleansed, half and seen.
use Rattle.bbm_histories.proofs.Common.{Heading}
use Rattle.bbm_rules.proofs.Common.{◌≡◌, ◌||◌, ℕ, Bool, true, false, cond, List, Option, Some, None, option_and_then}
use Rattle.bbm_rules.proofs.Common.{unwrap_or, refl, sym, ◌∙◌, ap, is_valid, Event, Trust, noted, ValidWrite}
use Rattle.bbm_rules.proofs.Common.{cleansed_everywhere, last_valid, broken_phase, page_of, Node, held_at, node_of}
use Rattle.bbm_rules.proofs.Common.{value_of}
use Rattle.bbm_rules.specs.declared.phase.Phase.{Phase}
use Rattle.bbm_rules.specs.declared.phase.Phase.TheVariants.{Clean, Live}
use Rattle.bbm_rules.specs.Held.{emptied}
use Rattle.bbm_rules.specs.Phases.{phase_of}
use Rattle.bbm_rules.proofs.HeldLemmas.{uncleansed}

module _ (heading : Heading) (trust : Trust) (h : List Event) (place p : ℕ) where
  abbrev emptied_at : Node → Bool
  emptied_at n = emptied heading trust n.kind n.level place (noted heading trust h)

  -- whether nothing of the last valid write is held any more
  abbrev gone : Node → ValidWrite → Bool
  gone n w = emptied_at n || cleansed_everywhere heading trust place w.since

  -- by the last valid write
  abbrev of_write : Node → ValidWrite → Option Phase
  of_write n w = cond (gone n w) None
      (Some (cond (is_valid n.kind n.level (value_of h place)) Live (broken_phase heading trust place p w.since)))

  abbrev of_last : Node → Option ValidWrite → Phase
  of_last n o = unwrap_or (option_and_then (of_write n) o) Clean

  phase_at : (o : Option Node) → node_of heading trust (noted heading trust h) (page_of place) ≡ o → phase_of heading trust h place p
      ≡ unwrap_or (option_and_then (λ n. option_and_then (of_write n) (last_valid n.kind n.level place (noted heading trust h))) o) Clean
  unfolding phase_of
  phase_at o k =
      ap (λ (x : Option Node). unwrap_or (option_and_then (λ n. option_and_then (of_write n) (last_valid n.kind n.level place (noted heading trust h))) x) Clean) k

  pub outside : node_of heading trust (noted heading trust h) (page_of place) ≡ None → phase_of heading trust h place p ≡ Clean
  outside k = phase_at None k

  pub empty : (n : Node) → node_of heading trust (noted heading trust h) (page_of place) ≡ Some n
      → held_at heading trust (noted heading trust h) n place ≡ None → phase_of heading trust h place p ≡ Clean
  empty n k none = phase_at (Some n) k ∙ by (last_valid n.kind n.level place (noted heading trust h)) none
    where
      go : (w : ValidWrite) (c : Bool) → cond c None (Some w.value) ≡ None
          → unwrap_or (cond c None (Some (cond (is_valid n.kind n.level (value_of h place)) Live (broken_phase heading trust place p w.since)))) Clean ≡ Clean
      go w true e = refl
      go w false e = cc

      by : (o : Option ValidWrite)
          → option_and_then (uncleansed heading trust place (emptied_at n)) o ≡ None
          → of_last n o ≡ Clean
      by None e = refl
      by (Some w) e = go w (gone n w) e

  pub holding : (value : ℕ) (n : Node) (w : ValidWrite) → node_of heading trust (noted heading trust h) (page_of place) ≡ Some n
      → held_at heading trust (noted heading trust h) n place ≡ Some value
      → last_valid n.kind n.level place (noted heading trust h) ≡ Some w → phase_of heading trust h place p
      ≡ cond (is_valid n.kind n.level (value_of h place)) Live (broken_phase heading trust place p w.since)
  holding value n w k some last =
      phase_at (Some n) k ∙ (ap (of_last n) last
      ∙ go (gone n w)
      (sym (ap (option_and_then (uncleansed heading trust place (emptied_at n))) last) ∙ some))
    where
      go : (c : Bool) → cond c None (Some w.value) ≡ Some value
          → unwrap_or (cond c None (Some (cond (is_valid n.kind n.level (value_of h place)) Live (broken_phase heading trust place p w.since)))) Clean
          ≡ cond (is_valid n.kind n.level (value_of h place)) Live (broken_phase heading trust place p w.since)
      go true e = cc
      go false e = refl
