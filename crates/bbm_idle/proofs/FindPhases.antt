-- The phases of places at all PEs.
use Rattle.bbm_idle.proofs.Common.{Patterns, phase_at, Past, notes, StandsByPatterns, same_phase}
use Rattle.bbm_rules.proofs.Common.{◌≡◌, ℕ, ◌<◌, Bool, true, false, not, ◌&&◌, ◌||◌, nat_lt, List, Some, refl, sym, ap}
use Rattle.bbm_rules.proofs.Common.{◌∙◌, lt-ltb, Trust, cleansed, half, seen, Noted, events_of, page_of, Heading, Event}
use Rattle.bbm_rules.proofs.Common.{Node, node_of, value_of}
use Rattle.bbm_regimes.specs.PeMask.{pe_in}
use Rattle.bbm_rules.specs.Phases.{phase_of}
use Rattle.bbm_oracle_patterns.specs.PlacePhases.{furthest}
use Rattle.bbm_oracle_patterns.specs.declared.trace.Trace.{Trace}
use Rattle.bbm_oracle_trees.specs.TreePhases.{phase_among}
use Rattle.bbm_idle.specs.Finding.{phase_by}
use Rattle.bbm_oracle_trees.proofs.Phasing.{phase_at_node}
use Rattle.bbm_oracle_trees.proofs.Phasing as among

-- ---- of a history

-- where the search of the node found one
pub at_node : (heading : Heading) (trust : Trust) (h : List Noted) (place p : ℕ) (n : Node) → trust ≡ Patterns
    → node_of heading trust h (page_of place) ≡ Some n
    → phase_at heading Patterns n.kind n.level place (value_of (events_of h) place) p h ≡ phase_among heading trust h place p
at_node heading trust h place p n is found =
    ap (λ (t : Trust). phase_at heading t n.kind n.level place (value_of (events_of h) place) p h) (sym is)
    ∙ phase_at_node heading trust h place p n found

-- that of the events that the history stands for
pub phase_stands : (past : Past) (heading : Heading) (h : List Event) → StandsByPatterns past heading h → (place p : ℕ)
    → phase_among past.heading past.trust (notes past) place p ≡ phase_of heading Patterns h place p
phase_stands past heading h s place p =
    among.phase_stands past heading h s.kept place p ∙ ap (λ (t : Trust). phase_of heading t h place p) s.trust_is

-- ---- two phases

-- the PEs that are in one of the sets and not in both
abbrev pub differ : Bool → Bool → Bool
differ a b = (a && not b) || (b && not a)

-- the PEs at which two broken places have the same phase
same_furthest : (c c' h h' s s' : Bool)
    → not ((differ c c' || differ (c || h) (c' || h')) || differ ((c || h) || s) ((c' || h') || s'))
    ≡ same_phase (furthest c h s) (furthest c' h' s')
same_furthest true true h h' s s' = refl
same_furthest true false h true s s' = refl
same_furthest true false h false s true = refl
same_furthest true false h false s false = refl
same_furthest false true true h' s s' = refl
same_furthest false true false h' true s' = refl
same_furthest false true false h' false s' = refl
same_furthest false false true true s s' = refl
same_furthest false false true false s true = refl
same_furthest false false true false s false = refl
same_furthest false false false true true s' = refl
same_furthest false false false true false s' = refl
same_furthest false false false false true true = refl
same_furthest false false false false true false = refl
same_furthest false false false false false true = refl
same_furthest false false false false false false = refl

pub alike_at : (pes p : ℕ) (new old : Trace) (here cleansed half seen : Bool) → p < pes
    → here ≡ (nat_lt p pes && not ((cleansed || half) || seen))
    → cleansed ≡ differ (pe_in new.cleansed p) (pe_in old.cleansed p)
    → half ≡ differ (pe_in new.cleansed p || pe_in new.half p) (pe_in old.cleansed p || pe_in old.half p)
    → seen ≡ differ ((pe_in new.cleansed p || pe_in new.half p) || pe_in new.seen p) ((pe_in old.cleansed p || pe_in old.half p) || pe_in old.seen p)
    → here ≡ same_phase (phase_by new p) (phase_by old p)
alike_at pes p new old here cleansed half seen below is c h s =
    is
    ∙ ap (λ (b : Bool). b && not ((cleansed || half) || seen)) (lt-ltb p pes below)
    ∙ rw (c, h, s) (same_furthest (pe_in new.cleansed p) (pe_in old.cleansed p) (pe_in new.half p) (pe_in old.half p) (pe_in new.seen p) (pe_in old.seen p))
