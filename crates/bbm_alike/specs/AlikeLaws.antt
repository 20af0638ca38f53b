-- What the laws of histories that are alike state. A history is newest first. Source: project's own choice.
use Rattle.std.specs.Prelude.{◌≡◌, ℕ, ◌<◌, true, List, [], ◌∷◌, Contains}
use Rattle.bbm_rules.specs.Prelude.{Barrier, Dmb, Dsb, Event, Heading, Isb, Reg, Tlbi, TlbiOp}
use Rattle.bbm_rules.specs.Broken.{broken, keeps}
use Rattle.bbm_rules.specs.Claims.{Trust}
use Rattle.bbm_rules.specs.Claims.Trust.{Patterns}
use Rattle.bbm_rules.specs.Covers.{cover_at, noted, top_at}
use Rattle.bbm_rules.specs.Notes.{Noted, events_of}
use Rattle.bbm_rules.specs.Phases.{phase_of, restless_of}
use Rattle.bbm_rules.specs.Places.{page_of}
use Rattle.bbm_rules.specs.RegisterValues.{register_values}
use Rattle.bbm_rules.specs.Roots.{roots_of}
use Rattle.bbm_rules.specs.Tree.{Node, held_at, tree}
use Rattle.bbm_rules.specs.Values.{written_places}
use Rattle.bbm_alike.specs.Alike.{Alike, TakesAlike}
use Rattle.bbm_alike.specs.SameTags.{AnswersNone, SameTags, TakesNone}

-- Before the first event all is alike, by any two trusts. Each history is alike itself by the same trust; two that are
-- alike are so either way round, each with its trust; and two that are alike a third are alike.
pub record AlikeJoins (heading : Heading) : Type 0 where
  pub start : (one other : Trust) → Alike heading one other [] []
  pub itself : (trust : Trust) (h : List Event) → Alike heading trust trust h h
  pub turned : (one other : Trust) (h h' : List Event) → Alike heading one other h h' → Alike heading other one h' h
  pub joined : (one middle other : Trust) (h h' h'' : List Event) → Alike heading one middle h h'
      → Alike heading middle other h' h'' → Alike heading one other h h''

-- Two histories that are alike are so still after the same event, where it breaks no rule in either and takes away
-- alike in both.
abbrev pub StepAlike : Heading → Trust → Trust → Type 0
StepAlike heading one other = (h h' : List Event) (e : Event) → 0 < heading.pes → keeps heading one (e ∷ h) ≡ true
    → keeps heading other (e ∷ h') ≡ true → Alike heading one other h h' → TakesAlike heading one other h h' e
    → Alike heading one other (e ∷ h) (e ∷ h')

-- Where every pattern is trusted in both histories, any event takes away alike; and by any trust an event does that is
-- no DSB.
pub record TakenAlike (heading : Heading) : Type 0 where
  pub patterns : (h h' : List Event) (e : Event) → Alike heading Patterns Patterns h h'
      → TakesAlike heading Patterns Patterns h h' e
  pub no_dsb : (one other : Trust) (h h' : List Event) (e : Event) → ((q : ℕ) (dsb : Barrier) → e ≡ Dsb q dsb → ⊥)
      → Alike heading one other h h' → TakesAlike heading one other h h' e

-- After histories that are alike, each read by its trust, every event breaks the same rule, at the same number, or
-- none; so where both keep the rules or neither does, the same holds of both with the event. Each place has the same
-- phase at each PE of the header, and as many places are restless.
pub record JudgedAlike (heading : Heading) (one other : Trust) : Type 0 where
  pub rule : (h h' : List Event) (e : Event) → Alike heading one other h h'
      → broken heading one h e ≡ broken heading other h' e
  pub keeps : (h h' : List Event) (e : Event) → Alike heading one other h h'
      → keeps heading one h ≡ keeps heading other h' → keeps heading one (e ∷ h) ≡ keeps heading other (e ∷ h')
  pub phase : (h h' : List Event) (place p : ℕ) → Alike heading one other h h' → p < heading.pes
      → phase_of heading one h place p ≡ phase_of heading other h' place p
  pub restless : (h h' : List Event) → Alike heading one other h h'
      → restless_of heading one h ≡ restless_of heading other h'

-- After histories that are alike, each read by its trust, every event has the same cover and the same top cover of each
-- place.
pub record CoversAlike (heading : Heading) (one other : Trust) : Type 0 where
  pub covers : (h h' : List Event) (e : Event) (place : ℕ) → Alike heading one other h h'
      → cover_at heading one (noted heading one h) e place ≡ cover_at heading other (noted heading other h') e place
  pub tops : (h h' : List Event) (e : Event) (place : ℕ) → Alike heading one other h h'
      → top_at heading one (noted heading one h) e place ≡ top_at heading other (noted heading other h') e place

-- Two annotated histories with the same roots and the same written places, in which each place of a tree holds the
-- same, have the same trees, each read by its trust.
abbrev pub TreesAlike : Heading → Trust → Trust → Type 0
TreesAlike heading one other = (h h' : List Noted) → roots_of (events_of h) ≡ roots_of (events_of h')
    → written_places (events_of h) ≡ written_places (events_of h')
    → ((n : Node) (place : ℕ) → Contains (tree heading one h) n → page_of place ≡ n.page
    → held_at heading one h n place ≡ held_at heading other h' n place)
    → tree heading one h ≡ tree heading other h'

-- Which events leave the tags of a history as they were: a DMB; an ISB after which the registers have the values that
-- they had; a TLBI that takes no whole tag that is kept for a page at a PE that it reaches; and a DSB that answers no
-- TLBI that did so at its issue.
pub record TagsStay (heading : Heading) : Type 0 where
  pub dmb : (trust : Trust) (p : ℕ) (dsb : Barrier) (h : List Event) → SameTags heading trust trust (Dmb p dsb ∷ h) h
  pub isb : (trust : Trust) (p : ℕ) (h : List Event)
      → ((q : ℕ) (reg : Reg) → register_values (Isb p ∷ h) q reg ≡ register_values h q reg)
      → SameTags heading trust trust (Isb p ∷ h) h
  pub tlbi : (pe : ℕ) (op : TlbiOp) (xt : ℕ) (h : List Event) → TakesNone heading h (Tlbi pe op xt)
      → SameTags heading Patterns Patterns (Tlbi pe op xt ∷ h) h
  pub dsb : (q : ℕ) (dsb : Barrier) (h : List Event) → AnswersNone heading q dsb h
      → SameTags heading Patterns Patterns (Dsb q dsb ∷ h) h
