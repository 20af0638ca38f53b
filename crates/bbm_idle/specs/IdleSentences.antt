-- Needed TLBIs and idle events once more, as sentences over all ways to split a history. `law_needed` and
-- `law_idle_event` say that they say the same. A history is newest first, so in `newer ++ older` the events of `newer`
-- came after those of `older`. Source: project's own choice.
use Rattle.std.specs.Prelude.{◌≡◌, ℕ, ◌<◌, ◌⊎◌, true, List, ◌∷◌, ◌++◌, map, Some}
use Rattle.bbm_tlbi_scope.specs.declared.entry.Cover.{Cover}
use Rattle.bbm_tlbi_scope.specs.declared.entry.Cover.TheVariants.{None as NoCover, Half, Second, Full}
use Rattle.bbm_rules.specs.Claims.{Patterns}
use Rattle.bbm_rules.specs.Covers.{cover_at, noted, top_at}
use Rattle.bbm_rules.specs.Held.{ValidWrite, empties_tables}
use Rattle.bbm_rules.specs.Notes.{Noted, topped}
use Rattle.bbm_rules.specs.PatternSentences.{Cleansed, IsHalf, IsLastValid, Seen}
use Rattle.bbm_rules.specs.Phases.{phase_of}
use Rattle.bbm_rules.specs.Places.{page_of}
use Rattle.bbm_rules.specs.Prelude.{Barrier, Reg, Tag, Heading, Event, Dsb, Dmb, Isb, Tlbi, Msr}
use Rattle.bbm_rules.specs.Reach.{Issued, completes, reaches}
use Rattle.bbm_rules.specs.Sentences.{KeptTag, Open}
use Rattle.bbm_rules.specs.Tags.{itself, takes_tag}
use Rattle.bbm_rules.specs.Tree.{Node, node_of}

-- The PE p wrote a root register, and since then there was no ISB of p.
pub record WroteRegister (p : ℕ) (h : List Event) : Type 0 where
  pub reg : Reg
  pub value : ℕ
  pub newer : List Event
  pub older : List Event
  pub split : h ≡ newer ++ Msr p reg value ∷ older
  pub no_isb : (after before : List Event) → newer ≡ after ++ Isb p ∷ before → ⊥

module _ (heading : Heading) where
  -- A TLBI that covers the place so far takes it further at p: it covers the place in Full, and the place is seen and
  -- not cleansed; it covers it Half, and the place is seen and not half; or it covers it Second, and the place is half
  -- and not cleansed.
  abbrev pub TakesFurther : Cover → ℕ → ℕ → List Noted → Type 0
  TakesFurther Full place p since = Seen heading place p since × (Cleansed heading Patterns place p since → ⊥)
  TakesFurther Half place p since = Seen heading place p since × (IsHalf heading place p since → ⊥)
  TakesFurther Second place p since = IsHalf heading place p since × (Cleansed heading Patterns place p since → ⊥)
  TakesFurther NoCover place p since = ⊥

  -- Needed at p for a place: the place is one of a tree and had a valid write, and by what came since then the TLBI
  -- takes the place further at p; or, from version 5 on, by its top cover it does, with the top cover of each TLBI since
  -- then in the place of its cover.
  pub record NeededForPlace (h : List Noted) (e : Event) (p place : ℕ) : Type 0 where
    pub node : Node
    pub in_tree : node_of heading Patterns h (page_of place) ≡ Some node
    pub write : ValidWrite
    pub last_write : IsLastValid node.kind node.level place h write
    pub further : TakesFurther (cover_at heading Patterns h e place) place p write.since
        ⊎ ((empties_tables heading.version ≡ true)
        × TakesFurther (top_at heading Patterns h e place) place p (map topped write.since))

  -- Needed at p for a tag: the tag is kept at p for a page, whose root holds it or was given up and left it, and the
  -- TLBI takes the whole tag.
  pub record NeededForTag (h : List Event) (e : Event) (p : ℕ) (tag : Tag) : Type 0 where
    pub page : ℕ
    pub kept : KeptTag heading Patterns p page tag h
    pub whole : takes_tag heading e h tag ≡ true

  -- Needed: at a PE that the TLBI reaches, for a place or for a tag. Before it came h.
  pub record Needed (h : List Event) (e : Event) : Type 0 where
    pub p : ℕ
    pub is_pe : p < heading.pes
    pub reached : reaches heading e p ≡ true
    pub for_one : ((place : ℕ) × NeededForPlace (noted heading Patterns h) e p place)
        ⊎ ((tag : Tag) × NeededForTag h e p tag)

  -- The event leaves the phase of every place at every PE.
  abbrev pub KeepsPhases : List Event → Event → Type 0
  KeepsPhases h e = (place p : ℕ) → p < heading.pes
      → phase_of heading Patterns (e ∷ h) place p ≡ phase_of heading Patterns h place p

  -- The DSB of q, after h, answers a TLBI that was needed: one that is open, which it completes.
  pub record AnswersNeeded (q : ℕ) (dsb : Barrier) (h : List Event) : Type 0 where
    pub t : Issued Event
    pub is_open : Open itself q h t
    pub completed : completes dsb t.tlbi ≡ true
    pub needed : Needed t.before t.tlbi

  -- Idle, after h: a DMB; an ISB of a PE that wrote no root register since its last one; a TLBI that isn't needed; a
  -- DSB that keeps every phase and answers no TLBI that was needed.
  abbrev pub IsIdle : List Event → Event → Type 0
  IsIdle h (Dmb pe dsb) = Unit {0}
  IsIdle h (Isb pe) = WroteRegister pe h → ⊥
  IsIdle h (Tlbi pe op xt) = Needed h (Tlbi pe op xt) → ⊥
  IsIdle h (Dsb pe dsb) = KeepsPhases h (Dsb pe dsb) × (AnswersNeeded pe dsb h → ⊥)
  IsIdle h _ = ⊥
