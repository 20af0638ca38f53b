-- What the laws of the rules, and of the annotated history, state. Source: project's own choice.
use Rattle.std.specs.Prelude.{◌≡◌, ℕ, suc, ◌+◌, ◌<◌, true, false, List, ◌∷◌, ◌++◌, length, Some, None, Contains}
use Rattle.bbm_descriptor.specs.Descriptor.{desc_of}
use Rattle.bbm_rules.specs.Prelude.{Event, Heading, Ttbr0, Write}
use Rattle.bbm_rules.specs.Attach.{End, attached_by, attached_from}
use Rattle.bbm_rules.specs.Broken.{breaks, keeps}
use Rattle.bbm_rules.specs.Claims.{Trust}
use Rattle.bbm_rules.specs.Covers.{cover_at, top_at, is_global, noted}
use Rattle.bbm_rules.specs.Mapped.{is_clean, table_pages}
use Rattle.bbm_rules.specs.Notes.{Noted, events_of}
use Rattle.bbm_rules.specs.Places.{page_of}
use Rattle.bbm_rules.specs.Rules.{global_user, made_tables, puts_over, table_mapped}
use Rattle.bbm_rules.specs.Tree.{Node, node_of}
use Rattle.bbm_rules.specs.TreeSentences.{Leads}
use Rattle.bbm_rules.specs.Values.{value_of}
use Rattle.bbm_rules.specs.declared.rule.Rule.{Rule}

-- A log keeps the rules exactly where each event breaks none of the eighteen rules, each asked by itself, after the
-- events before it.
pub record EachRule (heading : Heading) (trust : Trust) : Type 0 where
  pub sound : (h newer older : List Event) (e : Event) → keeps heading trust h ≡ true → h ≡ newer ++ e ∷ older
      → (rule : Rule) → breaks heading trust (noted heading trust older) e rule ≡ None
  pub complete : (h : List Event)
      → ((newer older : List Event) (e : Event) → h ≡ newer ++ e ∷ older → (rule : Rule)
      → breaks heading trust (noted heading trust older) e rule ≡ None) → keeps heading trust h ≡ true

-- An event that doesn't break the rule on leaves of the lower range writes no leaf for every ASID at a place of a tree
-- of that range, and attaches no page with one.
pub record NoGlobalUser (heading : Heading) (trust : Trust) : Type 0 where
  pub written : (h : List Noted) (pe place value : ℕ) (n : Node)
      → global_user heading trust h (Write pe place value) ≡ None → node_of heading trust h (page_of place) ≡ Some n
      → n.kind ≡ Ttbr0 → is_global (desc_of n.kind n.level value) ≡ false
  pub attached : (h : List Noted) (e : Event) (level : ℕ) (pages : List ℕ)
      → attached_by heading trust h e ≡ Some (attached_from heading trust h Ttbr0 level pages)
      → global_user heading trust h e ≡ None → (page place : ℕ) (places : List ℕ) (end : End) → Contains pages page
      → level + length places < 4 → Leads heading trust h Ttbr0 level page places end → page_of place ≡ end.page
      → is_global (desc_of Ttbr0 end.level (value_of (events_of h) place)) ≡ false

-- The event puts no leaf over a table page, nor over one that it makes so; and each page that it makes so is clean.
pub record KeepsTables (heading : Heading) (trust : Trust) (h : List Noted) (e : Event) : Type 0 where
  pub unmapped : (page : ℕ) → Contains (table_pages heading trust h ++ made_tables heading trust h e) page
      → puts_over heading trust h e page ≡ false
  pub clean : (page : ℕ) → Contains (made_tables heading trust h e) page → is_clean heading trust h page ≡ true

-- Where the header has `isolated`, an event doesn't break the rule on table pages exactly where it keeps them.
pub record NoTableMapped (heading : Heading) (trust : Trust) : Type 0 where
  pub sound : (h : List Noted) (e : Event) → heading.words.isolated ≡ true → table_mapped heading trust h e ≡ None
      → KeepsTables heading trust h e
  pub complete : (h : List Noted) (e : Event) → KeepsTables heading trust h e → table_mapped heading trust h e ≡ None

-- The annotated history of a history ends in that of its older part. Each event in it stands with what it covered by
-- the notes before it, and with its position, which counts the events before it and itself.
pub record NotesOfOlder (heading : Heading) (trust : Trust) : Type 0 where
  pub ends_in_older : (newer older : List Event) → (marks : List Noted)
      × (noted heading trust (newer ++ older) ≡ marks ++ noted heading trust older) × (events_of marks ≡ newer)
  pub each : (h : List Event) (newer older : List Noted) (n : Noted) → noted heading trust h ≡ newer ++ n ∷ older
      → (older ≡ noted heading trust (events_of older)) × (n.covers ≡ cover_at heading trust older n.event)
      × (n.position ≡ suc (length older))
  pub tops : (h : List Event) (newer older : List Noted) (n : Noted) → noted heading trust h ≡ newer ++ n ∷ older
      → n.tops ≡ top_at heading trust older n.event

-- The annotated history is the history: with each event its notes, and no other event.
abbrev pub NotesKeepEvents : Heading → Trust → Type 0
NotesKeepEvents heading trust = (h : List Event) → events_of (noted heading trust h) ≡ h
