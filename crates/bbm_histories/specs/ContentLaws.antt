-- What the laws of values, and of what places hold, state. A history is newest first. Source: project's own choice.
use Rattle.std.specs.Prelude.{◌≡◌, ◌≢◌, ◌↔◌, ◌⊎◌, ℕ, ◌<◌, true, false, not, ◌&&◌, if◌then◌else◌, List, ◌∷◌, ◌++◌}
use Rattle.std.specs.Prelude.{Some, None, Contains}
use Rattle.bbm_descriptor.specs.Descriptor.{is_valid}
use Rattle.bbm_rules.specs.Prelude.{Event, Heading, Kind}
use Rattle.bbm_rules.specs.Broken.{breaks, keeps}
use Rattle.bbm_rules.specs.Claims.{Trust}
use Rattle.bbm_rules.specs.Cleansing.{seen}
use Rattle.bbm_rules.specs.Covers.{note, noted}
use Rattle.bbm_rules.specs.Held.{empties_tables, ValidWrite, held, last_valid}
use Rattle.bbm_rules.specs.Mapped.{initialises, is_clean, is_mapped, maps}
use Rattle.bbm_rules.specs.Notes.{Noted, events_of}
use Rattle.bbm_rules.specs.Pages.{is_fresh}
use Rattle.bbm_rules.specs.PatternSentences.{Answer, EmptyAbove, Publication}
use Rattle.bbm_rules.specs.Phases.{broken_phase, phase_of}
use Rattle.bbm_rules.specs.Places.{page_of}
use Rattle.bbm_rules.specs.Reach.{Issued}
use Rattle.bbm_rules.specs.Rules.{made_tables, puts_over, table_mapped, writes_over}
use Rattle.bbm_rules.specs.Tree.{Node, held_at, in_tree, node_of, tree}
use Rattle.bbm_rules.specs.Values.{is_readable, published, value_of}
use Rattle.bbm_rules.specs.declared.phase.Phase.TheVariants.{Clean, Live}
use Rattle.bbm_rules.specs.declared.rule.Rule.{Rule}
use Rattle.bbm_rules.specs.declared.rule.Rule.TheVariants.{TableMapped}
use Rattle.bbm_histories.specs.HistorySteps.{held_after}
use Rattle.bbm_histories.specs.TreeChanges.{Attaches, HeldBy, HeldChange, NoGlobalLeaf, Proper, StaysChildless, View}
use Rattle.bbm_histories.specs.ValueChanges.{FreshContent, HoldsPresent, MakesReadable, NoInit, OddStays, Window}

-- In every history: one that keeps the rules kept them before; what is published stays published, and by the same DSB;
-- a TLBI that is answered stays answered by the same DSB; what a TLBI covers is fixed at its issue; and a value that
-- isn't readable stays so until an event makes it readable again.
pub record NothingGoesBack (heading : Heading) (trust : Trust) : Type 0 where
  pub kept : (newer older : List Event) → keeps heading trust (newer ++ older) ≡ true → keeps heading trust older ≡ true
  pub published : (q p : ℕ) (newer later : List Event) → published heading q p later ≡ true
      → published heading q p (newer ++ later) ≡ true
  pub publication : (place p : ℕ) (newer since : List Noted) (b : Noted) → Publication heading place p since b
      → Publication heading place p (newer ++ since) b
  pub answered : (newer since : List Noted) (t : Issued Noted) (d : Noted) → Answer since t d
      → Answer (newer ++ since) t d
  pub covered : (newer older : List Event) (e : Event) → (marks : List Noted)
      × (noted heading trust (newer ++ e ∷ older) ≡ marks ++ note heading trust
      (noted heading trust older) e ∷ noted heading trust older) × (events_of marks ≡ newer)
  pub unreadable : (e : Event) (h : List Event) (place p value : ℕ) → is_readable heading (e ∷ h) place p value ≡ true
      → (MakesReadable place value e → ⊥) → is_readable heading h place p value ≡ true

-- In a fresh page of a history that keeps the rules, a value with bit 0 set stays from its write until the next init of
-- the page. So the last valid value of a place, at whatever kind and level it is read, is the present one, and no PE
-- has seen a write after it; and so it is in a page when an event attaches it.
pub record FreshStays (heading : Heading) (trust : Trust) : Type 0 where
  pub odd_stays : (h : List Event) → keeps heading trust h ≡ true → OddStays heading trust (noted heading trust h)
  pub content : (h : List Event) → keeps heading trust h ≡ true → FreshContent heading trust (noted heading trust h)
  pub attached : (h : List Event) (e : Event) → 0 < heading.pes → keeps heading trust (e ∷ h) ≡ true
      → (n : Node) (place : ℕ) → Attaches heading trust (noted heading trust h) e n → page_of place ≡ n.page
      → HoldsPresent heading trust (noted heading trust (e ∷ h)) n place

-- What a place holds after an event, by what it held before: a valid write makes it hold the value, an init of its page
-- nothing; a DSB leaves it the last valid value unless the place is then cleansed at every PE; any other event leaves
-- it as it was.
abbrev pub HeldAfter : Heading → Trust → Type 0
HeldAfter heading trust = (kind : Kind) (level place : ℕ) (n : Noted) (h : List Noted) → 0 < heading.pes
    → held heading trust kind level place (n ∷ h) ≡ held_after heading trust kind level place n.event n h

-- In a history that keeps the rules, what a place of a tree holds changes by a valid write of it, from nothing or from
-- a value of the same core; by a DSB, to nothing; and by nothing else while its page stays in the tree. A page that
-- comes into a tree holds the present values that are valid.
pub record HeldChanges (heading : Heading) (trust : Trust) : Type 0 where
  pub changes : (h : List Event) (e : Event) → 0 < heading.pes → keeps heading trust (e ∷ h) ≡ true
      → (n : Node) (place : ℕ) → Contains (tree heading trust (noted heading trust h)) n → page_of place ≡ n.page
      → HeldChange n.kind n.level place e (held_at heading trust (noted heading trust h) n place)
      (held_at heading trust (noted heading trust (e ∷ h)) n place)
  pub attached : (h : List Event) → keeps heading trust h ≡ true → (kind : Kind) (level place value : ℕ)
      → is_fresh heading trust (noted heading trust h) (page_of place) ≡ true
      → held heading trust kind level place (noted heading trust h) ≡ Some value → value_of h place ≡ value
  pub unheld : (kind : Kind) (level place : ℕ) (h : List Event) → 0 < heading.pes
      → held heading trust kind level place (noted heading trust h) ≡ None
      → is_valid kind level (value_of h place) ≡ false

-- In a history that keeps the rules, a value that is readable at a PE at a place of a tree, and valid at its level, has
-- the core of what the place holds, and the place isn't seen at the PE.
abbrev pub WindowAtReads : Heading → Trust → Type 0
WindowAtReads heading trust = (h : List Event) → keeps heading trust h ≡ true → (n : Node) (place p value : ℕ)
    → p < heading.pes → Contains (tree heading trust (noted heading trust h)) n → page_of place ≡ n.page
    → is_readable heading h place p value ≡ true → is_valid n.kind n.level value ≡ true
    → Window heading trust (noted heading trust h) n place p value

-- In a history that keeps the rules, before an event that came after the last valid write of a place of a tree, and
-- after a PE had seen the place, the place was at the same node and held the same value.
abbrev pub FrozenView : Heading → Trust → Type 0
FrozenView heading trust = (h : List Event) → keeps heading trust h ≡ true
    → (n : Node) (place value p : ℕ) (w : ValidWrite) (newer before : List Noted) (t : Noted)
    → HeldBy heading trust (noted heading trust h) n place value w → w.since ≡ newer ++ t ∷ before
    → seen heading place p before ≡ true → View heading trust (noted heading trust h) n place value newer before t

-- In a history that keeps the rules, where the table that a place of a tree holds was childless before an event that
-- came after the last valid write of the place, and after a PE had seen the place, it is childless still.
abbrev pub LimboIsEmpty : Heading → Trust → Type 0
LimboIsEmpty heading trust = (h : List Event) → keeps heading trust h ≡ true
    → (n : Node) (place value p : ℕ) (w : ValidWrite) (newer before older : List Noted) (t : Noted)
    → HeldBy heading trust (noted heading trust h) n place value w → w.since ≡ newer ++ t ∷ before
    → noted heading trust h ≡ newer ++ t ∷ older → seen heading place p before ≡ true
    → StaysChildless heading trust (noted heading trust h) n value older

-- In a history that keeps the rules, a place of a tree that holds something isn't both above at every PE and a table below
-- which nothing is held. So a place is emptied exactly where it was so at some moment since its last valid write: the
-- first such moment is that of a DSB.
abbrev pub EmptiedAtOnce : Heading → Trust → Type 0
EmptiedAtOnce heading trust = (h : List Event) → empties_tables heading.version ≡ true → 0 < heading.pes
    → keeps heading trust h ≡ true → (n : Node) (place value : ℕ)
    → Contains (tree heading trust (noted heading trust h)) n → page_of place ≡ n.page
    → held_at heading trust (noted heading trust h) n place ≡ Some value
    → EmptyAbove heading trust n.kind n.level place (noted heading trust h) → ⊥

-- In a history that keeps the rules, no place of a tree of the lower range holds a leaf for every ASID.
abbrev pub LowerLeaves : Heading → Trust → Type 0
LowerLeaves heading trust = (h : List Event) → keeps heading trust h ≡ true
    → NoGlobalLeaf heading trust (noted heading trust h)

-- In a history that keeps the rules under `isolated` each page of a tree is clean. A clean page was clean at each
-- moment since its last init. And an event that breaks no other rule breaks the one on table pages exactly where after
-- it some page of a tree isn't clean.
pub record TablesAreClean (heading : Heading) (trust : Trust) : Type 0 where
  pub clean : (h : List Event) → heading.words.isolated ≡ true → keeps heading trust h ≡ true → (page : ℕ)
      → in_tree heading trust (noted heading trust h) page ≡ true
      → is_clean heading trust (noted heading trust h) page ≡ true
  pub since : (newer older : List Event) (page : ℕ) → NoInit page newer
      → is_clean heading trust (noted heading trust (newer ++ older)) page ≡ true
      → is_clean heading trust (noted heading trust older) page ≡ true
  pub judged : (h : List Event) (e : Event) → heading.words.isolated ≡ true → Proper heading
      → keeps heading trust h ≡ true
      → ((rule : Rule) → rule ≢ TableMapped → breaks heading trust (noted heading trust h) e rule ≡ None)
      → (table_mapped heading trust (noted heading trust h) e ≡ None)
      ↔ ((page : ℕ) → in_tree heading trust (noted heading trust (e ∷ h)) page ≡ true
      → is_clean heading trust (noted heading trust (e ∷ h)) page ≡ true)

-- Which pages are mapped and clean after an event that breaks no rule. A page that isn't mapped is mapped after it only
-- where the event puts a leaf over it. A page of which the event is no init is clean after it exactly where it was clean
-- before, and the event puts no leaf over it.
pub record MappedAfter (heading : Heading) (trust : Trust) : Type 0 where
  pub unmapped : (h : List Event) (e : Event) → keeps heading trust (e ∷ h) ≡ true → (page : ℕ)
      → is_mapped heading trust (noted heading trust h) page ≡ false
      → puts_over heading trust (noted heading trust h) e page ≡ false
      → is_mapped heading trust (noted heading trust (e ∷ h)) page ≡ false
  pub clean : (h : List Event) (e : Event) → Proper heading → keeps heading trust (e ∷ h) ≡ true → (page : ℕ)
      → initialises page e ≡ false → is_clean heading trust (noted heading trust (e ∷ h)) page
      ≡ (is_clean heading trust (noted heading trust h) page
      && not (puts_over heading trust (noted heading trust h) e page))

-- What an event attaches, after a history that keeps the rules, where it breaks none but perhaps the one on table pages. The
-- pages that it makes table pages are those of the nodes that it attaches. It puts a leaf over a page exactly where it
-- writes one, or a place of such a node has one.
pub record AttachedTables (heading : Heading) (trust : Trust) : Type 0 where
  pub made : (h : List Event) (e : Event) → Proper heading → keeps heading trust h ≡ true
      → ((rule : Rule) → rule ≢ TableMapped → breaks heading trust (noted heading trust h) e rule ≡ None) → (page : ℕ)
      → Contains (made_tables heading trust (noted heading trust h) e) page
      ↔ ((m : Node) × Attaches heading trust (noted heading trust h) e m × (m.page ≡ page))
  pub puts : (h : List Event) (e : Event) → Proper heading → keeps heading trust h ≡ true
      → ((rule : Rule) → rule ≢ TableMapped → breaks heading trust (noted heading trust h) e rule ≡ None) → (page : ℕ)
      → (puts_over heading trust (noted heading trust h) e page ≡ true)
      ↔ ((writes_over heading trust (noted heading trust h) e page ≡ true)
      ⊎ ((m : Node) × Attaches heading trust (noted heading trust h) e m × (place : ℕ) × (page_of place ≡ m.page)
      × (maps m.kind m.level (value_of h place) page ≡ true)))

-- The phase of a place at a PE, in every history: clean where its page is in no tree, and where it holds nothing; and
-- where it holds something, live where its value is valid, and else by what is cleansed, half and seen since its last
-- valid write.
pub record PhaseByParts (heading : Heading) (trust : Trust) : Type 0 where
  pub outside : (h : List Event) (place p : ℕ) → node_of heading trust (noted heading trust h) (page_of place) ≡ None
      → phase_of heading trust h place p ≡ Clean
  pub empty : (h : List Event) (place p : ℕ) (n : Node) → node_of heading trust (noted heading trust h) (page_of place)
      ≡ Some n → held_at heading trust (noted heading trust h) n place ≡ None → phase_of heading trust h place p ≡ Clean
  pub holding : (h : List Event) (place p value : ℕ) (n : Node) (w : ValidWrite)
      → node_of heading trust (noted heading trust h) (page_of place) ≡ Some n
      → held_at heading trust (noted heading trust h) n place ≡ Some value
      → last_valid n.kind n.level place (noted heading trust h) ≡ Some w
      → phase_of heading trust h place p
      ≡ (if is_valid n.kind n.level (value_of h place) then Live else broken_phase heading trust place p w.since)
