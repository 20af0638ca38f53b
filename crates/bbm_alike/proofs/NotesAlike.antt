-- In histories that are alike the rules read alike from the notes: the events, the node of each page, and what a place of it
-- holds.
use Rattle.bbm_rules.proofs.Common.{◌≡◌, ℕ, ◌<◌, List, Some, filter, sym, ◌∙◌, ap, Trust, noted, holder_of, Noted}
use Rattle.bbm_rules.proofs.Common.{events_of, is_null, page_of, Heading, Event, Tag, register_values, roots_of, distinct}
use Rattle.bbm_rules.proofs.Common.{ever_read, holds_at, holds_tag, tags_of, Node, held_at, node_of, value_of}
use Rattle.bbm_rules.proofs.Common.{written_places, given_up, left_at}
use Rattle.bbm_rules.specs.RegisterValues.{standings}
use Rattle.bbm_alike.specs.Alike.{Alike, SameRegisters}
use Rattle.bbm_alike.specs.KnownOfHistories.{Known}
use Rattle.bbm_alike.proofs.ListsAlike.{same_filter, same_some_pe}
use Rattle.bbm_alike.proofs.PartsAlike.{same_node}

pub record NotesAlike (heading : Heading) (one other : Trust) (x x' : List Noted) : Type 0 where
  pub values : (place : ℕ) → value_of (events_of x) place ≡ value_of (events_of x') place
  pub places : written_places (events_of x) ≡ written_places (events_of x')
  pub roots : roots_of (events_of x) ≡ roots_of (events_of x')
  pub nulls : (page : ℕ) → is_null (events_of x) page ≡ is_null (events_of x') page
  pub registers : SameRegisters (events_of x) (events_of x')
  pub locks : (lock : ℕ) → holder_of (events_of x) lock ≡ holder_of (events_of x') lock
  pub tags : (root : ℕ) → tags_of heading one root (events_of x) ≡ tags_of heading other root (events_of x')
  pub holds : (p root : ℕ) (tag : Tag) → p < heading.pes
      → holds_at heading one p root tag (events_of x) ≡ holds_at heading other p root tag (events_of x')
  pub left : (p page : ℕ) (tag : Tag) → p < heading.pes
      → left_at heading one p page tag (events_of x) ≡ left_at heading other p page tag (events_of x')
  pub given : given_up (events_of x) ≡ given_up (events_of x')
  pub nodes : (page : ℕ) → node_of heading one x page ≡ node_of heading other x' page
  pub held : (n : Node) (place : ℕ) → node_of heading one x (page_of place) ≡ Some n
      → held_at heading one x n place ≡ held_at heading other x' n place

module _ (heading : Heading) (k : Known heading) (one other : Trust) (h h' : List Event)
    (a : Alike heading one other h h') where
  abbrev marks : List Noted
  marks = noted heading one h

  abbrev marks' : List Noted
  marks' = noted heading other h'

  both : {A : Type 0} (f g : List Event → A) → f h ≡ g h' → f (events_of marks) ≡ g (events_of marks')
  both f g same = ap f (k.notes_keep_the_events one h) ∙ (same ∙ sym (ap g (k.notes_keep_the_events other h')))

  both_alike : {A : Type 0} (f : List Event → A) → f h ≡ f h' → f (events_of marks) ≡ f (events_of marks')
  both_alike f same = both f f same

  tags_alike : (root : ℕ) → tags_of heading one root h ≡ tags_of heading other root h'
  tags_alike root =
      same_filter (λ tag. holds_tag heading one root tag h) (λ tag. holds_tag heading other root tag h')
      (distinct (ever_read heading root h))
      (λ tag. same_some_pe heading.pes (λ p. holds_at heading one p root tag h) (λ p. holds_at heading other p root tag h')
      (λ p below. a.holds p root tag below))
      ∙ ap (λ (ts : List Tag). filter (λ tag. holds_tag heading other root tag h') ts) (a.tags root)

  pub notes_alike : NotesAlike heading one other marks marks'
  notes_alike = record {
    values = λ place. both_alike (λ (es : List Event). value_of es place) (a.values place);
    places = both_alike written_places a.places;
    roots = both_alike roots_of a.roots;
    nulls = λ page. both_alike (λ (es : List Event). is_null es page) (a.nulls page);
    registers = record {
      values = λ p reg. both_alike (λ (es : List Event). register_values es p reg) (a.registers.values p reg);
      standings = λ p. both_alike (λ (es : List Event). standings es p) (a.registers.standings p);
    };
    locks = λ lock. both_alike (λ (es : List Event). holder_of es lock) (a.locks lock);
    tags = λ root. both (λ (es : List Event). tags_of heading one root es) (λ (es : List Event). tags_of heading other root es)
        (tags_alike root);
    holds = λ p root tag under.
        both (λ (es : List Event). holds_at heading one p root tag es) (λ (es : List Event). holds_at heading other p root tag es)
        (a.holds p root tag under);
    left = λ p page tag under.
        both (λ (es : List Event). left_at heading one p page tag es) (λ (es : List Event). left_at heading other p page tag es)
        (a.left p page tag under);
    given = both_alike given_up a.given;
    nodes = same_node heading one other marks marks' a.trees;
    held = λ n place is. let t = (k.tree one).taken marks (page_of place) n is in a.held n place t.0 (sym t.1);
  }
