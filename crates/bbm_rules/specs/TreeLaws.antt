-- What the laws of trees and of attached pages state. Source: project's own choice.
use Rattle.std.specs.Prelude.{◌≡◌, ℕ, ◌+◌, ◌-◌, ◌<◌, ◌≤◌, true, List, [], ◌∷◌, length, Option, Some, None, Contains}
use Rattle.bbm_rules.specs.Prelude.{Event, Heading, Kind, Root, Write, kind_in_world, page_count, start_of}
use Rattle.bbm_rules.specs.Attach.{End, all_ends, attached_by, attached_from, end_at, ends_below, pages_of}
use Rattle.bbm_rules.specs.Claims.{Trust}
use Rattle.bbm_rules.specs.Lists.{among, repeated}
use Rattle.bbm_rules.specs.Mapped.{is_clean, is_mapped}
use Rattle.bbm_rules.specs.Notes.{Noted}
use Rattle.bbm_rules.specs.Pages.{is_fresh}
use Rattle.bbm_rules.specs.PathSentences.{TwoPaths}
use Rattle.bbm_rules.specs.Places.{page_of}
use Rattle.bbm_rules.specs.Roots.{Declared, root_pages}
use Rattle.bbm_rules.specs.Rules.{not_fresh, page_in_use}
use Rattle.bbm_rules.specs.Tree.{Node, held_at, in_limbo, in_tree, is_childless, next_of, node_below, node_of}
use Rattle.bbm_rules.specs.Tree.{nodes_of_root, tree}
use Rattle.bbm_rules.specs.TreeSentences.{Childless, Clean, InLimbo, IsNode, Leads, Mapped}

-- A node is one of the trees exactly where a path of held tables leads to it from a page of a declared root, at a level
-- below 4; and so the page below a place of one that holds a table is in the trees. The node that is taken for a page
-- is one of the trees, and a page that has a node has one that is taken.
pub record TreeBySentence (heading : Heading) (trust : Trust) : Type 0 where
  pub sound : (h : List Noted) (n : Node) → Contains (tree heading trust h) n → IsNode heading trust h n
  pub complete : (h : List Noted) (n : Node) → IsNode heading trust h n → Contains (tree heading trust h) n
  pub below : (h : List Noted) (n : Node) (place value next : ℕ) → Contains (tree heading trust h) n
      → page_of place ≡ n.page → held_at heading trust h n place ≡ Some value → next_of n.kind n.level value ≡ Some next
      → Contains (tree heading trust h) (node_below n place next)
  pub taken : (h : List Noted) (page : ℕ) (n : Node) → node_of heading trust h page ≡ Some n
      → Contains (tree heading trust h) n × (n.page ≡ page)
  pub has : (h : List Noted) (n : Node) → Contains (tree heading trust h) n → in_tree heading trust h n.page ≡ true

-- The places of a node are in limbo exactly where the present value of a place above it is invalid.
pub record LimboBySentence : Type 0 where
  pub sound : (h : List Noted) (n : Node) → in_limbo h n ≡ true → InLimbo h n
  pub complete : (h : List Noted) (n : Node) → InLimbo h n → in_limbo h n ≡ true

-- A value is a childless table exactly where no place of its next page holds anything.
pub record ChildlessBySentence (heading : Heading) (trust : Trust) : Type 0 where
  pub sound : (h : List Noted) (n : Node) (value : ℕ) → is_childless heading trust h n value ≡ true
      → Childless heading trust h n value
  pub complete : (h : List Noted) (n : Node) (value : ℕ) → Childless heading trust h n value
      → is_childless heading trust h n value ≡ true

-- A page is mapped exactly where a place of a page of a tree holds a leaf of stage 2 that maps it.
pub record MappedBySentence (heading : Heading) (trust : Trust) : Type 0 where
  pub sound : (h : List Noted) (page : ℕ) → is_mapped heading trust h page ≡ true → Mapped heading trust h page
  pub complete : (h : List Noted) (page : ℕ) → Mapped heading trust h page → is_mapped heading trust h page ≡ true

-- A page is clean exactly where it was initialised, and was mapped at no moment since.
pub record CleanBySentence (heading : Heading) (trust : Trust) : Type 0 where
  pub sound : (h : List Noted) (page : ℕ) → is_clean heading trust h page ≡ true → Clean heading trust h page
  pub complete : (h : List Noted) (page : ℕ) → Clean heading trust h page → is_clean heading trust h page ≡ true

-- The ends that begin in a page are those to which a path leads: the page itself, and the ends of the paths of at most
-- so many places through fresh pages. So it is with the ends of attached pages, each of which begins in one of them.
pub record PathsBySentence (heading : Heading) (trust : Trust) : Type 0 where
  pub sound : (h : List Noted) (left : ℕ) (kind : Kind) (level page : ℕ) (end : End)
      → Contains (end_at level page ∷ ends_below heading trust h kind left level page) end → (places : List ℕ)
      × (length places ≤ left) × Leads heading trust h kind level page places end
  pub complete : (h : List Noted) (left : ℕ) (kind : Kind) (level page : ℕ) (places : List ℕ) (end : End)
      → length places ≤ left → Leads heading trust h kind level page places end
      → Contains (end_at level page ∷ ends_below heading trust h kind left level page) end
  pub from_attached : (h : List Noted) (kind : Kind) (level : ℕ) (pages : List ℕ) (end : End)
      → Contains (all_ends (attached_from heading trust h kind level pages)) end → (page : ℕ) × Contains pages page
      × (places : List ℕ) × (length places ≤ 3 - level) × Leads heading trust h kind level page places end
  pub to_attached : (h : List Noted) (kind : Kind) (level : ℕ) (pages : List ℕ) (page : ℕ) (places : List ℕ) (end : End)
      → Contains pages page → length places ≤ 3 - level → Leads heading trust h kind level page places end
      → Contains (all_ends (attached_from heading trust h kind level pages)) end

-- A page is repeated among the ends of the paths of an event's attached pages exactly where two different paths end in
-- it.
pub record RepeatedBySentence (heading : Heading) (trust : Trust) : Type 0 where
  pub sound : (h : List Noted) (e : Event) (kind : Kind) (level : ℕ) (pages : List ℕ)
      → attached_by heading trust h e ≡ Some (attached_from heading trust h kind level pages) → (page : ℕ)
      → among page (repeated (pages_of (all_ends (attached_from heading trust h kind level pages)))) ≡ true
      → TwoPaths heading trust h kind level pages page
  pub complete : (h : List Noted) (kind : Kind) (level : ℕ) (pages : List ℕ) (page : ℕ)
      → TwoPaths heading trust h kind level pages page
      → among page (repeated (pages_of (all_ends (attached_from heading trust h kind level pages)))) ≡ true

-- Each page of a root has one node: of the kind of the root, at its start level, with no place above. A root that has
-- pages has its first page, and one of a kind of the world names it.
pub record PagesOfRoots (heading : Heading) : Type 0 where
  pub fields : (r : Declared) (n : Node) → Contains (nodes_of_root heading r) n → (n.kind ≡ r.kind)
      × (n.level ≡ start_of heading.world r.kind) × (n.root ≡ r.page) × (n.above ≡ [])
      × Contains (root_pages heading.world r.kind r.page) n.page
  pub single : (r : Declared) (n m : Node) → Contains (nodes_of_root heading r) n → Contains (nodes_of_root heading r) m
      → n.page ≡ m.page → n ≡ m
  pub first : (r : Declared) (n : Node) → Contains (nodes_of_root heading r) n → (m : Node)
      × Contains (nodes_of_root heading r) m × (m.page ≡ r.page)
  pub each : (r : Declared) (page : ℕ) → Contains (root_pages heading.world r.kind r.page) page → (m : Node)
      × Contains (nodes_of_root heading r) m × (m.page ≡ page)
  pub named : (kind : Kind) (page : ℕ) → kind_in_world heading.world kind ≡ true → 0 < page_count heading.world kind
      → Contains (root_pages heading.world kind page) page

-- Where an event attaches pages and doesn't break the rule on fresh pages, each path of one place at least that begins
-- in an attached page leads to a fresh page; and two paths that lead to one page are the same. A write attaches a fresh
-- page. A `root` that doesn't break the rule on pages in use names fresh pages.
pub record AttachesFresh (heading : Heading) (trust : Trust) : Type 0 where
  pub deeper : (h : List Noted) (e : Event) (kind : Kind) (level : ℕ) (pages : List ℕ)
      → attached_by heading trust h e ≡ Some (attached_from heading trust h kind level pages)
      → not_fresh heading trust h e ≡ None → (page place : ℕ) (places : List ℕ) (end : End) → Contains pages page
      → level + length (place ∷ places) < 4 → Leads heading trust h kind level page (place ∷ places) end
      → is_fresh heading trust h end.page ≡ true
  pub single : (h : List Noted) (e : Event) (kind : Kind) (level : ℕ) (pages : List ℕ)
      → attached_by heading trust h e ≡ Some (attached_from heading trust h kind level pages)
      → not_fresh heading trust h e ≡ None → (page page' : ℕ) (places places' : List ℕ) (end end' : End)
      → Contains pages page → Contains pages page' → level + length places < 4 → level + length places' < 4
      → Leads heading trust h kind level page places end → Leads heading trust h kind level page' places' end'
      → end.page ≡ end'.page → (page ≡ page') × (places ≡ places')
  pub written : (h : List Noted) (pe place value : ℕ) (kind : Kind) (level : ℕ) (pages : List ℕ)
      → attached_by heading trust h (Write pe place value) ≡ Some (attached_from heading trust h kind level pages)
      → not_fresh heading trust h (Write pe place value) ≡ None → (page : ℕ) → Contains pages page
      → is_fresh heading trust h page ≡ true
  pub rooted : (h : List Noted) (pe : ℕ) (kind : Kind) (lock : Option ℕ) (first page : ℕ)
      → page_in_use heading trust h (Root pe kind lock first) ≡ None
      → Contains (root_pages heading.world kind first) page → is_fresh heading trust h page ≡ true
