-- Trees, limbo, childless, fresh, mapped, clean and the paths of attached pages once more, as sentences. `law_tree`,
-- `law_limbo`, `law_childless`, `law_fresh`, `law_mapped`, `law_clean` and `law_paths` say that they say the same.
-- Source: Arm ARM (DDI 0487), "VMSAv8-64 translation table walks", of trees; else the project's own choice.
use Rattle.std.specs.Prelude.{◌≡◌, ℕ, suc, ◌<◌, false, true, List, [], ◌∷◌, ◌++◌, Some, None, Contains}
use Rattle.bbm_descriptor.specs.Descriptor.{is_valid}
use Rattle.bbm_rules.specs.Prelude.{Kind, Heading, Init, Null}
use Rattle.bbm_rules.specs.Attach.{End, end_at}
use Rattle.bbm_rules.specs.Claims.{Trust}
use Rattle.bbm_rules.specs.Held.{held}
use Rattle.bbm_rules.specs.Mapped.{is_mapped, maps}
use Rattle.bbm_rules.specs.Notes.{Noted, events_of}
use Rattle.bbm_rules.specs.Pages.{is_fresh}
use Rattle.bbm_rules.specs.Places.{page_of}
use Rattle.bbm_rules.specs.Roots.{Declared, roots_of}
use Rattle.bbm_rules.specs.Tree.{Above, Node, held_at, in_tree, next_of, node_below, nodes_of_root}
use Rattle.bbm_rules.specs.Values.{value_of}

-- Limbo: the present value of a place above is invalid.
pub record InLimbo (h : List Noted) (n : Node) : Type 0 where
  pub above : Above
  pub is_above : Contains n.above above
  pub invalid : is_valid n.kind above.level (value_of (events_of h) above.place) ≡ false

module _ (heading : Heading) (trust : Trust) (h : List Noted) where
  -- Path: the node m lies below n by these places, from n down: each holds a table, and the next is in its next page.
  abbrev pub Down : Node → List ℕ → Node → Type 0
  Down n [] m = n ≡ m
  Down n (place ∷ places) m = (page_of place ≡ n.page) × (value : ℕ) × (held_at heading trust h n place ≡ Some value)
      × (next : ℕ) × (next_of n.kind n.level value ≡ Some next) × Down (node_below n place next) places m

  -- Tree: a node lies on a path of held tables from a page of a declared root, above level 4.
  pub record IsNode (m : Node) : Type 0 where
    pub root : Declared
    pub declared : Contains (roots_of (events_of h)) root
    pub start : Node
    pub is_start : Contains (nodes_of_root heading root) start
    pub places : List ℕ
    pub down : Down start places m
    pub level : m.level < 4

  -- Childless: the value is a table, and no place of its next page holds anything.
  pub record Childless (n : Node) (value : ℕ) : Type 0 where
    pub next : ℕ
    pub table : next_of n.kind n.level value ≡ Some next
    pub holds_none : (place : ℕ) → page_of place ≡ next → held heading trust n.kind (suc n.level) place h ≡ None

  -- Fresh: the page was initialised; since then it was in no tree at any moment, and wasn't declared null.
  pub record IsFresh (page : ℕ) : Type 0 where
    pub pe : ℕ
    pub init : Noted
    pub newer : List Noted
    pub older : List Noted
    pub split : h ≡ newer ++ init ∷ older
    pub made : init.event ≡ Init pe page
    pub in_none : (after moment : List Noted) → newer ≡ after ++ moment
        → in_tree heading trust (moment ++ init ∷ older) page ≡ false
    pub no_null : (q : ℕ) (n : Noted) (after before : List Noted) → newer ≡ after ++ n ∷ before
        → n.event ≡ Null q page → ⊥

  -- Mapped: a place of a page of a tree holds a leaf of stage 2 that maps the page.
  pub record Mapped (page : ℕ) : Type 0 where
    pub node : Node
    pub is_node : IsNode node
    pub place : ℕ
    pub inside : page_of place ≡ node.page
    pub value : ℕ
    pub holds : held_at heading trust h node place ≡ Some value
    pub maps_page : maps node.kind node.level value page ≡ true

  -- Clean: the page was initialised, and was mapped at no moment since, that of the init included.
  pub record Clean (page : ℕ) : Type 0 where
    pub pe : ℕ
    pub init : Noted
    pub newer : List Noted
    pub older : List Noted
    pub split : h ≡ newer ++ init ∷ older
    pub made : init.event ≡ Init pe page
    pub unmapped : (after moment : List Noted) → newer ≡ after ++ moment
        → is_mapped heading trust (moment ++ init ∷ older) page ≡ false

  -- Path of attached pages: it begins in a page that is read at a level, and goes by these places through the table
  -- values of places of fresh pages, level by level; the end is the last next page.
  abbrev pub Leads : Kind → ℕ → ℕ → List ℕ → End → Type 0
  Leads kind level page [] end = end_at level page ≡ end
  Leads kind level page (place ∷ places) end = (is_fresh heading trust h page ≡ true) × (page_of place ≡ page)
      × (next : ℕ) × (next_of kind level (value_of (events_of h) place) ≡ Some next)
      × Leads kind (suc level) next places end
