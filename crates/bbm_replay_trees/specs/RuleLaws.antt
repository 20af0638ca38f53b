-- What the laws of the rules and limits by the kind of event state. A history is newest first.
use Rattle.std.specs.Prelude.{◌≡◌, ℕ, Bool, true, false, not, ◌&&◌, ◌||◌, ◌==◌, ◌%◌, nat_le, List, length, Option, Some}
use Rattle.std.specs.Prelude.{None, Contains, is_some, filter, option_and_then}
use Rattle.bbm_descriptor.specs.Descriptor.{core_of, differ, is_valid}
use Rattle.bbm_regimes.specs.declared.regime.Which.TheVariants.{Pages, Roots, Values}
use Rattle.bbm_rules.specs.Broken.{broken, first_broken}
use Rattle.bbm_rules.specs.Claims.{Trust}
use Rattle.bbm_rules.specs.Claims.Trust.{Patterns}
use Rattle.bbm_rules.specs.Covers.{noted}
use Rattle.bbm_rules.specs.Limits.{limit_of}
use Rattle.bbm_rules.specs.Lists.{among, if_so, least}
use Rattle.bbm_rules.specs.Pages.{initialised}
use Rattle.bbm_rules.specs.Places.{page_of}
use Rattle.bbm_rules.specs.Prelude.{Kind, Reg, Heading, Event, Init, Msr, Null, Root, Unroot, Write}
use Rattle.bbm_rules.specs.RegisterValues.{register_values}
use Rattle.bbm_rules.specs.Roots.{lock_of, root_pages, roots_of}
use Rattle.bbm_rules.specs.Rules.{break_before_make, lacks, limbo_make, no_lock, null_written, page_in_use}
use Rattle.bbm_rules.specs.Rules.{rewritten_fresh}
use Rattle.bbm_rules.specs.Tree.{Node, nodes_of_root}
use Rattle.bbm_replay_trees.specs.Told.{AllFit, SameCores, SameFresh, SameNodes, SameNull, SameValues, View, core_at}
use Rattle.bbm_replay_trees.specs.Told.{is_at, limbo_by, notes}
use Rattle.bbm_replay_trees.specs.TreeEvents.{may_reach_limit, rules_of}

-- The least rule that an event breaks is the first that is broken of the few that its kind can break.
abbrev pub RulesByKind : Heading → Type 0
RulesByKind heading = (trust : Trust) (h : List Event) (e : Event)
    → broken heading trust h e ≡ first_broken heading trust (noted heading trust h) e (rules_of e)

-- The limit that an event reaches, by how many pages were initialised, how many roots are declared, and how many values
-- of the register are readable. Other events reach none.
pub record LimitsByKind : Type 0 where
  pub init : (h : List Event) (pe page pages : ℕ) (known : Bool) → known ≡ among page (initialised h)
      → pages ≡ length (initialised h) → limit_of h (Init pe page) ≡ if_so (not known && nat_le 16384 pages) Pages
  pub root : (h : List Event) (pe page roots : ℕ) (kind : Kind) (lock : Option ℕ) → roots ≡ length (roots_of h)
      → limit_of h (Root pe kind lock page) ≡ if_so (nat_le 1024 roots) Roots
  pub msr : (h : List Event) (pe value readable : ℕ) (reg : Reg) → readable ≡ length (register_values h pe reg)
      → limit_of h (Msr pe reg value) ≡ if_so (nat_le 9 readable) Values
  pub others : (h : List Event) (e : Event) → may_reach_limit e ≡ false → limit_of h e ≡ None

-- What the rules say of a write, but for those on attached pages: at a place of a tree, by the lock that its root
-- names, by the core of what the place holds, and by the values of the places above; at any place, by whether its page
-- is a null page or fresh, and by its value. Of an `unroot` they say by its lock alone whether it is under its lock.
pub record RulesOfWrites (heading : Heading) : Type 0 where
  pub null : (h : List Event) (view : View) (pe place v : ℕ) → SameNull h view.null
      → null_written heading Patterns (notes heading h) (Write pe place v) ≡ if_so (view.null (page_of place)) place
  pub rewritten : (h : List Event) (view : View) (pe place v : ℕ) → SameFresh heading h view.fresh
      → SameValues h view.value → rewritten_fresh heading Patterns (notes heading h) (Write pe place v)
      ≡ if_so (view.fresh (page_of place) && view.value place % 2 == 1 && not (view.value place == v)) place
  pub lock : (h : List Event) (view : View) (n : Node) (pe place v : ℕ) → SameNodes heading h view.node
      → view.node (page_of place) ≡ Some n → no_lock heading Patterns (notes heading h) (Write pe place v)
      ≡ option_and_then (λ lock. if_so (lacks h pe lock) place) (lock_of h n.root)
  pub held : (h : List Event) (view : View) (n : Node) (pe place v : ℕ) → SameNodes heading h view.node
      → SameCores heading h (core_at view) → view.node (page_of place) ≡ Some n
      → break_before_make heading Patterns (notes heading h) (Write pe place v)
      ≡ if_so (differ (core_at view n.kind n.level place) (core_of n.kind n.level v)) place
  pub limbo : (h : List Event) (view : View) (n : Node) (pe place v : ℕ) → SameNodes heading h view.node
      → SameValues h view.value → view.node (page_of place) ≡ Some n
      → limbo_make heading Patterns (notes heading h) (Write pe place v)
      ≡ if_so (is_valid n.kind n.level v && limbo_by view.value n) place
  pub outside : (h : List Event) (view : View) (pe place v : ℕ) → SameNodes heading h view.node
      → view.node (page_of place) ≡ None → (no_lock heading Patterns (notes heading h) (Write pe place v) ≡ None)
      × (break_before_make heading Patterns (notes heading h) (Write pe place v) ≡ None)
      × (limbo_make heading Patterns (notes heading h) (Write pe place v) ≡ None)
  pub unroot : (h : List Event) (pe page : ℕ) → no_lock heading Patterns (notes heading h) (Unroot pe page)
      ≡ option_and_then (λ lock. if_so (lacks h pe lock) page) (lock_of h page)

-- What the rule on pages in use says: of an `init`, by whether the page is in a tree or a null page; of a `root`, by
-- which of its pages aren't fresh; of a `null`, by whether the page is fresh and all its values are 0. So where it
-- isn't broken, the page of an `init` is in no tree and no null page, and the pages of a `root` are fresh.
pub record RulesOnPages (heading : Heading) : Type 0 where
  pub init : (h : List Event) (view : View) (pe page : ℕ) → SameNodes heading h view.node → SameNull h view.null
      → page_in_use heading Patterns (notes heading h) (Init pe page)
      ≡ if_so (is_some (view.node page) || view.null page) page
  pub root : (h : List Event) (view : View) (pe page : ℕ) (kind : Kind) (lock : Option ℕ)
      → SameFresh heading h view.fresh → page_in_use heading Patterns (notes heading h) (Root pe kind lock page)
      ≡ least (filter (λ p. not (view.fresh p)) (root_pages heading.world kind page))
  pub init_free : (h : List Event) (view : View) (pe page : ℕ) → SameNodes heading h view.node → SameNull h view.null
      → page_in_use heading Patterns (notes heading h) (Init pe page) ≡ None
      → (view.node page ≡ None) × (view.null page ≡ false)
  pub root_fresh : (h : List Event) (view : View) (pe page : ℕ) (kind : Kind) (lock : Option ℕ) (n : Node)
      → SameFresh heading h view.fresh → page_in_use heading Patterns (notes heading h) (Root pe kind lock page) ≡ None
      → Contains (nodes_of_root heading (record { page = page; kind = kind; lock = None })) n → view.fresh n.page ≡ true
  pub null_unused : (h : List Event) (view : View) (pe page : ℕ) → AllFit heading h → SameFresh heading h view.fresh
      → SameValues h view.value → view.fresh page ≡ true → ((a : ℕ) → is_at page a ≡ true → view.value a ≡ 0)
      → page_in_use heading Patterns (notes heading h) (Null pe page) ≡ None
  pub null_unfresh : (h : List Event) (view : View) (pe page : ℕ) → SameFresh heading h view.fresh
      → view.fresh page ≡ false → page_in_use heading Patterns (notes heading h) (Null pe page) ≡ Some page
  pub null_used : (h : List Event) (view : View) (pe page a : ℕ) → SameValues h view.value → is_at page a ≡ true
      → (view.value a ≡ 0 → ⊥) → page_in_use heading Patterns (notes heading h) (Null pe page) ≡ Some page
