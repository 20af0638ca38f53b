-- Which events break no rule.
use Rattle.bbm_rules.proofs.Common.{◌≡◌, ℕ, Bool, true, false, List, [], ◌∷◌, Option, Some, None, option_and_then}
use Rattle.bbm_rules.proofs.Common.{is_none, refl, ap, ◌∙◌, if◌then◌else◌, option_map_or, result_ok, Kind, desc_of}
use Rattle.bbm_rules.proofs.Common.{differ, needs, Core, scope_of, of_world, Barrier, Event, Write, Dsb, Dmb, Isb, Tlbi}
use Rattle.bbm_rules.proofs.Common.{attached_by, attached_from, Breach, breaks, first_broken, if_so, Noted, events_of}
use Rattle.bbm_rules.proofs.Common.{is_fresh, is_null, page_of, lacks_vmid, lock_of, is_contiguous, Node, held_at}
use Rattle.bbm_rules.proofs.Common.{next_of, node_of, and-false}
use Rattle.bbm_regimes.specs.declared.regime.Kind.TheVariants.{Ttbr0}
use Rattle.bbm_tlbi_scope.specs.declared.op.TlbiOp.{TlbiOp}
use Rattle.bbm_tlbi_scope.specs.declared.scope.Scope.{Scope}
use Rattle.bbm_rules.specs.Prelude.{same_kind}
use Rattle.bbm_rules.specs.declared.rule.Rule.{Rule}
use Rattle.bbm_rules.specs.declared.rule.Rule.TheVariants.{WrongWorld, NoLock, NullWritten, BreakBeforeMake, LimboMake}
use Rattle.bbm_rules.specs.declared.rule.Rule.TheVariants.{NotFresh, RewrittenFresh, BadKind, GlobalUser, PageInUse}
use Rattle.bbm_rules.specs.declared.rule.Rule.TheVariants.{NoRoot, TagConflict, RootInUse, UnsyncedVmid, BadOperand}
use Rattle.bbm_rules.specs.declared.rule.Rule.TheVariants.{LockBusy, LockNotMine, TableMapped}
use Rattle.bbm_rules.specs.Broken.{broken, rules}
use Rattle.bbm_rules.specs.Claims.{Patterns}
use Rattle.bbm_gen.specs.Generated.{heading}
use Rattle.bbm_gen.specs.BelowGen.{notes}

abbrev pub Free : List Noted → Event → Type 0
Free h e = (r : Rule) → breaks heading Patterns h e r ≡ None

abbrev breach : Rule → ℕ → Breach
breach r at = record { rule = r; at = at }

none_of_them : (h : List Noted) (e : Event) → Free h e → (rs : List Rule) → first_broken heading Patterns h e rs ≡ None
none_of_them h e free [] = refl
none_of_them h e free (rule ∷ rs) =
    ap (λ (o : Option ℕ). option_map_or (λ at. Some (breach rule at)) o (first_broken heading Patterns h e rs)) (free rule)
    ∙ none_of_them h e free rs

pub unbroken : (h : List Event) (e : Event) → Free (notes h) e → broken heading Patterns h e ≡ None
unfolding broken
unbroken h e free = none_of_them (notes h) e free rules

pub dsb_unbroken : (h : List Event) (p : ℕ) (dsb : Barrier) → broken heading Patterns h (Dsb p dsb) ≡ None
unfolding broken
dsb_unbroken h p dsb = refl

pub dmb_unbroken : (h : List Event) (p : ℕ) (dsb : Barrier) → broken heading Patterns h (Dmb p dsb) ≡ None
unfolding broken
dmb_unbroken h p dsb = refl

pub isb_unbroken : (h : List Event) (p : ℕ) → broken heading Patterns h (Isb p) ≡ None
unfolding broken
isb_unbroken h p = refl

pub tlbi_free : (h : List Noted) (p xt : ℕ) (op : TlbiOp) (scope : Scope) → of_world heading.world op ≡ true
    → lacks_vmid heading (events_of h) p op ≡ false → result_ok (scope_of op xt) ≡ Some scope → Free h (Tlbi p op xt)
tlbi_free h p xt op scope world vmid decoded WrongWorld = rw world refl
tlbi_free h p xt op scope world vmid decoded NoLock = refl
tlbi_free h p xt op scope world vmid decoded NullWritten = refl
tlbi_free h p xt op scope world vmid decoded BreakBeforeMake = refl
tlbi_free h p xt op scope world vmid decoded LimboMake = refl
tlbi_free h p xt op scope world vmid decoded NotFresh = refl
tlbi_free h p xt op scope world vmid decoded RewrittenFresh = refl
tlbi_free h p xt op scope world vmid decoded BadKind = refl
tlbi_free h p xt op scope world vmid decoded GlobalUser = refl
tlbi_free h p xt op scope world vmid decoded PageInUse = refl
tlbi_free h p xt op scope world vmid decoded NoRoot = refl
tlbi_free h p xt op scope world vmid decoded TagConflict = refl
tlbi_free h p xt op scope world vmid decoded RootInUse = refl
tlbi_free h p xt op scope world vmid decoded UnsyncedVmid = rw vmid refl
tlbi_free h p xt op scope world vmid decoded BadOperand = rw decoded refl
tlbi_free h p xt op scope world vmid decoded LockBusy = refl
tlbi_free h p xt op scope world vmid decoded LockNotMine = refl
tlbi_free h p xt op scope world vmid decoded TableMapped = refl

-- ---- writes at a root

abbrev pub root_node : Kind → ℕ → Node
root_node kind root = record { page = root; kind = kind; level = 1; root = root; base = 0; above = [] }

pub no_core : (c : Option Core) → differ c None ≡ false
no_core None = refl
no_core (Some c) = refl

-- What is known of a write at a place of a root: its page is in the tree under no lock, and isn't null or fresh; the
-- value is no table and has no Contiguous hint; and where the place holds a value, it needs no break.
pub record Plain (h : List Noted) (kind : Kind) (root place value : ℕ) : Type 0 where
  pub node : node_of heading Patterns h (page_of place) ≡ Some (root_node kind root)
  pub lock : lock_of (events_of h) root ≡ None
  pub null : is_null (events_of h) (page_of place) ≡ false
  pub old : is_fresh heading Patterns h (page_of place) ≡ false
  pub lower : same_kind kind Ttbr0 ≡ false
  pub leaf : next_of kind 1 value ≡ None
  pub alone : is_contiguous kind (desc_of kind 1 value) ≡ false
  pub core : (before : ℕ) → held_at heading Patterns h (root_node kind root) place ≡ Some before
      → needs kind 1 before value ≡ false

module _ (h : List Noted) (kind : Kind) (root pe place value : ℕ) (k : Plain h kind root place value) where
  attaches : attached_by heading Patterns h (Write pe place value) ≡ None
  attaches = rw k.node (by (is_none (held_at heading Patterns h (root_node kind root) place)))
    where
      by : (b : Bool) → option_and_then (λ next. Some (attached_from heading Patterns h kind 2 (next ∷ [])))
          (if b then next_of kind 1 value else None) ≡ None
      by true = rw k.leaf refl
      by false = refl

  core_kept : (o : Option ℕ) → held_at heading Patterns h (root_node kind root) place ≡ o
      → option_and_then (λ before. if_so (needs kind 1 before value) place) o ≡ None
  core_kept None e = refl
  core_kept (Some before) e = rw (k.core before e) refl

  pub write_free : Free h (Write pe place value)
  write_free WrongWorld = refl
  write_free NoLock = rw (k.node, k.lock) refl
  write_free NullWritten = rw k.null refl
  write_free BreakBeforeMake = rw k.node (core_kept (held_at heading Patterns h (root_node kind root) place) refl)
  write_free LimboMake = rw (k.node, and-false) refl
  write_free NotFresh = rw (attaches, k.node) refl
  write_free RewrittenFresh = rw k.old refl
  write_free BadKind = rw (attaches, k.node, k.alone) refl
  write_free GlobalUser = rw (attaches, k.node, k.lower) refl
  write_free PageInUse = refl
  write_free NoRoot = refl
  write_free TagConflict = refl
  write_free RootInUse = refl
  write_free UnsyncedVmid = refl
  write_free BadOperand = refl
  write_free LockBusy = refl
  write_free LockNotMine = refl
  write_free TableMapped = refl
