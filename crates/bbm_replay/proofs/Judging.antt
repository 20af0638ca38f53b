-- Which rule an event breaks, and which limit it reaches, by a view; and what the index answers of pages to attach, in
-- the words of the rules.
use Rattle.bbm_replay.proofs.Common.{broken, Judging, Kind, kind_in_world, Rule, WrongWorld, NoLock, NullWritten}
use Rattle.bbm_replay.proofs.Common.{BreakBeforeMake, LimboMake, NotFresh, RewrittenFresh, BadKind, GlobalUser}
use Rattle.bbm_replay.proofs.Common.{PageInUse, TableMapped, TreeFault, View, notes, Rules, Told, step_fault}
use Rattle.bbm_rules.proofs.Common.{◌≡◌, ℕ, ◌≤◌, Bool, true, false, not, ◌&&◌, ◌||◌, nat_le, List, [], ◌∷◌, Option}
use Rattle.bbm_rules.proofs.Common.{Some, None, Ok, sym, same_Some, and_parts, every}
use Rattle.bbm_rules.proofs.Common.{Err, is_some, filter, refl, ◌∙◌, ap, option_map_or, le-leb, leb-true, Pages, Breach}
use Rattle.bbm_rules.proofs.Common.{Patterns, limit_of, if_so, least, S2, Heading, Event, Init, Null, Root, Write}
use Rattle.bbm_rules.proofs.Common.{root_pages, bad_kind, break_before_make, global_user, limbo_make, no_lock}
use Rattle.bbm_rules.proofs.Common.{not_fresh, null_written, page_in_use, rewritten_fresh, Node, Answers, Which}
use Rattle.bbm_rules.proofs.Common.{not-true, false_from_ne_true}
use Rattle.bbm_rules.specs.Broken.{breaks, first_broken}
use Rattle.bbm_rules.specs.Notes.{Noted}
use Rattle.bbm_rules.specs.Rules.{table_mapped}
use Rattle.bbm_replay_trees.specs.TreeEvents.{earlier_rules, last_rules}
use Rattle.std.specs.Prelude.{◌++◌}
use Rattle.bbm_lemmas.proofs.Bools.{and_apart}
use Rattle.bbm_events.specs.Heading.{nulls_everywhere}
use Rattle.bbm_tree_index.specs.Attaching.{Judges}
use Rattle.bbm_tree_index.specs.declared.fault.TreeFault.TheVariants as tree

-- the rule is the least broken one where it is broken, and else what the others say counts
abbrev pub found : Rule → Option ℕ → Option Breach → Option Breach
found rule o rest = option_map_or (λ at. Some (record { rule = rule; at = at })) o rest

abbrev is_on_tables : Rule → Bool
is_on_tables TableMapped = true
is_on_tables _ = false

kept_step : (rule : Rule) (at other : Option ℕ) (all rest : Option Breach) → is_on_tables rule ≡ false
    → (all ≡ found TableMapped other None → rest ≡ None) → found rule at all ≡ found TableMapped other None
    → found rule at rest ≡ None
kept_step rule None other all rest apart kept is = kept is
kept_step rule (Some at) None all rest apart kept is = cc
kept_step rule (Some at) (Some x) all rest apart kept is =
    let same : rule ≡ TableMapped = ap (λ (b : Breach). b.rule) (same_Some _ _ is) in cc (ap is_on_tables same)

kept_before : (heading : Heading) (h : List Noted) (e : Event) (before : List Rule) (o : Option ℕ)
    → every (λ rule. not (is_on_tables rule)) before ≡ true
    → first_broken heading Patterns h e (before ++ TableMapped ∷ []) ≡ found TableMapped o None
    → first_broken heading Patterns h e before ≡ None
kept_before heading h e [] o apart is = refl
kept_before heading h e (rule ∷ rest) o apart is =
    let both = and_parts (not (is_on_tables rule)) (every (λ r. not (is_on_tables r)) rest) apart in
    kept_step rule (breaks heading Patterns h e rule) o (first_broken heading Patterns h e (rest ++ TableMapped ∷ []))
    (first_broken heading Patterns h e rest) (not-true (is_on_tables rule) both.0)
    (kept_before heading h e rest o both.1) is

-- where no rule but the one on table pages is the first that is broken, those before it are kept
pub earlier_kept : {heading : Heading} → Rules heading → (h : List Event) (e : Event) (o : Option ℕ)
    → every (λ rule. not (is_on_tables rule)) (earlier_rules e) ≡ true → last_rules e ≡ TableMapped ∷ []
    → broken heading Patterns h e ≡ found TableMapped o None
    → first_broken heading Patterns (notes heading h) e (earlier_rules e) ≡ None
earlier_kept {heading} rules h e o apart last is = kept_before heading (notes heading h) e (earlier_rules e) o apart
    (sym (rules.by_kind Patterns h e
    ∙ ap (λ (rs : List Rule). first_broken heading Patterns (notes heading h) e (earlier_rules e ++ rs)) last) ∙ is)

module _ {heading : Heading} (rules : Rules heading) {h : List Event} {v : View} (t : Told heading h v) (pe page : ℕ) where
  pub init_is : broken heading Patterns h (Init pe page)
      ≡ found PageInUse (if_so (is_some (v.node page) || v.null page) page) None
  init_is = rules.by_kind Patterns h (Init pe page)
      ∙ ap (λ o. found PageInUse o None) (rules.on_pages.init h v pe page t.nodes t.null)

  pub init_limit : v.known page ≡ false → 16384 ≤ v.pages → limit_of h (Init pe page) ≡ Some Pages
  init_limit k l = rules.limits.init h pe page v.pages (v.known page) (t.known page) t.pages
      ∙ rw (k, le-leb 16384 v.pages l) refl

  pub init_no_limit : ((v.known page ≡ false) × (16384 ≤ v.pages) → ⊥) → limit_of h (Init pe page) ≡ None
  init_no_limit k = rules.limits.init h pe page v.pages (v.known page) (t.known page) t.pages
      ∙ ap (λ b. if_so b Pages) (and_apart (not (v.known page)) (nat_le 16384 v.pages) (λ new.
      false_from_ne_true (nat_le 16384 v.pages) (λ full. k (not-true (v.known page) new, leb-true 16384 v.pages full))))

  pub null_is : broken heading Patterns h (Null pe page)
      ≡ found WrongWorld (if_so (kind_in_world heading.world S2 && not (nulls_everywhere heading.version)) 0)
      (found PageInUse (page_in_use heading Patterns (notes heading h) (Null pe page)) None)
  null_is = rules.by_kind Patterns h (Null pe page)

  pub root_is : (kind : Kind) (lock : Option ℕ) → broken heading Patterns h (Root pe kind lock page)
      ≡ found WrongWorld (if_so (not (kind_in_world heading.world kind)) 0)
      (found NotFresh (not_fresh heading Patterns (notes heading h) (Root pe kind lock page))
      (found BadKind (bad_kind heading Patterns (notes heading h) (Root pe kind lock page))
      (found GlobalUser (global_user heading Patterns (notes heading h) (Root pe kind lock page))
      (found PageInUse (least (filter (λ p. not (v.fresh p)) (root_pages heading.world kind page)))
      (found TableMapped (table_mapped heading Patterns (notes heading h) (Root pe kind lock page)) None)))))
  root_is kind lock =
      rw (rules.by_kind Patterns h (Root pe kind lock page), rules.on_pages.root h v pe page kind lock t.fresh) refl

pub write_is : {heading : Heading} → Rules heading → (h : List Event) (pe place value : ℕ)
    → broken heading Patterns h (Write pe place value)
    ≡ found NoLock (no_lock heading Patterns (notes heading h) (Write pe place value))
    (found NullWritten (null_written heading Patterns (notes heading h) (Write pe place value))
    (found BreakBeforeMake (break_before_make heading Patterns (notes heading h) (Write pe place value))
    (found LimboMake (limbo_make heading Patterns (notes heading h) (Write pe place value))
    (found NotFresh (not_fresh heading Patterns (notes heading h) (Write pe place value))
    (found RewrittenFresh (rewritten_fresh heading Patterns (notes heading h) (Write pe place value))
    (found BadKind (bad_kind heading Patterns (notes heading h) (Write pe place value))
    (found GlobalUser (global_user heading Patterns (notes heading h) (Write pe place value))
    (found TableMapped (table_mapped heading Patterns (notes heading h) (Write pe place value)) None))))))))
write_is rules h pe place value = rules.by_kind Patterns h (Write pe place value)

-- ---- pages to attach

module _ {fresh : ℕ → Bool} {value : ℕ → ℕ} {starts : List Node} {heading : Heading} {h : List Event} {named : Bool}
    {e : Event} (j : Judging fresh value starts heading h named e) where
  -- the three rules are kept
  pub all_pass : Judges fresh value starts {A = Unit {0}} named (Ok tt)
      → (not_fresh heading Patterns (notes heading h) e ≡ None) × (bad_kind heading Patterns (notes heading h) e ≡ None)
      × (global_user heading Patterns (notes heading h) e ≡ None)
  all_pass k = (j.pages None k.0, j.contiguous None k.1, j.global None k.2)

  -- or one of them is the first that is broken
  pub refused : (rest : Option Breach) (limit : Option Which) → broken heading Patterns h e
      ≡ found NotFresh (not_fresh heading Patterns (notes heading h) e)
      (found BadKind (bad_kind heading Patterns (notes heading h) e)
      (found GlobalUser (global_user heading Patterns (notes heading h) e) rest))
      → (fault : TreeFault) → Judges fresh value starts {A = Unit {0}} named (Err fault)
      → Answers (Err (step_fault fault)) (broken heading Patterns h e) limit
  refused rest limit is tree.NoMemory k = tt
  refused rest limit is (tree.Limit which) k = absurd k
  refused rest limit is (tree.NotFresh at) k = rw (is, j.pages (Some at) k) refl
  refused rest limit is (tree.BadKind at) k = rw (is, j.pages None k.0, j.contiguous (Some at) k.1) refl
  refused rest limit is (tree.GlobalUser at) k =
      rw (is, j.pages None k.0, j.contiguous None k.1, j.global (Some at) k.2) refl
