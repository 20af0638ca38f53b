-- Childless tables, and the number of restless places.
use Rattle.bbm_rules.proofs.Common.{◌≡◌, ℕ, suc, true, List, Option, Some, None, is_some, option_and_then, refl, sym}
use Rattle.bbm_rules.proofs.Common.{◌∙◌, ap, subst, true≢false, Kind, core_of, desc_of, Core, Event, keeps, Patterns}
use Rattle.bbm_rules.proofs.Common.{held, page_of, Node, held_at, is_childless, next_of, node_below, node_of}
use Rattle.bbm_rules.proofs.Common.{written_places, In, false_from_ne_true}
use Rattle.bbm_events.specs.Heading.{Heading}
use Rattle.bbm_replay_trees.specs.BelowTrees.{Below}
use Rattle.bbm_replay_trees.specs.Told.{AllFit, Childless, SameCores, SameNodes, is_at, next_in, notes}
use Rattle.bbm_replay_trees.proofs.AttachLemmas.{core_some}
use Rattle.bbm_tree_index.proofs.Places.{at_page}
use Rattle.bbm_replay_trees.proofs.FitLemmas.{is_at_page}
use Rattle.bbm_lemmas.proofs.Words.{none_is, some_is}
use Rattle.bbm_replay_trees.proofs.HangLemmas.{down, table_core}
use Rattle.bbm_rules.proofs.HeldLemmas.{held_is_written}

-- ---- childless

module _ (heading : Heading) (b : Below heading) (h : List Event) (kept_rules : keeps heading Patterns h ≡ true)
    (fit : AllFit heading h) (node : ℕ → Option Node) (core : Kind → ℕ → ℕ → Option Core) (same : SameNodes heading h node)
    (same_core : SameCores heading h core) (n : Node) (place value : ℕ) (is : node (page_of place) ≡ Some n)
    (holds : held_at heading Patterns (notes heading h) n place ≡ Some value) where
  at : node_of heading Patterns (notes heading h) (page_of place) ≡ Some n
  at = sym (same (page_of place)) ∙ is

  core_is : core n.kind n.level place ≡ core_of n.kind n.level value
  core_is = same_core n place at ∙ ap (option_and_then (core_of n.kind n.level)) holds

  -- the core of a place of the next page
  core_below : (next a : ℕ) → next_in (core n.kind n.level place) ≡ Some next → page_of a ≡ next
      → core n.kind (suc n.level) a ≡ option_and_then (core_of n.kind (suc n.level)) (held heading Patterns n.kind (suc n.level) a (notes heading h))
  core_below next a table inside =
      same_core (node_below n place next) a
      (ap (node_of heading Patterns (notes heading h)) inside
      ∙ (sym (same next) ∙ down heading b h node same core same_core kept_rules n place next is table))

  pub childless_from : is_childless heading Patterns (notes heading h) n value ≡ true → Childless core n place
  childless_from k = by (next_of n.kind n.level value) refl
    where
      by : (o : Option ℕ) → next_of n.kind n.level value ≡ o → Childless core n place
      by None e = absurd (true≢false (sym k ∙ b.childless_step.no_table (notes heading h) n value e))
      by (Some next) e =
          let table : next_in (core n.kind n.level place) ≡ Some next
          = ap next_in core_is ∙ (table_core (desc_of n.kind n.level value) ∙ e) in
          record {
            next = next;
            table = table;
            holds_none = λ a inside. ap is_some (core_below next a table (at_page next a inside)
                ∙ ap (option_and_then (core_of n.kind (suc n.level)))
                ((b.childless_step.table (notes heading h) n value next e).0 k a (at_page next a inside)));
          }

  pub childless_to : Childless core n place → is_childless heading Patterns (notes heading h) n value ≡ true
  childless_to c =
      let table : next_of n.kind n.level value ≡ Some c.next
      = sym (table_core (desc_of n.kind n.level value)) ∙ (ap next_in (sym core_is) ∙ c.table) in
      (b.childless_step.table (notes heading h) n value c.next table).1
      (λ a inside. none_is (held heading Patterns n.kind (suc n.level) a (notes heading h)) (false_from_ne_true _ (λ some.
      let v = some_is (held heading Patterns n.kind (suc n.level) a (notes heading h)) some in
      let at_next : is_at c.next a ≡ true = is_at_page heading h fit c.next a
      (subst (λ es. In (written_places es) a) (b.notes_keep_the_events h)
      (held_is_written heading Patterns a n.kind (suc n.level) (notes heading h) v.0 v.1)) inside in
      true≢false (sym some ∙ (sym (core_some heading b h (node_below n place c.next) a)
      ∙ (ap is_some (sym (core_below c.next a c.table inside)) ∙ c.holds_none a at_next))))))
