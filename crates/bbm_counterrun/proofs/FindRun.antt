-- What a search over the events before a write finds is what the definitions ask for.
use Rattle.bbm_counterrun.proofs.Common.{notes, StandsFor, Patterns, Kind, Step, IsLog, HasLeastReads}
use Rattle.bbm_counterrun.proofs.Common.{PlansHaveLeastReads, IsPlain, Plan, run_of, ends_at_leaf, holds_leaf}
use Rattle.bbm_counterrun.proofs.Common.{plan_found, PlainIsTested, Goal, way_among, way_to}
use Rattle.bbm_rules.proofs.Common.{◌≡◌, ℕ, ◌+◌, ◌-◌, ◌≤◌, arith, length, get_or, take, false, true, true≢false, Bool}
use Rattle.bbm_rules.proofs.Common.{List, [], ◌∷◌, reverse, option_map, IfSome, Option, Some, None, inl, inr, sym, ◌∙◌}
use Rattle.bbm_rules.proofs.Common.{ap, subst, reverse-append, reverse-reverse, take_all, In, from_contains, in_append}
use Rattle.bbm_rules.proofs.Common.{to_contains, fits_heading, heading_ok, Trust, noted, Noted, page_of, Heading, Event}
use Rattle.bbm_rules.proofs.Common.{Write, Node, node_of, same_Some, none-some}
use Rattle.std.proofs.Common.{All}
use Rattle.std.proofs.lemmas.List.Elements.{All-contains}
use Rattle.bbm_lemmas.proofs.Reversed.{reverse_more}
use Rattle.bbm_oracle_trees.specs.Past.{Past}
use Rattle.bbm_counterrun.specs.Plans.{Finds}
use Rattle.bbm_counterrun.specs.RefusedWrite.{IsRefused}
use Rattle.bbm_counterrun.specs.Searching.{FindsRun}
use Rattle.bbm_counterrun.proofs.FirstFound.{found_first, none_first}

-- ---- the events of a program

from_reversed : (events : List Event) (e : Event) → In (reverse events) e → In events e
from_reversed [] e there = there
from_reversed (x ∷ events) e there =
    elim (in_append (reverse events) (x ∷ []) e (rw (reverse-append (x ∷ []) events) at there)) [
      | inl old ↦ inr (from_reversed events e old)
      | inr (inl new) ↦ inl new
      | inr (inr none) ↦ absurd none
    ]

is_log : (heading : Heading) (events : List Event) → heading_ok heading ≡ true → All (λ event. fits_heading heading event ≡ true) events
    → IsLog heading (reverse events)
is_log heading events ok fit = record {
  header = ok;
  events = λ e there. All-contains (λ event. fits_heading heading event ≡ true) events e fit
      (to_contains events e (from_reversed events e (from_contains (reverse events) e there)));
}

-- ---- the kind and the way, by what a history stands for

abbrev kind_by : Heading → Trust → List Noted → ℕ → Option Kind
kind_by heading trust ns place = option_map (λ n. n.kind) (node_of heading trust ns (page_of place))

-- what is found, by what is told of a history
pub record Laws (heading : Heading) : Type 0 where
  pub tested : PlainIsTested heading
  pub least : PlansHaveLeastReads heading

module _ (heading : Heading) (laws : Laws heading) (before : List Event) (ok : heading_ok heading ≡ true)
    (fit : All (λ event. fits_heading heading event ≡ true) before) (past : Past) (trust : past.trust ≡ Patterns)
    (stands : StandsFor past heading (reverse before)) (pe place value : ℕ) (refused : IsRefused heading (reverse before) pe place value)
    (leaf : holds_leaf heading (reverse before) place ≡ true) where
  has : (plan : Plan) → IsPlain heading (reverse before) (Write pe place value) plan
      → HasLeastReads heading (reverse before) (Write pe place value) place plan
  has plan plain =
      laws.least (reverse before) pe place value plan (is_log heading before ok fit) refused.kept leaf
      ((laws.tested (reverse before) (Write pe place value) plan).0 plain)

  -- what is said by the history is said of the events
  told : {A : Type 0} (f : Heading → Trust → List Noted → A)
      → f past.heading past.trust (notes past) ≡ f heading Patterns (noted heading Patterns (reverse before))
  told f = λ i. f (stands.heading_is i) (trust i) ((stands.notes_are ∙ ap (λ (t : Trust). noted heading t (reverse before)) trust) i)

  kind_of : (plan : Plan) → IsPlain heading (reverse before) (Write pe place value) plan
      → kind_by past.heading past.trust (notes past) place ≡ Some plan.kind
  kind_of plan plain =
      let least = has plan plain in
      told (λ x t ns. kind_by x t ns place) ∙ ap (option_map (λ (n : Node). n.kind)) least.node_is ∙ sym (ap Some least.kind)

  -- where the place is in no tree nothing is plain
  pub no_tree_found : None ≡ kind_by past.heading past.trust (notes past) place → Finds heading (reverse before) (Write pe place value) None
  no_tree_found none plan plain = none-some plan.kind (none ∙ kind_of plan plain)

  pub run_found : (log : List Event) → reverse log ≡ Write pe place value ∷ reverse before → (kind : Kind)
      → Some kind ≡ kind_by past.heading past.trust (notes past) place → (way : List Goal)
      → way ≡ way_among past.heading past.trust (notes past) place → (steps : Option (List Step))
      → FindsRun heading (reverse before) (Write 0 place value) kind way log steps → Finds heading (reverse before) (Write pe place value) steps
  run_found log same kind is way are steps f =
      by steps (subst (λ (w : List Goal). FindsRun heading (reverse before) (Write 0 place value) kind w log steps)
      (are ∙ told (λ x t ns. way_among x t ns place)) f)
    where
      kinds : (plan : Plan) → IsPlain heading (reverse before) (Write pe place value) plan → plan.kind ≡ kind
      kinds plan plain = sym (same_Some kind plan.kind (is ∙ kind_of plan plain))

      by : (steps : Option (List Step))
          → FindsRun heading (reverse before) (Write 0 place value) kind (way_to heading (reverse before) place) log steps
          → Finds heading (reverse before) (Write pe place value) steps
      by None f = none_first heading (reverse before) pe place value kind (laws.tested _ _) has kinds f
      by (Some steps) f = (
        plan_found kind f.0,
        found_first heading (reverse before) pe place value kind (laws.tested _ _) has kinds f.0 f.1,
        f.2 ∙ ap (run_of (plan_found kind f.0)) (sym (reverse-reverse log) ∙ ap (reverse {A = Event}) same),
      )

-- ---- the last event of a log

pub last_is : (events : List Event) (e : Event) → 1 ≤ length events → e ≡ get_or events (length events - 1) e
    → reverse events ≡ e ∷ reverse (take (length events - 1) events)
last_is events e some at =
    sym (reverse_more events (length events - 1) e (omega (arith, some)) at
    ∙ ap (reverse {A = Event}) (take_all (length events - 1 + 1) events (omega (arith, some))))

-- what is told of a log that ends with a write over a leaf
abbrev FindsOver : Heading → Option (List Step) → List Event → Type 0
FindsOver heading steps (Write pe place value ∷ h) =
    IsRefused heading h pe place value → holds_leaf heading h place ≡ true → Finds heading h (Write pe place value) steps
FindsOver heading steps _ = Unit {0}

module _ (heading : Heading) (log before : List Event) (e : Event) (p place value : ℕ) (is : e ≡ Write p place value)
    (split : reverse log ≡ e ∷ reverse before) (whole : List Event) (same : log ≡ whole) where
  ends : reverse whole ≡ Write p place value ∷ reverse before
  ends = sym (ap (reverse {A = Event}) same) ∙ split ∙ ap (λ (x : Event). x ∷ reverse before) is

  pub leaf_at_last : (leaf : Bool) → leaf ≡ holds_leaf heading (reverse before) place → leaf ≡ ends_at_leaf heading (reverse whole)
  leaf_at_last leaf holds = holds ∙ ap (ends_at_leaf heading) (sym ends)

  -- what is told of the last event, in any form
  pub some_at_last : {V : Type 0} (steps : V → Option (List Step)) (found : Option V)
      → IfSome found (λ v. (pe : ℕ) → reverse log ≡ Write pe place value ∷ reverse before → IsRefused heading (reverse before) pe place value
      → holds_leaf heading (reverse before) place ≡ true → Finds heading (reverse before) (Write pe place value) (steps v))
      → IfSome found (λ v. (h : List Event) (pe a n : ℕ) → reverse whole ≡ Write pe a n ∷ h → IsRefused heading h pe a n
      → holds_leaf heading h a ≡ true → Finds heading h (Write pe a n) (steps v))
  some_at_last steps None told = tt
  some_at_last steps (Some v) told = λ h pe a n last.
      subst (FindsOver heading (steps v)) (sym ends ∙ last) (told p (ap (reverse {A = Event}) same ∙ ends))

pub no_leaf_at_last : (heading : Heading) (h : List Event) (pe place value : ℕ) (log : List Event) → reverse log ≡ Write pe place value ∷ h
    → holds_leaf heading h place ≡ true → false ≡ ends_at_leaf heading (reverse log) → {X : Type 0} → X
no_leaf_at_last heading h pe place value log same leaf none =
    absurd (true≢false (sym leaf ∙ sym (none ∙ ap (ends_at_leaf heading) same)))
