-- A plan that comes before another does so with its least reads, too: so the first of those with their least reads is the
-- first of all. And one plan is first, so that there is one run to be found.
use Rattle.bbm_counterrun.proofs.Common.{Step, HasLeastReads, IsFirst, IsPlain, Plan, by_combine, comes_before, run_of}
use Rattle.bbm_rules.proofs.Common.{◌≡◌, ℕ, false, List, ◌∷◌, reverse, Option, Some, None, refl, sym, inl, inr, ◌∙◌, ap}
use Rattle.bbm_rules.proofs.Common.{true≢false, false_from_ne_true, Heading, Event}
use Rattle.std.proofs.lemmas.Bool.{cases_Bool}
use Rattle.bbm_counterrun.specs.Plans.{Finds}
use Rattle.bbm_counterrun.proofs.Order.{before_then, combine_itself, number_itself, same_if_neither}

-- the plan with its least reads
abbrev pub with_least : (heading : Heading) (h : List Event) (e : Event) (place : ℕ) (plan : Plan)
    → HasLeastReads heading h e place plan → Plan
with_least heading h e place plan least = record plan { first = least.first; rest = least.rest }

module _ (heading : Heading) (h : List Event) (e : Event) (place : ℕ)
    (has : (plan : Plan) → IsPlain heading h e plan → HasLeastReads heading h e place plan) where
  not_before_least : (plan other : Plan) (least : HasLeastReads heading h e place plan)
      → comes_before (with_least heading h e place plan least) other ≡ false → comes_before plan other ≡ false
  not_before_least plan other least after = elim (cases_Bool (comes_before with plan)) [
    | inl k ↦ false_from_ne_true _ (λ before. true≢false (sym (before_then with plan other k before) ∙ after))
    | inr k ↦ ap (λ (p : Plan). comes_before p other) (sym (same_if_neither with plan refl k its_least)) ∙ after
  ]
    where
      with : Plan
      with = with_least heading h e place plan least

      -- the plan doesn't come before that one
      its_least : comes_before plan with ≡ false
      its_least = false_from_ne_true _ (λ before. true≢false (sym
          (least.least (by_combine plan.combines plan.combines) (simp number_itself at before)).1 ∙ combine_itself plan.combines))

  -- a plain plan that comes after none of the plain ones with their least reads is first
  pub first_of_least : (plan : Plan) → IsPlain heading h e plan
      → ((other : Plan) (k : IsPlain heading h e other) → comes_before (with_least heading h e place other (has other k)) plan ≡ false)
      → IsFirst heading h e plan
  first_of_least plan plain after = record { plain = plain; first = λ other k. not_before_least other plan (has other k) (after other k) }

  -- each plan that is plain has the kind of the tree of the place
  one_kind : (one other : Plan) → IsPlain heading h e one → IsPlain heading h e other → one.kind ≡ other.kind
  one_kind one other a b = let k = has one a in let l = has other b in cc

  pub one_plan : (one other : Plan) → IsFirst heading h e one → IsFirst heading h e other → one ≡ other
  one_plan one other a b =
      same_if_neither one other (one_kind one other a.plain b.plain) (b.first one a.plain) (a.first other b.plain)

  pub one_run : (one other : Option (List Step)) → Finds heading h e one → Finds heading h e other → one ≡ other
  one_run None None a b = refl
  one_run None (Some steps) a b = absurd (a b.0 b.1.plain)
  one_run (Some steps) None a b = absurd (b a.0 a.1.plain)
  one_run (Some one) (Some other) a b =
      ap Some (a.2 ∙ ap (λ (p : Plan). run_of p (reverse (e ∷ h))) (one_plan a.0 b.0 a.1 b.1) ∙ sym b.2)
