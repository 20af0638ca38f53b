use Rattle.bbm_replay.proofs.Common.{below_more, marks_at, restless_place, Marks, PlaceMap, next_in}
use Rattle.bbm_rules.proofs.Common.{◌≡◌, ℕ, ◌<◌, ◌≤◌, None, Some, is_some, sym, ap, ◌∙◌, subst, arith}
use Rattle.bbm_rules.proofs.Common.{same_Some, Core}
use Rattle.bbm_lemmas.proofs.Words.{none_is}
use Rattle.bbm_replay.proofs.writes.is_broken_over_leaves.Goals as goal

-- a place that is broken over one core isn't broken over another
one_core : (map : PlaceMap) (a : ℕ) (core : Core)
    → (marks : Marks) × (marks_at map a ≡ Some marks) × (marks.core ≡ core)
    → next_in (Some core) ≡ None → (marks : Marks) → marks_at map a ≡ Some marks → next_in (Some marks.core) ≡ None
one_core map a core found none marks at =
    ap (λ (m : Marks). next_in (Some m.core)) (same_Some marks found.0 (sym at ∙ found.1))
    ∙ ap (λ (x : Core). next_in (Some x)) found.2 ∙ none

pub loop-i-preserved : goal.loop-i-preserved
loop-i-preserved c = below_more (λ (x : ℕ). (marks : Marks)
    → marks_at c.args.map.now (restless_place c.args.map.now x) ≡ Some marks → next_in (Some marks.core) ≡ None)
    c.loop-i.i c.loop-i.invariant
    (one_core c.args.map.now (restless_place c.args.map.now c.loop-i.i) c.restless_core.result c.restless_core.ensures
    (sym c.next_of.ensures ∙ none_is c.next_of.result (sym c.is_some.ensures ∙ c.if-is_some.false)))

pub returns : goal.returns
returns c = λ yes a marks at.
    let found = c.restless-count.ensures.each a (ap (λ o. is_some o) at) in
    c.loop-i.invariant found.0 (less found.0 c.restless-count.result c.loop-i.i
    (subst (λ n. found.0 < n) (sym c.restless-count.ensures.count) found.1) c.loop-i-test.false) marks
    (ap (λ x. marks_at c.args.map.now x) found.2 ∙ at)
  where
    less : (x n i : ℕ) → x < n → n ≤ i → x < i
    less x n i l e = omega (arith, l, e)
