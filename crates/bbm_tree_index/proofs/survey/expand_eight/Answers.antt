use Rattle.bbm_tree_index.proofs.Common.{get, is_at, Counts, Partly, grown, Hangs, value_at, scanned, with_first}
use Rattle.bbm_rules.proofs.Common.{◌≡◌, ℕ, Bool, true, ◌||◌, ◌==◌, ◌+◌, ◌*◌, ◌%◌, ◌/◌, sym, ap, ◌∙◌, nat_eq, subst}
use Rattle.bbm_rules.proofs.Common.{arith, suc, index_of, input_pages, next_of}
use Rattle.bbm_tree_index.proofs.Blank.{leads_nowhere}
use Rattle.bbm_tree_index.proofs.Counting.{grow, marks_same}
use Rattle.bbm_tree_index.proofs.Places.{at_page}
use Rattle.bbm_tree_index.proofs.Scanning.{alike, not_scanned, scan_more, skipped}
use Rattle.bbm_tree_index.proofs.survey.expand_eight.Goals as goal

first_page : (p : ℕ) → p % 4096 ≡ 0 → p / 4096 * 4096 ≡ p
first_page p e = omega arith

pub loop-index-init : goal.loop-index-init
loop-index-init c = record {
  well = λ heading w. w;
  level = λ fresh starts k done mark uniform is_fresh undone few found stands h. h;
}

pub loop-index-preserved : goal.loop-index-preserved
loop-index-preserved c = record {
  well = λ heading w. c.in_ok-expand_place.ensures.well heading (c.loop-index.invariant.well heading w);
  level = λ fresh starts k done mark uniform is_fresh undone few found stands h.
      let p = c.args.position.now.place in let j = c.loop-index.index in let spot = c.args.spot.now in
      let same : c.page-page.result ≡ p = c.page-page.ensures ∙ first_page p c.requires.first in
      let here : c.place_of.result ≡ p + 8 * j = c.place_of.ensures.place ∙ ap (λ s. s + 8 * j) same in
      let inside : is_at p (p + 8 * j) ≡ true
      = subst (λ a. is_at p a ≡ true) here
      (subst (λ q. is_at q c.place_of.result ≡ true) same c.place_of.ensures.inside) in
      let old : ℕ → Bool = with_first p j done in
      alike fresh (value_at c.args.map.now) starts k (λ a. old a || a == p + 8 * j) (with_first p (j + 1) done)
      (scan_more p j inside done) (get nat_eq c.expand_place.new.below)
      (λ q. subst (Counts (Partly fresh (value_at c.args.map.now) starts k (λ a. old a || a == p + 8 * j)) q)
      (sym (c.in_ok-expand_place.ensures.grown q ∙ (λ i. grown (next_of spot.kind spot.level (c.value_from-value.ensures i))
      (record {
        role = Hangs (here i) spot.kind (suc spot.level) (spot.base + index_of (here i) * input_pages spot.level) spot.first;
        many = sym few i;
      }) (get nat_eq c.loop-index.below) q)))
      (grow fresh (value_at c.args.map.now) starts k uniform old p (p + 8 * j) mark spot is_fresh inside
      (ap (λ b. b || scanned p j (p + 8 * j)) (undone (p + 8 * j) (at_page p (p + 8 * j) inside)) ∙ not_scanned p j inside)
      found stands (get nat_eq c.loop-index.below)
      (c.loop-index.invariant.level fresh starts k done mark uniform is_fresh undone few found stands h) q));
}

pub returns : goal.returns
returns c = record {
  well = c.loop-index.invariant.well;
  level = λ fresh starts k done mark uniform is_fresh undone few found stands h.
      subst (λ n. (q : ℕ) → Counts (Partly fresh (value_at c.args.map.now) starts k (with_first c.args.position.now.place n done)) q
      (get nat_eq c.loop-index.below q)) (omega (arith, c.loop-index-test.false, c.loop-index.auto.index-end))
      (c.loop-index.invariant.level fresh starts k done mark uniform is_fresh undone few found stands h);
}

pub returns-then-are_eight_zero-clause-level : goal.returns-then-are_eight_zero-clause-level
returns-then-are_eight_zero-clause-level c = λ fresh starts k done mark uniform is_fresh undone few found stands.
    let value = value_at c.args.map.now in
    let p = c.args.position.now.place in
    let from = c.args.from in
    marks_same fresh value starts k (with_first p from done) (with_first p (from + 8) done)
    (λ n m a s. skipped value p from n.page a (done a) (c.are_eight_zero.ensures c.if-are_eight_zero.true) s.inside
    (leads_nowhere n.kind n.level (value a) m.page s.table)) (get nat_eq c.args.below.now)
