use Rattle.bbm_tree_index.proofs.Common.{get, value_at, Expands, scanned, with_first}
use Rattle.bbm_rules.proofs.Common.{◌≡◌, ℕ, ◌||◌, ◌==◌, ◌+◌, ◌*◌, ◌∙◌, nat_eq, subst, arith, page_of}
use Rattle.bbm_tree_index.proofs.Blank.{leads_nowhere}
use Rattle.bbm_tree_index.proofs.Counting.{marks_same}
use Rattle.bbm_tree_index.proofs.Places.{at_page}
use Rattle.bbm_tree_index.proofs.Scanning.{alike, page_done, scan_all, scan_none}
use Rattle.bbm_tree_index.proofs.survey.expand_page.Goals as goal

pub loop-part-init : goal.loop-part-init
loop-part-init c = record {
  well = λ heading w. w;
  level = λ fresh starts k done mark uniform is_fresh undone few found stands h.
      alike fresh (value_at c.args.map.now) starts k done (λ a. done a || scanned c.args.page 0 a)
      (λ page a at. scan_none c.args.page done a)
      (get nat_eq c.args.below.now) h;
}

pub loop-part-preserved : goal.loop-part-preserved
loop-part-preserved c = record {
  well = λ heading w. c.in_ok-expand_eight.ensures.well heading (c.loop-part.invariant.well heading w);
  level = λ fresh starts k done mark uniform is_fresh undone few found stands h.
      let part = c.loop-part.part in
      let page = c.args.page in
      let By : ℕ → ℕ → Type 0 = λ p n. Expands (value_at c.args.map.now) c.args.spot.now c.args.many p
      (with_first p (8 * part)) (with_first p n) (get nat_eq c.loop-part.below) (get nat_eq c.expand_eight.new.below) in
      let eight : By page (8 * part + 8) = subst (λ p. By p (8 * part + 8)) c.in-Some.ensures.place
      c.in_ok-expand_eight.ensures.level in
      let more : By page (8 * (part + 1)) = subst (By page) (next part) eight in
      more fresh starts k done mark uniform is_fresh undone few found stands
      (c.loop-part.invariant.level fresh starts k done mark uniform is_fresh undone few found stands h);
}
  where
    next : (part : ℕ) → 8 * part + 8 ≡ 8 * (part + 1)
    next part = omega arith

pub returns : goal.returns
returns c = record {
  well = c.loop-part.invariant.well;
  level = λ fresh starts k done mark uniform is_fresh undone few found stands h.
      alike fresh (value_at c.args.map.now) starts k (λ a. done a || scanned c.args.page (8 * c.loop-part.part) a)
      (λ a. done a || page_of a == c.args.page)
      (λ page a at. scan_all c.args.page (8 * c.loop-part.part) (omega (arith, c.loop-part-test.false)) done a)
      (get nat_eq c.loop-part.below)
      (c.loop-part.invariant.level fresh starts k done mark uniform is_fresh undone few found stands h);
}

pub returns-in_default-clause-level : goal.returns-in_default-clause-level
returns-in_default-clause-level c = λ fresh starts k done mark uniform is_fresh undone few found stands.
    marks_same fresh (value_at c.args.map.now) starts k done (λ a. done a || page_of a == c.args.page)
    (λ n m a s. page_done c.args.page n.page a (done a) s.inside (λ e. leads_nowhere n.kind n.level _ m.page s.table
    (c.first_position.ensures.zero c.in_default.is a (at_page n.page a s.inside ∙ e)))) (get nat_eq c.args.below.now)
