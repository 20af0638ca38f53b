use Rattle.bbm_tree_index.proofs.Common.{core_in, PlaceMap, holds_at, marks_at, state_at, value_at}
use Rattle.bbm_rules.proofs.Common.{◌≡◌, ℕ, ◌+◌, ◌*◌, ◌%◌, false, Option, is_some, arith, refl, ap, sym, ◌∙◌}
use Rattle.bbm_rules.proofs.Common.{false≢true, core_of, Core, Kind}
use Rattle.std.proofs.Common.{below_more}
use Rattle.bbm_tree_index.proofs.Blank.{holds_nothing, core_read}
use Rattle.bbm_tree_index.proofs.Places.{at_page, each_place, number_at}
use Rattle.bbm_tree_index.proofs.held.holds_none.Goals as goal

-- what a cell of the page holds
read : (map : PlaceMap) (kind : Kind) (level page place i : ℕ) (o : Option Core)
    → o ≡ core_in (state_at map (core_of kind level (value_at map (place + 8 * i))) (place + 8 * i)) → place ≡ page
    → holds_at map kind level (page + 8 * i) ≡ is_some o
read map kind level page place i o is same = ap (λ (s : ℕ). holds_at map kind level (s + 8 * i)) (sym same)
    ∙ sym (ap (λ (x : Option Core). is_some x) (is ∙ core_read (marks_at map (place + 8 * i)) kind level (value_at map (place + 8 * i))))

pub loop-index-preserved : goal.loop-index-preserved
loop-index-preserved c = let place = c.first_position-position in
    below_more (λ j. holds_at c.args.map.now c.args.kind c.args.level (c.args.page + 8 * j) ≡ false) c.loop-index.index c.loop-index.invariant
    (read c.args.map.now c.args.kind c.args.level c.args.page place.result.place c.loop-index.index c.core_from.result
    c.core_from.ensures place.ensures.place ∙ sym c.is_some.ensures ∙ c.if-is_some.false)

pub returns-then-is_some : goal.returns-then-is_some
returns-then-is_some c = let place = c.first_position-position in (
  λ none. absurd (false≢true none),
  λ none. absurd (false≢true (sym (none (c.args.page + 8 * c.loop-index.index) (number_at c.args.page c.loop-index.index
      (ap (λ (s : ℕ). s % 4096) (sym place.ensures.place) ∙ place.ensures.first) (omega arith)))
      ∙ read c.args.map.now c.args.kind c.args.level c.args.page place.result.place c.loop-index.index c.core_from.result
      c.core_from.ensures place.ensures.place ∙ sym c.is_some.ensures ∙ c.if-is_some.true)),
)

pub returns : goal.returns
returns c = (
  λ e a at. each_place c.args.page (λ a. holds_at c.args.map.now c.args.kind c.args.level a ≡ false)
      (λ j below. c.loop-index.invariant j (omega (arith, below, c.loop-index-test.false))) a at,
  λ h. refl,
)

pub returns-then-is_blank : goal.returns-then-is_blank
returns-then-is_blank c = (
  λ e a at. let blank = c.is_blank.ensures.blank.0 c.if-is_blank.true a (at_page c.args.page a at) in
      holds_nothing c.args.map.now c.args.kind c.args.level a blank.0 blank.1,
  λ h. refl,
)
