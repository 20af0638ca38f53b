-- Outside the input range the walk never begins. In it, it begins at the place that the address selects.
use Rattle.std.proofs.Common.{[], refl, rules}
use Rattle.bbm_descriptor.specs.Listing.{WalkRoot, RegionHolds}
use Rattle.bbm_descriptor.specs.declared.walk.Walk.TheVariants.{Fault}
use Rattle.bbm_walk_s1.specs.InputRanges.{stage1_root}
use Rattle.bbm_walk_s1.proofs.Starts.{root_aligned, begins_there}
use Rattle.bbm_walk_s1.proofs.walking.walk.Goals as goal

pub returns-then-not-is_in_range-clause-answer : goal.returns-then-not-is_in_range-clause-answer
returns-then-not-is_in_range-clause-answer g c =
    let value = g.M.Memory.value_at c.args.mem.now in
    c.law_outside.ensures value (stage1_root c.args.root.start c.args.root.high c.args.root.page) c.args.va
    (λ holds. let never = (c.if-not-is_in_range.ensures value c.args.root.page).1 holds in cc)

pub returns-then-not-is_in_range-clause-only : goal.returns-then-not-is_in_range-clause-only
returns-then-not-is_in_range-clause-only g c = λ other answer.
    c.law_one_answer.ensures (g.M.Memory.value_at c.args.mem.now) (stage1_root c.args.root.start c.args.root.high c.args.root.page) c.args.va
    other (Fault c.args.root.start) (root_aligned c.args.root.start c.args.root.high c.args.root.page c.args.root.starts (search rules))
    answer (returns-then-not-is_in_range-clause-answer g c)

pub returns-clause-answer : goal.returns-clause-answer
returns-clause-answer g c =
    let value = g.M.Memory.value_at c.args.mem.now in
    let root : WalkRoot = stage1_root c.args.root.start c.args.root.high c.args.root.page in
    let inside : RegionHolds value root [] c.args.va = (c.if-not-is_in_range.ensures value c.args.root.page).0 refl in
    c.walk_from.ensures.answer root []
    (begins_there value c.args.root.start c.args.root.page c.args.va c.place_for-place.result c.args.root.high c.args.root.starts (search rules)
    inside c.place_for-place.ensures
    (c.law_walk_begins.ensures value root c.args.va (root_aligned c.args.root.start c.args.root.high c.args.root.page c.args.root.starts (search rules)) inside))

pub returns-clause-only : goal.returns-clause-only
returns-clause-only g c = λ other answer.
    c.law_one_answer.ensures (g.M.Memory.value_at c.args.mem.now) (stage1_root c.args.root.start c.args.root.high c.args.root.page) c.args.va
    other c.walk_from.result (root_aligned c.args.root.start c.args.root.high c.args.root.page c.args.root.starts (search rules))
    answer (returns-clause-answer g c)
