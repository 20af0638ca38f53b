-- Outside the input range the walk never begins. In it, it begins at the place that the address selects.
use Rattle.std.proofs.Common.{[], refl, rules, ◌+◌, ◌*◌, ◌/◌, ◌<◌, ap, sym, subst, ◌∙◌}
use Rattle.bbm_descriptor.specs.Listing.{WalkRoot, RegionHolds}
use Rattle.bbm_descriptor.specs.declared.walk.Walk.TheVariants.{Fault}
use Rattle.bbm_walk_s2.specs.Joined.{stage2_root}
use Rattle.bbm_walk_s2.proofs.Begins.{root_aligned, begins_there, number_inside}
use Rattle.bbm_walk_s2.proofs.walking.walk.Goals as goal

pub returns-then-not-is_in_range-clause-answer : goal.returns-then-not-is_in_range-clause-answer
returns-then-not-is_in_range-clause-answer g c =
    let value = g.M.Memory.value_at c.args.mem.now in
    c.law_outside.ensures value (stage2_root c.args.root.start c.args.root.pages c.args.root.page) c.args.ipa
    (λ holds. let never = (c.if-not-is_in_range.ensures value c.args.root.page).1 holds in cc)

pub returns-then-not-is_in_range-clause-only : goal.returns-then-not-is_in_range-clause-only
returns-then-not-is_in_range-clause-only g c = λ other answer.
    c.law_one_answer.ensures (g.M.Memory.value_at c.args.mem.now) (stage2_root c.args.root.start c.args.root.pages c.args.root.page) c.args.ipa
    other (Fault c.args.root.start) (root_aligned c.args.root.start c.args.root.pages c.args.root.page (search rules))
    answer (returns-then-not-is_in_range-clause-answer g c)

pub joined_place-place-requires-clause-inside : goal.joined_place-place-requires-clause-inside
joined_place-place-requires-clause-inside g c =
    let value = g.M.Memory.value_at c.args.mem.now in
    subst (λ s. c.args.ipa / s < 512 * c.args.root.pages) (sym c.span.ensures)
    (number_inside value c.args.root.start c.args.root.pages c.args.root.page c.args.ipa
    ((c.if-not-is_in_range.ensures value c.args.root.page).0 refl))

pub returns-clause-answer : goal.returns-clause-answer
returns-clause-answer g c =
    let value = g.M.Memory.value_at c.args.mem.now in
    let root : WalkRoot = stage2_root c.args.root.start c.args.root.pages c.args.root.page in
    let inside : RegionHolds value root [] c.args.ipa = (c.if-not-is_in_range.ensures value c.args.root.page).0 refl in
    c.walk_from.ensures.answer root []
    (begins_there value c.args.root.start c.args.root.pages c.args.root.page c.args.ipa c.joined_place-place.result
    (c.joined_place-place.ensures ∙ ap (λ s. c.args.root.page + 8 * (c.args.ipa / s)) c.span.ensures)
    (c.law_walk_begins.ensures value root c.args.ipa (root_aligned c.args.root.start c.args.root.pages c.args.root.page (search rules)) inside))

pub returns-clause-only : goal.returns-clause-only
returns-clause-only g c = λ other answer.
    c.law_one_answer.ensures (g.M.Memory.value_at c.args.mem.now) (stage2_root c.args.root.start c.args.root.pages c.args.root.page) c.args.ipa
    other c.walk_from.result (root_aligned c.args.root.start c.args.root.pages c.args.root.page (search rules))
    answer (returns-clause-answer g c)
