use Rattle.bbm_unmapped.proofs.Common.{free_in, pages_in}
use Rattle.bbm_unmapped.proofs.unmapped.Unmapped.take_page.Goals as goal
use Rattle.bbm_rules.proofs.Common.{◌∙◌, ◌<◌, ℕ, List, Option, ap, is_some, length, slice_get_within, subst, sym}
use Rattle.bbm_rules.proofs.Common.{true≢false}
use Rattle.bbm_unmapped.proofs.Known.{off_stays}
use Rattle.bbm_unmapped.proofs.Tables.{no_table, one_table, standing_is}

pub returns-in_default-clause-least : goal.returns-in_default-clause-least
returns-in_default-clause-least c =
    let off = sym c.free_number.ensures.free ∙ ap (λ (o : Option ℕ). is_some o) c.in_default.is in
    λ m u. true≢false (sym (c.requires.free m u.1) ∙ ap (free_in c.args.self.now) u.0 ∙ off)

pub returns-in_default-clause-free : goal.returns-in_default-clause-free
returns-in_default-clause-free c = λ none. off_stays c.args.self.now c.args.page
    (sym c.free_number.ensures.free ∙ ap (λ (o : Option ℕ). is_some o) c.in_default.is)

pub standing-requires : goal.standing-requires
standing-requires c = subst (λ (ps : List ℕ). c.in-Some.number < length ps) c.requires.pages
    (slice_get_within (pages_in c.args.self.now) c.in-Some.number c.args.page c.in-Some.ensures.at)

pub returns-then-is_some-clause-least : goal.returns-then-is_some-clause-least
returns-then-is_some-clause-least c = one_table c.args.index.now c.args.page
    (standing_is c.args.index.now (pages_in c.args.self.now) c.in-Some.number c.args.page c.standing.result.0
    c.standing.result.1 c.requires.pages c.in-Some.ensures.at c.standing.ensures.at c.standing.ensures.stands
    ∙ sym c.is_some.ensures ∙ c.if-is_some.true)

pub returns-clause-least : goal.returns-clause-least
returns-clause-least c = no_table c.args.index.now c.args.page
    (standing_is c.args.index.now (pages_in c.args.self.now) c.in-Some.number c.args.page c.standing.result.0
    c.standing.result.1 c.requires.pages c.in-Some.ensures.at c.standing.ensures.at c.standing.ensures.stands
    ∙ sym c.is_some.ensures ∙ c.if-is_some.false)
