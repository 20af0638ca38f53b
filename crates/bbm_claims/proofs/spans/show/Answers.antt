use Rattle.bbm_claims.proofs.Common.{Tag, lasts, Span}
use Rattle.bbm_rules.proofs.Common.{ℕ, ◌&&◌, ◌||◌, ◌==◌, ◌∙◌, ap, same_tag}
use Rattle.bbm_claims.proofs.Lasting.{found_in, lasts_set}
use Rattle.bbm_claims.proofs.spans.show.Goals as goal

pub returns-in-Some : goal.returns-in-Some
returns-in-Some c = λ p n g.
    let old : Span = c.index_mut.result.now in
    let found = found_in c.deref.result.now c.args.spans.now.items c.in-Some.i old c.args.pe c.args.tag
    c.deref.ensures.value
    c.in-Some.ensures c.index_mut.ensures.value in
    lasts_set c.args.spans.now.items c.in-Some.i old p n g found.0 c.index_mut.ensures.value
    ∙ ap (λ (x : ℕ). lasts c.args.spans.now.items p g n || (x == p && same_tag old.tag g)) found.1
    ∙ ap (λ (k : Tag). lasts c.args.spans.now.items p g n || (c.args.pe == p && same_tag k g))
    ((c.law_equality_tests.ensures.tags old.tag c.args.tag).0 found.2)
