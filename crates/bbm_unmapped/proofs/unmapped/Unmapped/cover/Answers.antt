use Rattle.bbm_unmapped.proofs.Common.{pages_in}
use Rattle.bbm_rules.proofs.Common.{◌∙◌, ℕ, Some, ap, sym}
use Rattle.bbm_page_map.proofs.Numbering.{number_is}
use Rattle.bbm_rules.proofs.Common.{◌==◌, ◌&&◌, not, Bool}
use Rattle.bbm_unmapped.proofs.Known.{only_free}
use Rattle.bbm_unmapped.proofs.unmapped.Unmapped.cover.Goals as goal

pub widen-requires : goal.widen-requires
widen-requires c = number_is (pages_in c.args.self.now) c.args.page c.get.result
    (c.requires.table ∙ ap (λ (n : ℕ). Some n) (sym c.get.ensures.value))

pub returns-in-Some-clause-free : goal.returns-in-Some-clause-free
returns-in-Some-clause-free c = λ p. c.cover_page.ensures.free p
    ∙ ap (λ (b : Bool). b && not (p == c.in-Some.only)) (c.widen.ensures.free p)
    ∙ only_free c.args.self.now c.args.outputs.now c.in-Some.only c.in-Some.ensures.only p
