use Rattle.bbm_unmapped.proofs.Common.{number_in, pages_in}
use Rattle.bbm_rules.proofs.Common.{◌∙◌, ℕ, List, Some, ap, sym}
use Rattle.bbm_page_map.proofs.Numbering.{number_is}
use Rattle.bbm_unmapped.proofs.unmapped.Unmapped.put_leaf.Goals as goal

pub widen-requires : goal.widen-requires
widen-requires c = number_is (pages_in c.take-met.new.self) c.args.page c.get.result
    (ap (λ (ps : List ℕ). number_in ps c.args.page) c.take-met.ensures.pages ∙ c.requires.table
    ∙ ap (λ (n : ℕ). Some n) (sym c.get.ensures.value))
