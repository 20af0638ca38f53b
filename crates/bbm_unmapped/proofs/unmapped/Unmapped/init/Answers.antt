use Rattle.bbm_unmapped.proofs.Common.{number_in, pages_in}
use Rattle.bbm_rules.proofs.Common.{◌∙◌, ℕ, List, Some, ap, sym}
use Rattle.bbm_page_map.proofs.Numbering.{number_is}
use Rattle.bbm_unmapped.proofs.unmapped.Unmapped.init.Goals as goal

pub leaves-requires : goal.leaves-requires
leaves-requires c = number_is (pages_in c.add-number.new.self) c.args.page c.get-number.result
    (ap (λ (ps : List ℕ). number_in ps c.args.page) c.add-number.ensures.pages ∙ c.add-number.ensures.number
    ∙ ap (λ (n : ℕ). Some n) (sym c.get-number.ensures.value))

pub set_free-requires : goal.set_free-requires
set_free-requires c = number_is (pages_in c.add-number.new.self) c.args.page c.get-number.result
    (ap (λ (ps : List ℕ). number_in ps c.args.page) c.add-number.ensures.pages ∙ c.add-number.ensures.number
    ∙ ap (λ (n : ℕ). Some n) (sym c.get-number.ensures.value))
