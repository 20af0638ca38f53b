use Rattle.bbm_rules.proofs.Common.{◌∙◌, ℕ, Option, ap, is_some, sym}
use Rattle.bbm_unmapped.proofs.Known.{off_stays}
use Rattle.bbm_unmapped.proofs.unmapped.Unmapped.cover_page.Goals as goal

pub returns-in_default-clause-free : goal.returns-in_default-clause-free
returns-in_default-clause-free c = off_stays c.args.self.now c.args.page
    (sym c.free_number.ensures.free ∙ ap (λ (o : Option ℕ). is_some o) c.in_default.is)
