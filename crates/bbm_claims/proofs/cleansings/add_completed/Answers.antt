use Rattle.bbm_claims.proofs.Common.{notes_of, tells}
use Rattle.bbm_rules.proofs.Common.{reverse, sym, ◌∙◌}
use Rattle.bbm_claims.proofs.Cleansed.{none_ends}
use Rattle.bbm_claims.proofs.cleansings.add_completed.Goals as goal

pub returns-else-is_dsb : goal.returns-else-is_dsb
returns-else-is_dsb c = λ a p n.
    none_ends c.args.header.now a p n c.args.claims.now c.args.newest.now (notes_of (reverse c.args.log.now))
    (tells c.args.kept.now.items a p n) (sym c.is_dsb.ensures ∙ c.if-is_dsb.false)
