use Rattle.bbm_rules.proofs.Common.{◌∙◌, sym, length, arith, eqb-false}
use Rattle.bbm_oracle_tags.proofs.NumberLemmas.{only-one, several}
use Rattle.bbm_oracle_tags.proofs.registers.one_number.Goals as goal

pub returns-then-all_numbered : goal.returns-then-all_numbered
returns-then-all_numbered c =
    only-one c.args.values.now c.tag_number-number.result
    (omega (arith, eqb-false (length c.args.values.now) 0 (sym c.is_empty.ensures ∙ c.if-is_empty.false)))
    c.tag_number-number.ensures (sym c.all_numbered.ensures ∙ c.if-all_numbered.true)

pub returns-else-all_numbered : goal.returns-else-all_numbered
returns-else-all_numbered c =
    several c.args.values.now c.tag_number-number.result
    (omega (arith, eqb-false (length c.args.values.now) 0 (sym c.is_empty.ensures ∙ c.if-is_empty.false)))
    c.tag_number-number.ensures (sym c.all_numbered.ensures ∙ c.if-all_numbered.false)
