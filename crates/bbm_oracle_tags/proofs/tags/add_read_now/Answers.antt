use Rattle.bbm_rules.proofs.Common.{◌∷◌, sym, ◌∙◌, inl, inr, or_cases, reads}
use Rattle.bbm_oracle_tags.specs.HeldTagSets.{was_read}
use Rattle.bbm_oracle_tags.proofs.MomentLemmas.{reads-by}
use Rattle.bbm_oracle_tags.proofs.TagLemmas.{was-read-before}
use Rattle.bbm_oracle_tags.proofs.tags.add_read_now.Goals as goal

pub returns-in_ok-add_readings-clause-added : goal.returns-in_ok-add_readings-clause-added
returns-in_ok-add_readings-clause-added c = λ p h m kept g read.
    elim (or_cases (reads c.args.header.now (c.args.event.now ∷ h) p g c.args.root)
    (was_read c.args.header.now p c.args.root g h) read) [
      | inl now ↦ c.in_ok-add_readings.ensures.added g
          (reads-by c.args.header.now (c.args.event.now ∷ h) p c.args.moment.now c.deref.result.now g c.args.root m
          (c.deref.ensures.value ∙ c.in_ok-readings.ensures) ∙ now)
      | inr before ↦ c.in_ok-add_readings.ensures.kept g (kept g before)
    ]

pub returns-else-changes_readings-clause-added : goal.returns-else-changes_readings-clause-added
returns-else-changes_readings-clause-added c = λ p h m kept g read.
    kept g (was-read-before c.args.header.now p c.args.root g c.args.event.now h
    (sym c.changes_readings.ensures ∙ c.if-changes_readings.false) read)
