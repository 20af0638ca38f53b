use Rattle.bbm_claims.proofs.Common.{note_of, notes_of, ends_now, tells, Cleansing}
use Rattle.bbm_rules.proofs.Common.{List, Bool, ◌||◌, length, map, reverse, ◌∙◌, ap, arith, list_any, length-reverse}
use Rattle.bbm_rules.specs.Notes.{topped}
use Rattle.bbm_claims.proofs.Cleansed.{tell_next}
use Rattle.bbm_oracle_patterns.proofs.KeptNotes.{length_events}
use Rattle.bbm_claims.proofs.by_claims.ByClaimsEvidence.after.Goals as goal

pub returns-clause-taken : goal.returns-clause-taken
returns-clause-taken c = (
  (λ a p n.
      c.in_ok-add_completed.ensures a p n
      ∙ ap (λ (b : Bool). b || list_any (ends_now c.args.header.now c.args.newest.now.event
      (notes_of (reverse c.args.log.now)) a p n)
      c.args.self.now.claims.now)
      (ap (λ (xs : List Cleansing). tells xs a p n) (c.in_ok-cleansings.ensures ∙ c.deref.ensures.value)
      ∙ c.requires.0 a p n)
      ∙ tell_next c.args.header.now a p n c.args.self.now.claims.now (note_of (length c.args.log.now) c.args.newest.now)
      (notes_of (reverse c.args.log.now))),
  c.in_ok-tags.ensures.kept c.requires.1,
  c.in_ok-tags.ensures.spans,
  omega (arith, length_events (reverse c.args.log.now), length-reverse c.args.log.now),
  (λ a p n.
      c.in_ok-add_above.ensures a p n
      ∙ ap (λ (b : Bool). b || list_any (ends_now c.args.header.now c.args.newest.now.event
      (map topped (notes_of (reverse c.args.log.now))) a p n) c.args.self.now.claims.now)
      (ap (λ (xs : List Cleansing). tells xs a p n) (c.in_ok-above.ensures ∙ c.deref-2.ensures.value)
      ∙ c.requires.4 a p n)
      ∙ tell_next c.args.header.now a p n c.args.self.now.claims.now
      (topped (note_of (length c.args.log.now) c.args.newest.now))
      (map topped (notes_of (reverse c.args.log.now)))),
)
