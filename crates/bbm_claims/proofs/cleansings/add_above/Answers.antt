use Rattle.bbm_claims.proofs.Common.{notes_of, ends_now, tells, Kept}
use Rattle.bbm_rules.proofs.Common.{List, Noted, map, reverse, sym, ◌∙◌, ◌||◌, ap, list_any}
use Rattle.bbm_rules.specs.Notes.{topped}
use Rattle.bbm_claims.proofs.Cleansed.{none_ends}
use Rattle.bbm_claims.proofs.cleansings.add_above.Goals as goal

pub returns-then-not-is_dsb : goal.returns-then-not-is_dsb
returns-then-not-is_dsb c = λ a p n.
    none_ends c.args.header.now a p n c.args.claims.now c.args.newest.now (map topped (notes_of (reverse c.args.log.now)))
    (tells c.args.kept.now.items a p n) (sym c.is_dsb.ensures ∙ c.if-not-is_dsb.true)

pub returns : goal.returns
returns c = λ a p n.
    c.in_ok-add_claims.ensures a p n
    ∙ ap (λ (h : List Noted). tells c.args.kept.now.items a p n
    || list_any (ends_now c.args.header.now c.args.newest.now h a p n) c.args.claims.now)
    (ap (λ (ks : List Kept). notes_of (reverse ks)) c.deref.ensures.value ∙ c.in_ok-tops.ensures)
