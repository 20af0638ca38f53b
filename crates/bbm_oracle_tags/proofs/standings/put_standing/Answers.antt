use Rattle.bbm_rules.proofs.Common.{◌≡◌, ◌∷◌, sym, ◌∙◌, ap, List, slice_get, take}
use Rattle.bbm_rules.proofs.StandingLaw.{first_standing}
use Rattle.bbm_rules.specs.RegisterValues.{Standing, standing_of}
use Rattle.bbm_oracle_tags.proofs.StandingLemmas.{newest-is, newest-there}
use Rattle.bbm_oracle_tags.proofs.standings.put_standing.Goals as goal

pub returns-in_ok-insert : goal.returns-in_ok-insert
returns-in_ok-insert c = λ pe p h own same.
    let present : c.in-Some.newest ≡ standing_of h p =
    newest-is c.args.standings.now.items c.in-Some.newest (standing_of h p)
    (ap (take 1) same ∙ first_standing p h)
    (ap (λ (xs : List Standing). slice_get xs 0) (sym c.deref.ensures.value)
    ∙ sym c.first.ensures.value ∙ sym c.copied.ensures ∙ c.in-Some.is) in
    c.in_ok-insert.ensures.items
    ∙ ap (λ (s : Standing). s ∷ c.args.standings.now.items) (c.after_write.ensures pe p h own present)

pub returns-in_default : goal.returns-in_default
returns-in_default c = λ pe p h own same.
    absurd (c.in_default.not-Some (standing_of h p)
    (c.copied.ensures ∙ c.first.ensures.value
    ∙ ap (λ (xs : List Standing). slice_get xs 0) c.deref.ensures.value
    ∙ newest-there c.args.standings.now.items (standing_of h p) (ap (take 1) same ∙ first_standing p h)))
