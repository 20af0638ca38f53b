use Rattle.bbm_rules.proofs.Common.{eqb, ap, sym, ◌∙◌, List, ℕ, on_ok_weaker, with_number, page_of, written_places}
use Rattle.bbm_oracle_tags.proofs.PlaceLemmas.{filter-with}
use Rattle.bbm_oracle_tags.proofs.values.add_place.Goals as goal

pub returns-then-eq : goal.returns-then-eq
returns-then-eq c = on_ok_weaker c.put_place.result
    (λ put. λ h e. rw c.in-Write.is (put ∙ ap (λ (ps : List ℕ). with_number c.in-Write.place ps) e
    ∙ sym (filter-with (λ place. eqb (page_of place) c.args.page) c.in-Write.place (written_places h)
    (ap (λ (n : ℕ). eqb n c.args.page) (sym c.page.ensures) ∙ sym c.eq.ensures ∙ c.if-eq.true))))
    c.put_place.ensures
