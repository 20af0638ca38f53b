-- What a kept history that stands for a history tells of it.
use Rattle.bbm_rules.proofs.Common.{◌≡◌, ℕ, List, count_by, ◌∙◌, ap, Heading, Event, first_broken, Trust, Noted}
use Rattle.bbm_rules.proofs.Common.{events_of, is_restless, written_places}
use Rattle.bbm_rules.specs.Broken.{broken, rules}
use Rattle.bbm_rules.specs.Phases.{restless_of}
use Rattle.bbm_oracle_trees.specs.Past.{Past, notes}
use Rattle.bbm_oracle_trees.specs.HistoryStandsFor.{StandsFor}

abbrev count_at : Heading → Trust → List Noted → List Event → ℕ
count_at heading trust n h = count_by (is_restless heading trust n) (written_places h)

pub restless_stands : (past : Past) (heading : Heading) (h : List Event) → StandsFor past heading h
    → count_at past.heading past.trust (notes past) (events_of (notes past)) ≡ restless_of heading past.trust h
unfolding restless_of
restless_stands past heading h s =
    ap (λ (es : List Event). count_at past.heading past.trust (notes past) es) s.events_are
    ∙ ap (λ (g : Heading). count_at g past.trust (notes past) h) s.heading_is
    ∙ ap (λ (n : List Noted). count_at heading past.trust n h) s.notes_are

pub broken_stands : (past : Past) (heading : Heading) (h : List Event) → StandsFor past heading h → (e : Event)
    → first_broken past.heading past.trust (notes past) e rules ≡ broken heading past.trust h e
unfolding broken
broken_stands past heading h s e =
    ap (λ (g : Heading). first_broken g past.trust (notes past) e rules) s.heading_is
    ∙ ap (λ (n : List Noted). first_broken heading past.trust n e rules) s.notes_are
