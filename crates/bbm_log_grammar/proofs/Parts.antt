-- Fields that follow others of a line: the words of a header, and the label of an event.
use Rattle.bbm_log_grammar.proofs.Common.{◌≡◌, ℕ, List, [], ◌∷◌, ◌++◌, ap, sym, ◌∙◌, Option, Some, None, append_assoc}
use Rattle.bbm_log_grammar.proofs.Common.{append-nil, Event, joined, Fields, event_fields}
use Rattle.std.specs.Prelude.{codes, decimal}
use Rattle.bbm_regimes.specs.declared.regime.World.{World}
use Rattle.bbm_regimes.specs.declared.regime.World.TheVariants.{Hyp, Kernel}
use Rattle.bbm_events.specs.Lines.{header_fields, label_fields}
use Rattle.bbm_log_grammar.specs.Ahead.{label_part}
use Rattle.bbm_log_grammar.specs.Left.{spaced}
use Rattle.bbm_events.proofs.ItemLines.{event_fields_some}

joined_more : (piece : List ℕ) (pieces more : Fields) → joined (piece ∷ pieces) ++ spaced more ≡ joined ((piece ∷ pieces) ++ more)
joined_more piece [] [] = append-nil piece
joined_more piece [] (text ∷ more) = ap (λ (x : List ℕ). piece ++ 32 ∷ x) (joined_more text [] more)
joined_more piece (next ∷ pieces) more =
    append_assoc piece (32 ∷ joined (next ∷ pieces)) (spaced more)
    ∙ ap (λ (x : List ℕ). piece ++ 32 ∷ x) (joined_more next pieces more)

-- what stands behind the numbers of a header
pub header_more : (version pes : ℕ) (world : World) (line : List ℕ) (after : Fields)
    → line ≡ joined (codes "bbmlog" ∷ decimal version ∷ header_fields pes world [])
    → line ++ spaced after ≡ joined (codes "bbmlog" ∷ decimal version ∷ header_fields pes world after)
header_more version pes (Hyp world) line after e =
    ap (λ (x : List ℕ). x ++ spaced after) e
    ∙ joined_more (codes "bbmlog") (decimal version ∷ header_fields pes (Hyp world) []) after
header_more version pes (Kernel world) line after e =
    ap (λ (x : List ℕ). x ++ spaced after) e
    ∙ joined_more (codes "bbmlog") (decimal version ∷ header_fields pes (Kernel world) []) after

-- the fields of an event and of its label
pub labelled : (event : Event) (label : Option (List ℕ))
    → joined (event_fields event) ++ label_part label ≡ joined (event_fields event ++ label_fields label)
labelled event None = append-nil (joined (event_fields event)) ∙ ap joined (sym (append-nil (event_fields event)))
labelled event (Some label) =
    let some = event_fields_some event in
    ap (λ (fs : Fields). joined fs ++ 32 ∷ 64 ∷ label) some.2
    ∙ ap (λ (x : List ℕ). joined (some.0 ∷ some.1) ++ 32 ∷ x) (sym (append-nil (64 ∷ label)))
    ∙ joined_more some.0 some.1 ((64 ∷ label) ∷ [])
    ∙ ap (λ (fs : Fields). joined (fs ++ ((64 ∷ label) ∷ []))) (sym some.2)
