-- One more event in the notes.
use Rattle.bbm_rules.proofs.Common.{◌≡◌, ℕ, suc, List, ◌∷◌, length, sym, ◌∙◌, ap, fun_ext, Cover, Heading, Event, Trust}
use Rattle.bbm_rules.proofs.Common.{cover_at, note, noted, Noted, events_of}
use Rattle.bbm_rules.specs.Covers.{top_at}
use Rattle.bbm_oracle_patterns.specs.Kept.{cover_in, notes_of}
use Rattle.bbm_oracle_patterns.specs.declared.kept.Covering.TheVariants.{Whole, Top}
use Rattle.bbm_oracle_patterns.specs.declared.kept.Kept.{Kept}
use Rattle.bbm_oracle_trees.specs.Past.{Past, notes}
use Rattle.bbm_oracle_trees.specs.HistoryStandsFor.{StandsFor}
use Rattle.bbm_oracle_trees.specs.Views.{cover_for}
use Rattle.bbm_oracle_patterns.proofs.KeptNotes.{length_notes}
use Rattle.bbm_oracle_trees.proofs.Covering.{top_covers, whole_covers}

-- the note of a kept event whose covers and top covers are those of the definition
pub noted_more : (heading : Heading) (trust : Trust) (kept : List Kept) (k : Kept) →
    ((place : ℕ) → cover_in k.covers.items place ≡ cover_for heading trust (notes_of kept) Whole k.event place) →
    ((place : ℕ) → cover_in k.tops.items place ≡ cover_for heading trust (notes_of kept) Top k.event place) →
    notes_of (k ∷ kept) ≡ note heading trust (notes_of kept) k.event ∷ notes_of kept
noted_more heading trust kept k covers tops =
    let h : List Noted = notes_of kept in
    let all_covers : cover_in k.covers.items ≡ cover_at heading trust h k.event =
    fun_ext (λ place. covers place ∙ whole_covers heading trust h k.event place) in
    let all_tops : cover_in k.tops.items ≡ top_at heading trust h k.event =
    fun_ext (λ place. tops place ∙ top_covers heading trust h k.event place) in
    let with_notes : (ℕ → Cover) → (ℕ → Cover) → ℕ → List Noted =
    λ c t n. record { event = k.event; covers = c; tops = t; position = suc n } ∷ h in
    ap (λ (c : ℕ → Cover). with_notes c (cover_in k.tops.items) (length kept)) all_covers
    ∙ ap (λ (t : ℕ → Cover). with_notes (cover_at heading trust h k.event) t (length kept)) all_tops
    ∙ ap (λ (n : ℕ). with_notes (cover_at heading trust h k.event) (top_at heading trust h k.event) n)
    (sym (length_notes kept))

-- what stands for a history stands with this note for the history with the event
pub stands_more : (old new : Past) (event : Event) → new.heading ≡ old.heading → new.trust ≡ old.trust →
    notes new ≡ note old.heading old.trust (notes old) event ∷ notes old →
    (heading : Heading) (h : List Event) → StandsFor old heading h → StandsFor new heading (event ∷ h)
stands_more old new event same trusted more heading h s = record {
  heading_is = same ∙ s.heading_is;
  events_are = ap (λ (n : List Noted). events_of n) more ∙ ap (λ (es : List Event). event ∷ es) s.events_are;
  notes_are =
      more
      ∙ ap (λ (g : Heading). note g old.trust (notes old) event ∷ notes old) s.heading_is
      ∙ ap (λ (n : List Noted). note heading old.trust n event ∷ n) s.notes_are
      ∙ ap (λ (t : Trust). noted heading t (event ∷ h)) (sym trusted);
}
