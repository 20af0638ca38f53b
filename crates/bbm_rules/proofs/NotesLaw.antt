-- The annotated history has the events of the history, ends in that of each older part, and has the notes that the
-- definitions give.
use Rattle.bbm_rules.proofs.Common.{◌≡◌, suc, List, [], ◌∷◌, ◌++◌, length, refl, sym, ◌∙◌, ap, Trust, cover_at, note}
use Rattle.bbm_rules.proofs.Common.{noted, Noted, events_of}
use Rattle.bbm_events.specs.Heading.{Heading}
use Rattle.bbm_events.specs.declared.event.Event.{Event}
use Rattle.bbm_rules.proofs.OpenLaw.{head_of, tail_of}
use Rattle.bbm_rules.specs.Covers.{top_at}

module _ (heading : Heading) (trust : Trust) where
  pub events_noted : (h : List Event) → events_of (noted heading trust h) ≡ h
  events_noted [] = refl
  events_noted (e ∷ h) = ap (λ es. e ∷ es) (events_noted h)

  pub ends_in_older : (newer older : List Event) → (marks : List Noted)
      × (noted heading trust (newer ++ older) ≡ marks ++ noted heading trust older) × (events_of marks ≡ newer)
  ends_in_older [] older = ([], refl, refl)
  ends_in_older (e ∷ newer) older =
      let n : Noted = note heading trust (noted heading trust (newer ++ older)) e in
      let r = ends_in_older newer older in
      (n ∷ r.0, ap (λ (xs : List Noted). n ∷ xs) r.1, ap (λ (es : List Event). e ∷ es) r.2)

  pub older_is_noted : (h : List Event) (newer older : List Noted) (n : Noted)
      → noted heading trust h ≡ newer ++ n ∷ older
      → (older ≡ noted heading trust (events_of older)) × (n ≡ note heading trust older n.event)
  older_is_noted [] [] older n split = cc
  older_is_noted [] (m ∷ newer) older n split = cc
  older_is_noted (e ∷ h) [] older n split =
      let first : note heading trust (noted heading trust h) e ≡ n
      = ap (head_of (note heading trust (noted heading trust h) e)) split in
      let rest : noted heading trust h ≡ older = ap tail_of split in (
        sym rest ∙ ap (noted heading trust) (sym (events_noted h) ∙ ap events_of rest),
        sym first ∙ (ap (λ (x : List Noted). note heading trust x e) rest
            ∙ ap (note heading trust older) (ap (λ (x : Noted). x.event) first)),
      )
  older_is_noted (e ∷ h) (m ∷ newer) older n split = older_is_noted h newer older n (ap tail_of split)

  pub notes_given : (h : List Event) (newer older : List Noted) (n : Noted)
      → noted heading trust h ≡ newer ++ n ∷ older → (older ≡ noted heading trust (events_of older))
      × (n.covers ≡ cover_at heading trust older n.event) × (n.position ≡ suc (length older))
  notes_given h newer older n split =
      let r = older_is_noted h newer older n split in
      (r.0, ap (λ (x : Noted). x.covers) r.1, ap (λ (x : Noted). x.position) r.1)

  pub tops_given : (h : List Event) (newer older : List Noted) (n : Noted)
      → noted heading trust h ≡ newer ++ n ∷ older → n.tops ≡ top_at heading trust older n.event
  tops_given h newer older n split =
      let r = older_is_noted h newer older n split in ap (λ (x : Noted). x.tops) r.1
