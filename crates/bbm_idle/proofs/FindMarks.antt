-- The marks of a log after one more event.
use Rattle.bbm_idle.proofs.Common.{idle_marks}
use Rattle.bbm_rules.proofs.Common.{◌≡◌, Bool, List, [], ◌∷◌, ◌++◌, reverse, sym, ap, ◌∙◌, reverse-append, Heading}
use Rattle.bbm_rules.proofs.Common.{Event}
use Rattle.bbm_idle.specs.Idle.{is_idle}

pub marks_more : (heading : Heading) (e : Event) (h longer : List Event) (mark : Bool) (old new : List Bool) → e ∷ h ≡ longer
    → old ≡ reverse (idle_marks heading h) → mark ≡ is_idle heading h e → new ≡ old ++ mark ∷ []
    → new ≡ reverse (idle_marks heading longer)
marks_more heading e h longer mark old new more before told pushed =
    pushed
    ∙ ap (λ (ms : List Bool). ms ++ mark ∷ []) before
    ∙ ap (λ (m : Bool). reverse (idle_marks heading h) ++ m ∷ []) told
    ∙ sym (reverse-append (is_idle heading h e ∷ []) (idle_marks heading h))
    ∙ ap (λ (es : List Event). reverse (idle_marks heading es)) more
