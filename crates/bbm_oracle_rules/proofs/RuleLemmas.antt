-- What the rules add to the questions that they ask.
use Rattle.bbm_rules.proofs.Common.{◌≡◌, ℕ, List, [], ◌∷◌, ◌++◌, reverse, Option, sym, ap, ◌∙◌, reverse-append, Heading}
use Rattle.bbm_rules.proofs.Common.{Event, Msr, Reg, Trust, least, Noted, events_of, tag_conflict}
use Rattle.bbm_oracle_rules.specs.Conflicts.{conflict_pages}

-- the conflicts after a register write
pub conflict-at : (heading : Heading) (trust : Trust) (h : List Noted) (events : List Event) (pe value : ℕ) (reg : Reg)
    (pages : List ℕ) (at : Option ℕ)
    → at ≡ least pages → pages ≡ conflict_pages heading trust (reverse (events ++ Msr pe reg value ∷ [])) pe
    → events_of h ≡ reverse events → at ≡ tag_conflict heading trust h (Msr pe reg value)
conflict-at heading trust h events pe value reg pages at i j k =
    i ∙ ap least (j ∙ ap (λ (after : List Event). conflict_pages heading trust after pe)
    (reverse-append events (Msr pe reg value ∷ []) ∙ ap (λ (es : List Event). Msr pe reg value ∷ es) (sym k)))
