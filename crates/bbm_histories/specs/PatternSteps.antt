-- What is known of publications, answers and the patterns that cleanse. An annotated history is newest first; `since`
-- is its part after the last valid write of a place. Source: project's own choice.
use Rattle.std.specs.Prelude.{◌≡◌, ℕ, false, List, ◌∷◌, ◌++◌, Some}
use Rattle.bbm_descriptor.specs.Descriptor.{is_valid}
use Rattle.bbm_rules.specs.Prelude.{Kind, Init, Write}
use Rattle.bbm_rules.specs.Held.{ValidWrite, last_valid}
use Rattle.bbm_rules.specs.Notes.{Noted}
use Rattle.bbm_rules.specs.Places.{page_of}

-- No event among these ends the last valid write of the place: none is a valid write of it, and none an init of its
-- page.
pub record Quiet (kind : Kind) (level place : ℕ) (newer : List Noted) : Type 0 where
  pub no_write : (q v : ℕ) (n : Noted) (after before : List Noted) → newer ≡ after ++ n ∷ before
      → n.event ≡ Write q place v → is_valid kind level v ≡ false
  pub no_init : (q : ℕ) (n : Noted) (after before : List Noted) → newer ≡ after ++ n ∷ before
      → n.event ≡ Init q (page_of place) → ⊥

-- the last valid write of the place stays where no event ends it
abbrev pub LastStays : Type 0
LastStays = (kind : Kind) (level place : ℕ) (newer h : List Noted) (w : ValidWrite) → Quiet kind level place newer
    → last_valid kind level place h ≡ Some w
    → last_valid kind level place (newer ++ h) ≡ Some (record { value = w.value; since = newer ++ w.since })
