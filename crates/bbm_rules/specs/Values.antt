-- The values of a place, and which of them a PE may still read. A history is newest first.
-- Source: project's own choice, but where another is named.
use Rattle.std.specs.Prelude.{ℕ, Bool, false, not, ◌&&◌, ◌==◌, List, [], ◌∷◌, filter, if◌then◌else◌}
use Rattle.bbm_barriers.specs.Options.{is_non, publishes}
use Rattle.bbm_rules.specs.Prelude.{Barrier, Heading, Event, Init, Write, Dsb}
use Rattle.bbm_rules.specs.Lists.{among, any, with_number}
use Rattle.bbm_rules.specs.Places.{page_of}

-- Value: the value of the last write of the place since the last init of its page, else 0.
abbrev pub value_of : List Event → ℕ → ℕ
value_of [] place = 0
value_of (Write pe at value ∷ h) place = if at == place then value else value_of h place
value_of (Init pe page ∷ h) place = if page == page_of place then 0 else value_of h place
value_of (_ ∷ h) place = value_of h place

-- the places that were ever written, each once; every other place has value 0 and holds nothing
abbrev pub written_places : List Event → List ℕ
written_places [] = []
written_places (Write pe at value ∷ h) = with_number at (written_places h)
written_places (_ ∷ h) = written_places h

-- those of one page
abbrev pub places_in : List Event → ℕ → List ℕ
places_in h page = filter (λ place. page_of place == page) (written_places h)

module _ (heading : Heading) where
  -- whether a DSB of q publishes its earlier writes to p; under `cnp` one of the non-shareable domain publishes nothing
  abbrev pub publishes_to : Barrier → ℕ → ℕ → Bool
  publishes_to dsb q p = publishes dsb q heading.pes p && not (heading.cnp && is_non dsb.domain)

  -- Published: a write of the PE q is published to p where a later DSB of q publishes to p. Here `later` are the
  -- events after the write, in any order.
  -- Source: Arm ARM (DDI 0487), "Memory barriers", "Data Synchronization Barrier".
  abbrev pub publishes_for : ℕ → ℕ → Event → Bool
  publishes_for q p (Dsb pe dsb) = pe == q && publishes_to dsb pe p
  publishes_for q p _ = false

  abbrev pub published : ℕ → ℕ → List Event → Bool
  published q p later = any (publishes_for q p) later

  -- Readable values of a place at p: of the values that it had since the last init of its page, the first zero
  -- among them, those over which no later value is published to p. Newest first: after a published one nothing
  -- older is readable. `later` are the events after h.
  -- Source: Arm ARM (DDI 0487), "Translation table walk coherency", read as: a walk may see any value that no
  -- published later one replaced.
  abbrev pub readable_before : List Event → List Event → ℕ → ℕ → List ℕ
  readable_before later [] place p = 0 ∷ []
  readable_before later (Write q at value ∷ h) place p = if at == place
      then value ∷ (if published q p later then [] else readable_before (Write q at value ∷ later) h place p)
      else readable_before (Write q at value ∷ later) h place p
  readable_before later (Init q page ∷ h) place p =
      if page == page_of place then 0 ∷ [] else readable_before (Init q page ∷ later) h place p
  readable_before later (e ∷ h) place p = readable_before (e ∷ later) h place p

  abbrev pub is_readable : List Event → ℕ → ℕ → ℕ → Bool
  is_readable h place p value = among value (readable_before [] h place p)
