-- The places that were written in a history whose events fit the header.
use Rattle.bbm_rules.proofs.Common.{◌≡◌, ℕ, ◌%◌, ◌^◌, ◌&&◌, ◌==◌, nat_lt, List, [], ◌∷◌, subst, inl, inr, and_from}
use Rattle.bbm_rules.proofs.Common.{and_parts, eq-eqb, eqb-true, fits_heading, is_pe, is_place, is_value, Event, Write}
use Rattle.bbm_rules.proofs.Common.{Patterns, every, events_of, page_of, places_in, value_of, written_places, In}
use Rattle.bbm_rules.proofs.Common.{from_filter, to_filter, true}
use Rattle.bbm_events.specs.Heading.{Heading}
use Rattle.bbm_rules.proofs.TreeLaw.{written_by}
use Rattle.bbm_replay_trees.specs.Told.{AllFit, is_at, notes}
use Rattle.bbm_lemmas.proofs.Words.{in_with}
use Rattle.bbm_tree_index.proofs.Places.{at_page}

module _ (heading : Heading) where
  -- a written place is an address of a descriptor
  aligned : (h : List Event) → AllFit heading h → (place : ℕ) → In (written_places h) place → (place % 8 == 0) ≡ true
  aligned [] fit place i = absurd i
  aligned (Write pe at value ∷ h) fit place i =
      let parts = and_parts (fits_heading heading (Write pe at value)) (every (fits_heading heading) h) fit in
      elim (in_with at (written_places h) place i) [
        | inl e ↦
            (let one = (and_parts (is_pe heading pe && is_place at) (is_value value) parts.0).0 in
            let two = (and_parts (is_pe heading pe) (is_place at) one).1 in
            subst (λ (x : ℕ). (x % 8 == 0) ≡ true) e (and_parts (nat_lt at (2 ^ 48)) (at % 8 == 0) two).1)
        | inr k ↦ aligned h parts.1 place k
      ]
  aligned (e ∷ h) fit place i = aligned h (and_parts (fits_heading heading e) (every (fits_heading heading) h) fit).1 place i

  pub is_at_page : (h : List Event) → AllFit heading h → (page place : ℕ) → In (written_places h) place
      → page_of place ≡ page → is_at page place ≡ true
  is_at_page h fit page place i e =
      and_from (page_of place == page) (place % 8 == 0) (eq-eqb (page_of place) page e) (aligned h fit place i)

  -- the places of a page, and its addresses of descriptors whose value isn't 0
  module _ (h : List Event) (events : events_of (notes heading h) ≡ h) (page place : ℕ) where
    pub at_place : AllFit heading h → In (places_in (events_of (notes heading h)) page) place → is_at page place ≡ true
    at_place fit i =
        let r = from_filter (λ (x : ℕ). page_of x == page) (written_places (events_of (notes heading h))) place i in
        is_at_page h fit page place (subst (λ es. In (written_places es) place) events r.0)
        (eqb-true (page_of place) page r.1)

    pub to_place : is_at page place ≡ true → (value_of (events_of (notes heading h)) place ≡ 0 → ⊥)
        → In (places_in (events_of (notes heading h)) page) place
    to_place at some =
        to_filter (λ (x : ℕ). page_of x == page) (written_places (events_of (notes heading h))) place
        (written_by heading Patterns (notes heading h) place (events_of (notes heading h)) some)
        (eq-eqb (page_of place) page (at_page page place at))
