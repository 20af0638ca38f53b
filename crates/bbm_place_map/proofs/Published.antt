-- What a DSB publishes, of a place.
use Rattle.bbm_place_map.proofs.Common.{◌≡◌, ℕ, Option, Some, None, ap, SmallVec, Core}
use Rattle.bbm_place_map.proofs.Common.{Published, Advances, Publishes, marks_of, pends_of, pends_in}
use Rattle.bbm_place_map.proofs.Common.{state_from, Entry, Barrier, Pending}
use Rattle.bbm_place_map.proofs.Common.{true, false≢true}
use Rattle.bbm_entry_state.specs.Points.{writer_at}
use Rattle.bbm_place_map.proofs.Advancing.{by_entries, column_kept}
use Rattle.bbm_place_map.proofs.Telling.{still_published}

module _ (by : Barrier) where
  unbroken : (live : Option Core) → writer_at (state_from live None) by.issuer ≡ true → ⊥
  unbroken None h = false≢true h
  unbroken (Some core) h = false≢true h

  pub whole : (live : Option Core) → Published (state_from live None) by.issuer by.dsb by.n (state_from live None)
  whole live = still_published by (state_from live None) (λ p _ wrote. absurd (unbroken live wrote))

  pub published_at : (live : Option Core) (o p : Option Entry) → Advances (Publishes by) o p
      → Published (state_from live (marks_of o)) by.issuer by.dsb by.n (state_from live (marks_of p))
  published_at live =
      by_entries (Publishes by) (λ o p. Published (state_from live (marks_of o)) by.issuer by.dsb by.n (state_from live (marks_of p))) (whole live)
      (λ e f seated h. h.1)

  pub pends_at_same : (q : ℕ) (o p : Option Entry) → Advances (Publishes by) o p → pends_of q p ≡ pends_of q o
  pends_at_same q = column_kept (pends_of q) (Publishes by) (λ e f seated h. ap (λ (v : SmallVec Pending). pends_in v.items q) h.0)
