use Rattle.bbm_place_map.proofs.Common.{arith, nil_from_length, subst, Published, state_from, Entry, Complete, marks_of}
use Rattle.bbm_place_map.proofs.Common.{ℕ, ◌∙◌, refl, ap, sym, bases, index_of, unwrap_or, option_map, None}
use Rattle.bbm_place_map.proofs.Common.{slice_get, Option, Publish, Advances}
use Rattle.bbm_place_map.proofs.Common.{Publishes}
use Rattle.bbm_place_map.proofs.Seated.{empty_place}
use Rattle.bbm_place_map.proofs.Clearing.{fits_seated}
use Rattle.bbm_place_map.proofs.Made.{barrier}
use Rattle.bbm_place_map.proofs.Positions.{position_place}
use Rattle.bbm_place_map.proofs.Published.{published_at, pends_at_same, whole}
use Rattle.bbm_place_map.proofs.Reaching.{at_each}
use Rattle.bbm_place_map.specs.Map.{pages_of, marks_at, pends_at, value_at, restless_in, restless_place}
use Rattle.bbm_place_map.proofs.map.PlaceMap.publish.Goals as goal

pub invariant_of-self : goal.invariant_of-self
invariant_of-self c =
    fits_seated c.args.self.now c.args.self.now.values c.visit.new.self refl c.visit.ensures.pages c.visit.ensures.seats

pub returns-clause-published : goal.returns-clause-published
unfolding marks_at
returns-clause-published c = λ live a.
    let by = barrier c.args.issuer c.args.dsb c.args.n (Publish c.publishes_to.result) in
    published_at by live _ _ (at_each (Advances (Publishes by)) None _ _ tt c.visit.ensures.each (index_of (bases c.args.self.now.pages) a))

pub returns-clause-pends : goal.returns-clause-pends
unfolding pends_at
returns-clause-pends c = λ q a.
    let by = barrier c.args.issuer c.args.dsb c.args.n (Publish c.publishes_to.result) in
    pends_at_same by q _ _ (at_each (Advances (Publishes by)) None _ _ tt c.visit.ensures.each (index_of (bases c.args.self.now.pages) a))

pub returns-clause-same : goal.returns-clause-same
unfolding pages_of restless_in restless_place value_at
returns-clause-same c =
    let old = c.args.self.now.broken.entries in
    let new = c.visit.new.self.entries in
    let seats = c.visit.ensures.order in
    record {
      values = λ a. refl;
      pages = refl;
      restless = seats.0;
      places = λ i.
          ap (λ (o : Option ℕ). unwrap_or o 0)
          (position_place (slice_get new i) ∙ ap (option_map (λ (p : ℕ × ℕ × ℕ). p.0)) (seats.1 i) ∙ sym (position_place (slice_get old i)));
    }

-- nothing is broken
pub returns-then-len-eq0-clause-published : goal.returns-then-len-eq0-clause-published
unfolding marks_at
returns-then-len-eq0-clause-published c = λ live a.
    let by = barrier c.args.issuer c.args.dsb c.args.n Complete in
    let broken = c.args.self.now.broken in
    let none = nil_from_length broken.entries (omega (arith, c.len.ensures, c.if-len-eq0.true)) in
    let P : Option Entry → Type 0 = λ o. Published (state_from live (marks_of o)) by.issuer by.dsb by.n (state_from live (marks_of o)) in
    subst P (sym (empty_place broken none (index_of (bases c.args.self.now.pages) a)))
    (whole by live)
