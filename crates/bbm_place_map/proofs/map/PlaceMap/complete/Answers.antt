use Rattle.bbm_place_map.proofs.Common.{◌≡◌, refl, bases, index_of, None, entry_at, marks_of, Complete}
use Rattle.bbm_place_map.proofs.Common.{Completes, Contains, Some, loses, none-some}
use Rattle.std.proofs.lemmas.Bool.{eqb-false}
use Rattle.bbm_place_map.proofs.Clearing.{fits_seated}
use Rattle.bbm_place_map.proofs.Restless.{lost_place}
use Rattle.bbm_place_map.proofs.Completing.{completes_none}
use Rattle.bbm_place_map.proofs.Made.{barrier}
use Rattle.bbm_place_map.proofs.Reaching.{at_each}
use Rattle.bbm_place_map.specs.Map.{lost_pages, marks_at, pends_at}
use Rattle.bbm_place_map.proofs.map.PlaceMap.complete.Goals as goal

pub invariant_of-self : goal.invariant_of-self
invariant_of-self c =
    fits_seated c.args.self.now c.args.self.now.values c.visit.new.self refl c.visit.ensures.pages c.visit.ensures.seats

pub returns-clause-completed : goal.returns-clause-completed
unfolding marks_at pends_at
returns-clause-completed c = λ a.
    let by = barrier c.args.issuer c.args.dsb c.args.n Complete in
    (at_each (Completes by) None _ _ (completes_none by) c.visit.ensures.each (index_of (bases c.args.self.now.pages) a)).own

pub returns-clause-others : goal.returns-clause-others
unfolding marks_at pends_at
returns-clause-others c = λ q a b cover p other.
    let by = barrier c.args.issuer c.args.dsb c.args.n Complete in
    (at_each (Completes by) None _ _ (completes_none by) c.visit.ensures.each (index_of (bases c.args.self.now.pages) a)).others q
    (eqb-false q c.args.issuer other) b cover p

pub returns-clause-lost : goal.returns-clause-lost
unfolding marks_at lost_pages
returns-clause-lost c = λ page inside.
    let w = c.visit.ensures.lost page inside in
    lost_place c.args.self.now (entry_at c.visit.new.self) w.0 page w.1

pub returns-clause-told : goal.returns-clause-told
unfolding marks_at lost_pages
returns-clause-told c = λ a page.
    at_each (λ o p. loses (marks_of o) (marks_of p) ≡ Some page → Contains c.visit.new.self.lost page) None _ _
    (λ none. absurd (none-some page none)) (λ j. c.visit.ensures.told j page) (index_of (bases c.args.self.now.pages) a)
