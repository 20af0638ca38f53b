use Rattle.bbm_place_map.proofs.Common.{◌∙◌, ◌++◌, ◌∷◌, [], List, ℕ, ap, arith, bases, marks_of, pends_of, sym, subst}
use Rattle.bbm_place_map.proofs.Common.{Entry, Placed}
use Rattle.bbm_place_map.proofs.Tracking.{entry_then, pages_then, placed_then, still_untracked, values_then}
use Rattle.bbm_place_map.specs.Map.{marks_at, pages_of, pends_at, value_at}
use Rattle.bbm_place_map.proofs.map.PlaceMap.add_page.Goals as goal

pub add-requires : goal.add-requires
unfolding pages_of
add-requires c = still_untracked c.has_room.ensures.same c.args.page c.requires

pub invariant_of-self : goal.invariant_of-self
unfolding pages_of
invariant_of-self c =
    let same = c.has_room.ensures.same in
    let longer = pages_then same c.args.page c.requires c.in-Ok.ensures.added in
    let P : List Entry → Type 0 = Placed (bases c.add.new.self) in
    record {
      counted = omega (arith, longer, c.add_values.ensures.len, c.has_room.new.self.counted);
      paged = omega (arith, longer, c.add_page.ensures.pages, c.has_room.new.self.paged);
      placed = subst P (sym c.add_page.ensures.entries) (placed_then same c.args.page c.requires c.in-Ok.ensures.added);
    }

pub returns-in-Ok-clause-pages : goal.returns-in-Ok-clause-pages
unfolding pages_of
returns-in-Ok-clause-pages c =
    c.in-Ok.ensures.added ∙ ap (λ (ps : List ℕ). ps ++ c.args.page ∷ []) c.has_room.ensures.same.pages

pub returns-in-Ok-clause-values : goal.returns-in-Ok-clause-values
unfolding value_at pages_of
returns-in-Ok-clause-values c =
    values_then c.has_room.ensures.same c.args.page c.requires c.in-Ok.ensures.added c.add_values.new.values.items c.add_values.ensures.values

pub returns-in-Ok-clause-same : goal.returns-in-Ok-clause-same
unfolding marks_at pends_at pages_of
returns-in-Ok-clause-same c =
    let entry =
    entry_then c.has_room.ensures.same c.args.page c.requires c.in-Ok.ensures.added c.add_page.new.self c.add_page.ensures.entries in
    record { marks = λ a. ap marks_of (entry a); pends = λ q a. ap (pends_of q) (entry a) }
