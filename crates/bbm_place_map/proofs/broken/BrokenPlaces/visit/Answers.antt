use Rattle.bbm_place_map.proofs.Common.{◌≡◌, [], refl, arith, nil_from_length, none-some, ap, sym, ◌∙◌, List, None, Entry}
use Rattle.bbm_place_map.proofs.Completed.{entries_few, visited_each, visited_lost, visited_told}
use Rattle.bbm_place_map.proofs.Doing.{does_at, does_none}
use Rattle.bbm_place_map.proofs.Held.{entry_by, sound_seated}
use Rattle.bbm_place_map.proofs.Listing.{listed_begun}
use Rattle.bbm_place_map.proofs.Positions.{seats_same}
use Rattle.bbm_place_map.proofs.Resting.{stays_kept}
use Rattle.bbm_place_map.proofs.Rounds.{none_inside, seats_by}
use Rattle.bbm_place_map.proofs.broken.BrokenPlaces.visit.Goals as goal

pub returns-then-broken-eq0 : goal.returns-then-broken-eq0
returns-then-broken-eq0 c =
    let list = c.self.inside.entries.list.items in
    let by = c.args.barrier.now in
    let none : list ≡ [] = nil_from_length list (omega (arith, c.len-broken.ensures, c.if-broken-eq0.true)) in
    rw (← c.self.view_is) (record {
      pages = refl;
      seats = seats_same list;
      order = seats_by by.effect list list refl (λ m. refl);
      each = λ j.
          let gone : entry_by list j ≡ None = ap (λ (es : List Entry). entry_by es j) none in
          does_at by.effect by (entry_by list j) None (entry_by list j) None gone gone (does_none by.effect by);
      lost = λ page inside. absurd (none_inside c.clear.new.self.items c.clear.ensures.items page inside);
      told = λ j page left. absurd (none-some page (sym (stays_kept (entry_by list j)) ∙ left));
    })

pub invariant_of-self : goal.invariant_of-self
invariant_of-self c = (
  c.self.invariant.0,
  c.self.invariant.1,
  omega (arith, c.self.invariant.2, c.clear.ensures.capacity),
)

pub visit-requires-clause-listed : goal.visit-requires-clause-listed
visit-requires-clause-listed c =
    let self = c.self.inside in
    let b = c.begin.ensures in
    listed_begun self.work c.begin.new.work c.args.barrier.now.n c.len-broken.result self.entries.cells.items self.entries.list.items b.some b.pes
    (omega (arith, c.len-broken.ensures)) b.kept c.self.invariant.1

pub visit-requires-clause-room : goal.visit-requires-clause-room
visit-requires-clause-room c =
    omega (arith, c.clear.ensures.len, c.clear.ensures.capacity, c.self.invariant.2, entries_few c.self.invariant.0)

pub invariant_of-self-2 : goal.invariant_of-self-2
invariant_of-self-2 c =
    let e = c.visit.ensures in (
      sound_seated e.visited.visited.sound c.self.invariant.0,
      e.listed,
      omega (arith, c.self.invariant.2, c.clear.ensures.capacity, e.visited.visited.space),
    )

pub returns : goal.returns
returns c =
    let by = c.args.barrier.now in
    let e = c.visit.ensures.visited in
    let sound = c.self.invariant.0 in
    let sound' = sound_seated e.visited.sound sound in
    rw (← c.self.view_is) (record {
      pages = refl;
      seats = e.visited.sound.seats;
      order = e.visited.seats;
      each = visited_each by sound sound' e.each;
      lost = λ page inside. visited_lost by sound sound' page (e.lost page inside);
      told = visited_told by sound sound' c.visit.new.lost.items e.told;
    })
