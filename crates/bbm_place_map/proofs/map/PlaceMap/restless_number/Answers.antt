use Rattle.bbm_place_map.proofs.Bases.{numbered_in}
use Rattle.bbm_place_map.proofs.Common.{sym, ap, ◌∙◌, vec_len, bases, arith, at_index, None, Some, ℕ, entry_at}
use Rattle.bbm_place_map.proofs.Common.{entry_of, marks_of, slice_get_within}
use Rattle.bbm_place_map.proofs.Numbers.{number_from}
use Rattle.bbm_place_map.proofs.Places.{index_once}
use Rattle.bbm_place_map.proofs.Restless.{place_is}
use Rattle.bbm_place_map.specs.Map.{IsPosition, marks_at, restless_in, restless_place}
use Rattle.bbm_place_map.proofs.map.PlaceMap.restless_number.Goals as goal

pub number-requires : goal.number-requires
unfolding IsPosition
number-requires c =
    let self = c.args.self.now in
    omega (arith, c.value_number-j.ensures.within, self.counted, self.paged)

pub returns-clause-some : goal.returns-clause-some
unfolding IsPosition restless_in restless_place
returns-clause-some c = λ i is.
    let self = c.args.self.now in
    let e = number_from self.broken.entries c.value_number-j.result i (sym c.number.ensures ∙ is) in (
      slice_get_within self.broken.entries i e.0 e.1,
      place_is self i e.0 e.1
          ∙ index_once (bases self.pages) (vec_len self.values) (numbered_in self) e.0.place c.args.position.now.place c.value_number-j.result
          (self.placed i e.0 e.1 ∙ ap (λ (n : ℕ). Some n) e.2) c.value_number-j.ensures.index,
    )

pub returns-clause-none : goal.returns-clause-none
unfolding IsPosition marks_at
returns-clause-none c = λ none.
    let self = c.args.self.now in
    ap marks_of (ap (at_index None (entry_at self.broken)) c.value_number-j.ensures.index
    ∙ ap (entry_of self.broken.entries) (sym c.number.ensures ∙ none))
