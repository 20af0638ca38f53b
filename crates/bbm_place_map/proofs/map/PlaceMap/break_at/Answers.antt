use Rattle.bbm_place_map.proofs.Common.{refl, arith, sym, ap, ◌∙◌, Broken, at_index, None, entry_at, place_entry}
use Rattle.bbm_place_map.proofs.Blank.{no_entry}
use Rattle.bbm_place_map.proofs.Clearing.{fits_put, place_marked, value_put}
use Rattle.bbm_place_map.specs.Map.{marks_at, IsPosition}
use Rattle.bbm_place_map.proofs.map.PlaceMap.break_at.Goals as goal

pub break_over-requires-clause-within : goal.break_over-requires-clause-within
unfolding IsPosition
break_over-requires-clause-within c =
    let self = c.args.self.now in
    omega (arith, c.value_number-j.ensures.within, self.counted, self.paged)

pub break_over-requires-clause-whole : goal.break_over-requires-clause-whole
unfolding IsPosition marks_at
break_over-requires-clause-whole c =
    let self = c.args.self.now in
    sym (ap (at_index None (entry_at self.broken)) c.value_number-j.ensures.index) ∙ no_entry (place_entry self c.args.position.now.place) c.requires.whole

pub invariant_of-self : goal.invariant_of-self
unfolding IsPosition
invariant_of-self c =
    fits_put c.args.self.now c.put_value.new.values c.put_value.ensures.len c.value_number-j.ensures.index c.break_over.ensures.2

pub returns : goal.returns
returns c =
    let self = c.args.self.now in
    let e = c.break_over.ensures in
    record {
      written = (Broken e.0, e.1, place_marked self _ refl c.value_number-j.ensures.index e.2);
      put = value_put self _ refl c.value_number-j.ensures.index c.put_value.ensures.values;
    }
