use Rattle.bbm_unmapped.proofs.Common.{Covers, maps, number_in, pages_of, value_at}
use Rattle.bbm_rules.proofs.Common.{◌≡◌, ℕ, List, ◌+◌, ◌*◌, ◌%◌, ◌∙◌, ap, arith, page_of, subst, sym, true}
use Rattle.bbm_place_map.specs.Map.{IsPosition}
use Rattle.bbm_unmapped.proofs.Coverings.{PlaceOver, covers_places, covers_step}
use Rattle.bbm_unmapped.proofs.unmapped.Unmapped.cover_listed.Goals as goal

pub cover_value-requires-clause-table : goal.cover_value-requires-clause-table
unfolding IsPosition
cover_value-requires-clause-table c = let first = c.first_position-position in
    let here : c.args.listed.now.page ≡ page_of first.result.place = omega (
      arith,
      first.ensures.place,
      first.ensures.first,
    ) in
    ap (λ (ps : List ℕ). number_in ps c.args.listed.now.page) (c.loop-place.invariant.pages ∙ sym c.requires)
    ∙ ap (number_in (pages_of c.args.map.now)) here ∙ first.ensures.position

pub loop-place-preserved : goal.loop-place-preserved
loop-place-preserved c = let listed = c.args.listed.now in let j = c.loop-place.place in let value = value_at
    c.args.map.now in
    let read : c.value_from-value.result ≡ value (listed.page + 8 * j) = c.value_from-value.ensures
    ∙ ap (λ (a : ℕ). value (a + 8 * j)) c.first_position-position.ensures.place in
    covers_step (PlaceOver c.args.map.now listed) j c.args.self.now c.loop-place.self c.cover_value.new.self
    c.loop-place.invariant
    (subst (λ (v : ℕ). Covers (λ table p. (table ≡ listed.page) × (maps listed.standing.kind listed.standing.level v p
    ≡ true))
    c.loop-place.self c.cover_value.new.self) read c.cover_value.ensures)

pub returns : goal.returns
returns c = let first = c.first_position-position in
    covers_places c.args.map.now c.args.listed.now c.loop-place.place c.args.self.now c.loop-place.self
    (subst (λ (a : ℕ). a % 4096 ≡ 0) first.ensures.place first.ensures.first)
    (omega (arith, c.loop-place-test.false, c.loop-place.auto.place-end)) c.loop-place.invariant
