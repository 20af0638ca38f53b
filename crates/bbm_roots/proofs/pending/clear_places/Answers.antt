use Rattle.bbm_roots.proofs.Common.{◌<◌, ◌≤◌, ◌∙◌, ◌&&◌, not, nat_eq, arith, ap, sym, ⊎_elim, cases_lt, tag_key}
use Rattle.bbm_roots.proofs.Common.{wait_bit, has_tag}
use Rattle.bbm_roots.proofs.Places.{at-past, at-next, at-behind}
use Rattle.bbm_roots.proofs.pending.clear_places.Goals as goal

pub loop-map-preserved : goal.loop-map-preserved
loop-map-preserved c = record {
  front = λ n g p lt.
      at-next g p (not (nat_eq p c.args.pe
      && has_tag g c.args.readings.now)) c.loop-map.waits c.args.waits.now c.loop-map.map-index
      c.map-item.result c.clear_place.new.map (omega arith)
      (c.loop-map.invariant.back c.loop-map.map-index (tag_key g) (omega arith))
      (c.clear_place.ensures g p) (λ m less. c.loop-map.invariant.front m g p less) n lt;
  back = λ n key le.
      at-behind c.loop-map.waits c.loop-map.map-index c.clear_place.new.map (omega arith) n key le
      ∙ c.loop-map.invariant.back n key (omega arith);
}

pub returns : goal.returns
returns c = λ n g p.
    let i = c.loop-map.map-index in
    let keep = not (nat_eq p c.args.pe && has_tag g c.args.readings.now) in
    ⊎_elim (λ (less : n < i). c.loop-map.invariant.front n g p less)
    (λ (past : i ≤ n).
    let none = at-past c.args.waits.now n (tag_key g) (omega arith) in
    ap (wait_bit p) (c.loop-map.invariant.back n (tag_key g) past ∙ none)
    ∙ ap (λ o. wait_bit p o && keep) (sym none))
    (cases_lt n i)
