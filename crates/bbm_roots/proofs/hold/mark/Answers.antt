use Rattle.bbm_roots.proofs.Common.{tag_self, ◌≡◌, ◌+◌, ◌∙◌, ◌&&◌, ◌||◌, nat_eq, not, take, arith, ap, sym, cond, ℕ}
use Rattle.bbm_roots.proofs.Common.{List, Bool, true, false, list_any, Tag, hold_in, left_in, has_reading, is_reading, is_other}
use Rattle.bbm_roots.proofs.Common.{is_of_tag, same_tag, Reading, or_right}
use Rattle.bbm_roots.proofs.Entries.{marked-step}
use Rattle.bbm_roots.proofs.Tests.{any-next, any-front, none-front}
use Rattle.bbm_roots.proofs.hold.mark.Goals as goal

-- what an element of the list passes
there : (test : Reading → Bool) (xs : List Reading) (i : ℕ) (x : Reading) → list_any test (take (i + 1) xs) ≡ (list_any test (take i xs) || test x) →
    test x ≡ true → list_any test xs ≡ true
there test xs i x next e = any-front test (i + 1) xs (next ∙ or_right (list_any test (take i xs)) (test x) e)

other-there : (y : Reading) (g : Tag) (r : ℕ) → same_tag y.tag g ≡ true → nat_eq y.root r ≡ false → is_other g r y ≡ true
other-there y g r same here = ap (λ (b : Bool). b && not (nat_eq y.root r)) same ∙ ap not here

-- one more reading: what is held was held before, or is one of the readings
only-step : (same here now at old seen : Bool) → (now ≡ true → (old || seen) ≡ true) →
    cond same (here && (now || at)) now ≡ true → (old || (seen || (same && here))) ≡ true
only-step same here now at old seen = grind (arith)

left-step : (old same : Bool) → (same ≡ true → old ≡ false) → (old && not same) ≡ old
left-step old same none = grind (arith)

pub mark_one-requires : goal.mark_one-requires
mark_one-requires c =
    let y : Reading = record { tag = c.reading.inside.tag; root = c.reading.inside.root } in
    let i = c.loop-reading.reading-index in
    let readings = c.args.readings.now in
    let is = rw (← c.reading.view_is) at c.reading-item.is in
    c.loop-reading.invariant.entries y.tag
    ∙ c.requires y.tag
    (there (is_of_tag y.tag) readings i y (any-next (is_of_tag y.tag) readings i y (omega arith) is) (tag_self y.tag))

pub loop-reading-preserved : goal.loop-reading-preserved
loop-reading-preserved c =
    let y : Reading = record { tag = c.reading.inside.tag; root = c.reading.inside.root } in
    let i = c.loop-reading.reading-index in
    let readings = c.args.readings.now in
    let is = rw (← c.reading.view_is) at c.reading-item.is in
    let old = c.args.holds.now in
    record {
      bits = λ calm g r p.
          let other = λ (same : same_tag y.tag g ≡ true) (here : nat_eq y.root r ≡ false).
          calm.others g r (there (is_other g r) readings i y (any-next (is_other g r) readings i y (omega arith) is)
          (other-there y g r same here)) in
          let next = any-next (is_reading g r) readings i y (omega arith) is in
          rw (c.mark_one.ensures.bits g r p, c.loop-reading.invariant.bits calm g r p, next)
          (marked-step (same_tag y.tag g) (nat_eq y.root r) (hold_in old g r p) (nat_eq p c.args.pe)
          (has_reading g r (take i readings)) (λ same here. (other same here).1 p)
          (λ same here. none-front (is_reading g r) i readings (other same here).0));
      left = λ calm g r p.
          let tag = λ (same : same_tag y.tag g ≡ true).
          calm.none_left g r p (there (is_of_tag g) readings i y (any-next (is_of_tag g) readings i y (omega arith) is) same) in
          rw (c.mark_one.ensures.left g r p, c.loop-reading.invariant.left calm g r p)
          (left-step (left_in old g r p) (same_tag y.tag g) tag);
      only = λ g r p e.
          ap (λ (b : Bool). hold_in old g r p || b) (any-next (is_reading g r) readings i y (omega arith) is)
          ∙ only-step (same_tag y.tag g) (nat_eq y.root r) (hold_in c.loop-reading.holds g r p) (nat_eq p c.args.pe)
          (hold_in old g r p) (has_reading g r (take i readings)) (c.loop-reading.invariant.only g r p)
          (sym (c.mark_one.ensures.bits g r p) ∙ e);
      entries = λ g. c.mark_one.ensures.entries g ∙ c.loop-reading.invariant.entries g;
    }
