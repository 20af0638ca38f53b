use Rattle.bbm_roots.proofs.Common.{◌≡◌, ◌∙◌, ◌||◌, false, true, take, arith, ap, sym, or_left, or_right, tag_key, has_entry}
use Rattle.bbm_roots.proofs.Common.{is_listed, has_reading, has_tag, is_of_tag, is_reading, same_tag, subst, Reading}
use Rattle.bbm_roots.proofs.Tests.{as-same, or-split, any-next}
use Rattle.bbm_roots.proofs.hold.make_room.Goals as goal

pub loop-reading-preserved : goal.loop-reading-preserved
loop-reading-preserved c =
    let y = c.reading-item.result in
    let i = c.loop-reading.reading-index in
    let readings = c.args.readings.now in
    let new = c.list.new.by_root in
    let before = c.loop-reading.holds in
    record {
      same = λ l g r p. c.make_entry.ensures.same l g r p ∙ c.loop-reading.invariant.same l g r p;
      kept = λ all g r p e.
          c.list.ensures.kept r (tag_key g)
          (c.loop-reading.invariant.kept all g r p (sym (c.make_entry.ensures.same false g r p) ∙ e));
      listed = λ g r e.
          or-split (has_reading g r (take i readings)) (is_reading g r y) (is_listed new r (tag_key g) ≡ true)
          (λ k. c.list.ensures.kept r (tag_key g) (c.loop-reading.invariant.listed g r k))
          (λ k. as-same (λ t m. is_listed new m (tag_key t) ≡ true) y.tag g y.root r k
          (subst (λ (x : Reading). is_listed new x.root (tag_key x.tag) ≡ true) c.reading.view_is c.in_ok-list.ensures.listed))
          (sym (any-next (is_reading g r) readings i y (omega arith) c.reading-item.is) ∙ e);
      made = λ g e.
          c.in_ok-make_entry.ensures.made g
          ∙ ap (λ (x : Reading). has_entry before g || same_tag x.tag g) c.reading.view_is
          ∙ or-split (has_tag g (take i readings)) (is_of_tag g y)
          ((has_entry before g || same_tag y.tag g) ≡ true)
          (λ k. or_left (has_entry before g) (same_tag y.tag g) (c.loop-reading.invariant.made g k))
          (λ k. or_right (has_entry before g) (same_tag y.tag g) k)
          (sym (any-next (is_of_tag g) readings i y (omega arith) c.reading-item.is) ∙ e);
    }
