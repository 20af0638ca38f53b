use Rattle.bbm_place_map.proofs.Common.{Entry, Some, ℕ, ◌≡◌, nat_eq, ap, sym, ◌∙◌, inl, inr, slice_get, take, List}
use Rattle.bbm_place_map.proofs.Common.{cases_Bool, eq-eqb, eqb-true, false≢true, is_found, Keeps, Found, refl}
use Rattle.bbm_place_map.proofs.Advancing.{self_advances}
use Rattle.bbm_place_map.proofs.Finding.{found_off, take_more}
use Rattle.bbm_place_map.proofs.Keeping.{each_from, keeps_then, kept_moved, seats_all}
use Rattle.bbm_place_map.proofs.issue.make_room_found.Goals as goal

pub make_room_for-requires : goal.make_room_for-requires
make_room_for-requires c = kept_moved c.requires c.loop-i.invariant.each

pub loop-i-init : goal.loop-i-init
loop-i-init c = record {
  each = record {
    same = seats_all c.args.broken.now;
    each = λ m. self_advances Keeps (slice_get c.args.broken.now.entries m) (λ x is. (refl, refl));
  };
  ready = λ m e is among. absurd (false≢true among);
}

pub loop-i-preserved : goal.loop-i-preserved
loop-i-preserved c =
    let x = c.index-found-i.result in
    let xs = take c.loop-i.i c.args.found.now in
    let made = c.in_ok-make_room_for.ensures in
    record {
      each = keeps_then c.loop-i.invariant.each made;
      ready = λ m e is among.
          let was = each_from made m e is in
          let place : e.place ≡ was.0.place = ap (λ (p : ℕ × ℕ × ℕ). p.0) was.2 in
          elim (cases_Bool (nat_eq x.place e.place)) [
            | inl here ↦ (was.3.0 (sym place ∙ sym (eqb-true x.place e.place here))).1
            | inr off ↦
                let same : e ≡ was.0 = was.3.1 (λ at. false≢true (sym off ∙ eq-eqb x.place e.place (sym (place ∙ at)))) in
                c.loop-i.invariant.ready m e (was.1 ∙ ap (λ (y : Entry). Some y) (sym same))
                (sym (found_off xs x e.place off)
                ∙ sym (ap (λ (ys : List Found). is_found ys e.place) (take_more c.args.found.now c.loop-i.i x c.loop-i-test.true c.index-found-i.is)) ∙ among)
          ];
    }
