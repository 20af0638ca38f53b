use Rattle.bbm_place_map.proofs.Common.{◌≡◌, ◌<◌, ◌+◌, ap, refl, arith, sym, subst, ◌∙◌, false≢true, length, slice_get}
use Rattle.bbm_place_map.proofs.Common.{same_Some, BrokenMap, EachAdvances, Cover, Some, is_cover, true}
use Rattle.bbm_place_map.specs.PlaceNotes.{Readies}
use Rattle.bbm_place_map.proofs.Issued.{cover_read}
use Rattle.bbm_place_map.proofs.Keeping.{ChangesBelow, below_all, below_kept, below_more, below_none}
use Rattle.bbm_place_map.proofs.issue.make_room.Goals.{then-is_cover+in_ok-make_room, else-is_cover}
use Rattle.bbm_place_map.proofs.issue.make_room.Goals as goal

pub loop-k-init : goal.loop-k-init
loop-k-init c = below_none (Readies c.args.lane c.args.covers.now) c.args.broken.now

pub loop-k-preserved : goal.loop-k-preserved
loop-k-preserved c =
    let k = c.loop-k.k in
    let covers = c.args.covers.now in
    let within : k < length c.args.broken.now.entries = omega arith in
    let P : BrokenMap → Type 0 = EachAdvances (ChangesBelow (Readies c.args.lane covers) (k + 1)) c.args.broken.now in
    elim c.if-is_cover.branch [
      | then-is_cover+in_ok-make_room w ↦
          subst P (sym w.broken-is) (below_more c.loop-k.invariant within w.in_ok-make_room.ensures (λ e f h. (h.0.0, h.0.1, λ x _ _. h.1)))
      | else-is_cover w ↦
          let off = λ (x : Cover) (at : slice_get covers k ≡ Some x) (is : is_cover x ≡ true).
          false≢true (sym (sym c.is_cover.ensures ∙ w.if-is_cover.false) ∙ ap is_cover (same_Some c.get.result x
          (sym (cover_read covers k c.index-covers-k.result c.get.result (omega arith) c.index-covers-k.is c.get.ensures) ∙ at)) ∙ is) in
          subst P (sym w.broken-is) (below_kept c.loop-k.invariant within (λ e. (refl, refl, λ x at is. absurd (off x at is))))
    ]

pub returns-clause-ready : goal.returns-clause-ready
returns-clause-ready c = (below_all c.loop-k.invariant (omega arith)).each
