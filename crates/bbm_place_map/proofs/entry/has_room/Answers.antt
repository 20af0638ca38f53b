use Rattle.bbm_place_map.proofs.Common.{Some, List, refl, subst, IsFirst, Pending}
use Rattle.bbm_place_map.proofs.Pendings.{known_by}
use Rattle.bbm_place_map.proofs.entry.has_room.Goals as goal

pub returns : goal.returns
returns c = λ same lacks.
    let P : List Pending → Type 0 = λ ps. IsFirst ps 0 c.args.lane in
    absurd (known_by c.args.pendings.now.items (Some 0) c.args.lane refl
    (subst P c.as_slice.ensures (c.is_first.ensures.0 same)) lacks)
