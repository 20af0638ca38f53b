use Rattle.bbm_place_map.proofs.Common.{subst, sym, ◌∙◌, List, length, Lacks, Pending}
use Rattle.bbm_place_map.proofs.Pendings.{known_by}
use Rattle.bbm_place_map.proofs.entry.make_more_room.Goals as goal

pub returns-then-is_some-clause-room : goal.returns-then-is_some-clause-room
returns-then-is_some-clause-room c = λ lacks.
    let P : List Pending → Type 0 = λ ps. Lacks ps (length ps) c.args.lane in
    absurd (known_by c.as_slice.result.now c.place_of.result c.args.lane (sym c.is_some.ensures ∙ c.if-is_some.true) c.place_of.ensures.some
    (subst P (sym c.as_slice.ensures) lacks))
