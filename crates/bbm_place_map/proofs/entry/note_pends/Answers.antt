use Rattle.bbm_place_map.proofs.Common.{ℕ, List, sym, ◌∙◌, ◌↔◌, IsTrue, subst, true, false, Adds, HasRoom, IsQuiet}
use Rattle.bbm_place_map.proofs.Common.{pend_in, pends_in, Pending}
use Rattle.bbm_place_map.proofs.Pendings.{issuer_kept, lanes_apart, noted_in}
use Rattle.bbm_place_map.proofs.entry.note_pends.Goals as goal

pub note_lane-requires : goal.note_lane-requires
note_lane-requires c =
    let P : ℕ → Type 0 = HasRoom c.args.pendings.now in
    subst P (sym c.new.ensures) c.requires

pub returns-clause-there : goal.returns-clause-there
returns-clause-there c =
    let old = c.args.pendings.now.items in
    let new = c.note_lane.new.pendings.items in
    let P : ℕ → Type 0 = λ k. Adds c.args.marks.now c.args.reach c.args.cover (pend_in old k) (pend_in new k) in
    noted_in old new c.args.issuer c.args.marks.now c.args.reach c.args.broadcast c.args.cover (subst P c.new.ensures c.note_lane.ensures.there)
    (λ m other. c.note_lane.ensures.others m (λ same. other (same ∙ c.new.ensures)))

pub returns-clause-quiet : goal.returns-clause-quiet
returns-clause-quiet c =
    let P : List Pending → Type 0 = λ ps. IsTrue c.is_quiet_for-quiet.result ↔ IsQuiet c.args.broadcast (pends_in ps c.args.issuer) in
    subst P c.as_slice.ensures c.is_quiet_for-quiet.ensures

pub returns-clause-others : goal.returns-clause-others
returns-clause-others c = λ q other.
    issuer_kept c.args.pendings.now.items c.note_lane.new.pendings.items c.new.result c.note_lane.ensures.others q
    (λ same. lanes_apart q c.args.issuer true c.args.broadcast other (same ∙ c.new.ensures))
    (λ same. lanes_apart q c.args.issuer false c.args.broadcast other (same ∙ c.new.ensures))
