use Rattle.bbm_place_map.proofs.Common.{◌≡◌, ◌&&◌, ◌||◌, Bool, ap, sym, ◌∙◌, arith, refl, subst, List, length, eq-eqb}
use Rattle.bbm_place_map.proofs.Common.{ne_eqb, same_cover, waits_in, Pend, Adds, pend_in, no_pend, IsFirst, Lacks}
use Rattle.bbm_place_map.proofs.Common.{Pending, pe_in}
use Rattle.bbm_entry_state.specs.Marking.{counts_for}
use Rattle.bbm_place_map.proofs.Idle.{no_pe_waits}
use Rattle.bbm_place_map.proofs.Pendings.{lacks_all, more_there, more_others, written}
use Rattle.bbm_place_map.proofs.entry.note_lane.Goals as goal

first : (c : goal.After-pendings-1) → IsFirst c.as_mut_slice.result.now c.in-Some.i c.args.lane
first c =
    let P : List Pending → Type 0 = λ ps. IsFirst ps c.in-Some.i c.args.lane in
    subst P (c.as_slice.ensures ∙ sym c.as_mut_slice.ensures.value) c.in-Some.ensures.some

pub returns-in-Some-clause-there : goal.returns-in-Some-clause-there
returns-in-Some-clause-there c =
    let new = c.note_here.new.pendings in
    let k = c.args.lane in
    let P : List Pending → Type 0 = λ ps. Adds c.args.marks.now c.args.reach c.args.cover (pend_in ps k) (pend_in new k) in
    let Q : List Pending → Type 0 = λ ps. Adds c.args.marks.now c.args.reach c.args.cover (pend_in c.args.pendings.now.items k) (pend_in ps k) in
    subst Q (sym (written c.args.pendings.now c.as_mut_slice.result.now new c.as_mut_slice.ensures.value c.note_here.ensures.len))
    (subst P c.as_mut_slice.ensures.value (c.note_here.ensures.here k (first c)))

pub returns-in-Some-clause-others : goal.returns-in-Some-clause-others
returns-in-Some-clause-others c = λ m other.
    ap (λ (ps : List Pending). pend_in ps m)
    (written c.args.pendings.now c.as_mut_slice.result.now c.note_here.new.pendings c.as_mut_slice.ensures.value c.note_here.ensures.len)
    ∙ c.note_here.ensures.others c.args.lane m (first c) other ∙ ap (λ (ps : List Pending). pend_in ps m) c.as_mut_slice.ensures.value

lacks : (c : goal.After-push_reserved) → Lacks c.args.pendings.now.items (length c.args.pendings.now.items) c.args.lane
lacks c =
    let P : List Pending → Type 0 = λ ps. Lacks ps (length ps) c.args.lane in
    subst P c.as_slice.ensures (c.place_of.ensures.none c.in-None.is)

none : (c : goal.After-push_reserved) → pend_in c.args.pendings.now.items c.args.lane ≡ no_pend
none c = lacks_all c.args.pendings.now.items (length c.args.pendings.now.items) c.args.lane (omega arith) (lacks c)

pub returns-in-None-clause-there : goal.returns-in-None-clause-there
returns-in-None-clause-there c = λ cover p.
    let items = c.args.pendings.now.items in
    let k = c.args.lane in
    ap (λ (x : Pend). waits_in x cover p)
    (ap (λ (ps : List Pending). pend_in ps k) c.push_reserved.ensures.items
    ∙ more_there items (record { lane = k; pend = c.note.new.self }) k (length items) (omega arith) (lacks c) (eq-eqb k k refl))
    ∙ c.note.ensures cover p
    ∙ ap (λ (w : Bool). (pe_in c.args.reach p && (same_cover cover c.args.cover && counts_for c.args.marks.now cover p)) || w)
    (c.none-pend.ensures cover p ∙ sym (ap (λ (x : Pend). waits_in x cover p) (none c) ∙ no_pe_waits cover p))

pub returns-in-None-clause-others : goal.returns-in-None-clause-others
returns-in-None-clause-others c = λ m other.
    ap (λ (ps : List Pending). pend_in ps m) c.push_reserved.ensures.items
    ∙ more_others c.args.pendings.now.items (record { lane = c.args.lane; pend = c.note.new.self }) m (ne_eqb c.args.lane m (λ is. other (sym is)))
