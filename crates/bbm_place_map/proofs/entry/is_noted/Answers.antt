use Rattle.bbm_place_map.proofs.Common.{ℕ, refl, sym, subst, Pend, Adds, IsFirst}
use Rattle.bbm_place_map.proofs.Pendings.{first_pend, noted_in}
use Rattle.bbm_place_map.proofs.entry.is_noted.Goals as goal

pub returns : goal.returns
returns c = λ all.
    let ps = c.args.pendings.now in
    let P : Pend → Type 0 = λ x. Adds c.args.marks.now c.args.reach c.args.cover x x in
    let Q : ℕ → Type 0 = λ k. IsFirst ps 0 k in
    let first = subst Q c.new.ensures (c.is_first.ensures.0 c.if-not-is_first.false) in
    noted_in ps ps c.args.issuer c.args.marks.now c.args.reach c.args.broadcast c.args.cover
    (subst P (sym (first_pend ps 0 _ _ first)) (c.has_all.ensures all)) (λ m other. refl)
