use Rattle.bbm_place_map.proofs.Common.{ℕ, ap, ◌∙◌, waits_in, Pends, pend_in, pends_in}
use Rattle.bbm_place_map.proofs.Pendings.{both_alike}
use Rattle.bbm_place_map.proofs.entry.pends_of.Goals as goal

pub returns : goal.returns
returns c =
    let ps = c.args.pendings.now in
    let both : Pends = record { broadcast = c.pend_of-broadcast.result; local = c.pend_of-local.result } in
    both_alike (pends_in ps c.args.issuer) both
    (λ cover p. c.pend_of-broadcast.ensures cover p ∙ ap (λ (k : ℕ). waits_in (pend_in ps k) cover p) c.new.ensures)
    (λ cover p. c.pend_of-local.ensures cover p ∙ ap (λ (k : ℕ). waits_in (pend_in ps k) cover p) c.new-2.ensures)
