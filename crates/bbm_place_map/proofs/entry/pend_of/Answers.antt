use Rattle.bbm_place_map.proofs.Common.{◌∙◌, ap, sym, arith, length, waits_in, Pend}
use Rattle.bbm_place_map.proofs.Idle.{no_pe_waits}
use Rattle.bbm_place_map.proofs.Pendings.{first_pend, lacks_all}
use Rattle.bbm_place_map.proofs.entry.pend_of.Goals as goal

pub returns-in-Some : goal.returns-in-Some
returns-in-Some c = λ cover p.
    ap (λ (x : Pend). waits_in x cover p) (sym (first_pend c.args.pendings.now c.in-Some.i c.args.lane _ c.in-Some.ensures.some))

pub returns-in-None : goal.returns-in-None
returns-in-None c = λ cover p.
    let ps = c.args.pendings.now in
    c.none.ensures cover p
    ∙ sym (ap (λ (x : Pend). waits_in x cover p)
    (lacks_all ps (length ps) c.args.lane (omega arith) (c.place_of.ensures.none c.in-None.is)) ∙ no_pe_waits cover p)
