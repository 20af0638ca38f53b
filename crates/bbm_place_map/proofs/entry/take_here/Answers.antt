use Rattle.bbm_place_map.proofs.Common.{ap, sym, ◌∙◌, waits_in, Pend}
use Rattle.bbm_place_map.proofs.Pendings.{first_pend, first_there, first_others}
use Rattle.bbm_place_map.proofs.entry.take_here.Goals as goal

pub returns-clause-done : goal.returns-clause-done
returns-clause-done c = λ k first. sym (first_pend c.args.pendings.now c.args.i k _ first)

pub returns-clause-left : goal.returns-clause-left
returns-clause-left c = λ k first cover p.
    ap (λ (x : Pend). waits_in x cover p)
    (first_there c.args.pendings.now c.args.i k _ c.none.result first)
    ∙ c.none.ensures cover p

pub returns-clause-others : goal.returns-clause-others
returns-clause-others c = λ k m first other. first_others c.args.pendings.now c.args.i k _ c.none.result first m other
