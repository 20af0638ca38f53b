use Rattle.bbm_rules.proofs.Common.{Bool, ◌&&◌, ◌||◌, sym, ap, ◌∙◌}
use Rattle.bbm_regimes.specs.PeMask.{pe_in}
use Rattle.bbm_idle.proofs.FindWaiting.{answered_by}
use Rattle.bbm_idle.proofs.find_waiting.Waiting.answers.Goals as goal

pub returns-then-broadcast : goal.returns-then-broadcast
returns-then-broadcast c = λ heading h is.
    c.if-broadcast.true ∙ sym (ap (λ (b : Bool). b || c.answered-local.result) c.if-broadcast.true)
    ∙ answered_by heading h c.args.pe c.args.dsb c.args.self.now c.answered-broadcast.result c.answered-local.result is
    (c.answered-broadcast.ensures ∙ ap (λ (b : Bool). b && pe_in c.args.self.now.broadcast c.args.pe) c.answers.ensures)
    (c.answered-local.ensures ∙ ap (λ (b : Bool). b && pe_in c.args.self.now.local c.args.pe) c.answers-2.ensures)

pub returns-else-broadcast : goal.returns-else-broadcast
returns-else-broadcast c = λ heading h is.
    sym (ap (λ (b : Bool). b || c.answered-local.result) c.if-broadcast.false)
    ∙ answered_by heading h c.args.pe c.args.dsb c.args.self.now c.answered-broadcast.result c.answered-local.result is
    (c.answered-broadcast.ensures ∙ ap (λ (b : Bool). b && pe_in c.args.self.now.broadcast c.args.pe) c.answers.ensures)
    (c.answered-local.ensures ∙ ap (λ (b : Bool). b && pe_in c.args.self.now.local c.args.pe) c.answers-2.ensures)
