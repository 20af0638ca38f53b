use Rattle.bbm_counterrun.proofs.Common.{Entry, forbids_by}
use Rattle.bbm_rules.proofs.Common.{length, sym, ◌∙◌, ap}
use Rattle.bbm_counterrun.proofs.JoinSteps.{pass_more}
use Rattle.bbm_counterrun.proofs.combining.pass.Goals as goal

pub loop-n-preserved : goal.loop-n-preserved
loop-n-preserved c =
    let heading = c.args.search.now.header.now in
    let count = length c.args.search.now.events.now in
    let n = c.loop-n.n in
    let joined = ap (λ (e : Entry). record e { joined = n }) (c.joined-in-loop-n.view_is ∙ c.loop-n.invariant.joined) in
    record {
      joined = joined;
      first = pass_more heading count c.args.entry.now c.args.answer.now c.joined.inside.joined n c.loop-n.invariant.first
          (ap (λ (e : Entry). forbids_by heading n count e c.args.answer.now) (sym joined) ∙ sym c.blocks-in-loop-n.ensures
          ∙ c.if-not-blocks.false);
    }
