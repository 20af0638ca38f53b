use Rattle.bbm_rules.proofs.Common.{refl, Ok, Dmb}
use Rattle.bbm_replay.proofs.Meeting.{meets_judged}
use Rattle.bbm_replay.proofs.parts.ReplayState.dmb.Goals as goal

pub returns : goal.returns
returns c =
    let old = c.args.self.now in
    meets_judged c.laws.ensures old old.roots (Dmb c.args.pe c.args.dsb) c.requires refl (Ok tt)
    (λ heading h s. c.law_barriers.ensures.dmb heading h c.args.pe c.args.dsb)
    (λ h. c.law_barriers.ensures.dmb_limit h c.args.pe c.args.dsb)
    (record {
      taken = λ heading h s done. c.law_others.ensures old.roots heading h (Dmb c.args.pe c.args.dsb) s refl
          (c.law_barriers.ensures.dmb heading h c.args.pe c.args.dsb);
      room = λ room. room;
    }) tt
