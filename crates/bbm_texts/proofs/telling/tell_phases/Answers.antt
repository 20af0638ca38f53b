use Rattle.bbm_texts.proofs.Common.{Heading}
use Rattle.bbm_rules.proofs.Common.{◌<◌, arith, subst}
use Rattle.bbm_texts.proofs.Puts.{lines-failed}
use Rattle.bbm_texts.proofs.telling.tell_phases.Goals as goal

pub returns-in-Err : goal.returns-in-Err
returns-in-Err g c =
    let header = c.args.header.now in
    let below : c.pes.number < header.pes = subst (λ (x : Heading). c.pes.number < x.pes) c.header.view_is (omega (arith, c.pes-test.true)) in
    record {
      puts = λ h keeps. lines-failed header h c.args.place c.pes.number header.pes c.in-Err.failed _ _ _ _ _ _ below
          (c.pes.invariant.puts h keeps) (c.in-Err.ensures.puts h keeps);
    }
