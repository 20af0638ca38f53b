use Rattle.bbm_session.proofs.Common.{Reader, IsInside, Shrinks, Going}
use Rattle.bbm_rules.proofs.Common.{◌≡◌, ◌*◌, ◌≤◌, ◌-◌}
use Rattle.bbm_session.specs.Stages.{Ready}
use Rattle.bbm_session.proofs.reading.log_lines.Given as goal

abbrev pub invariant-lines : goal.invariant-lines
invariant-lines g l = record {
  within : l.number ≤ 4294967295;
  ready : Ready l.lines l.number;
  shrinks : Shrinks (201 * l.number) (g.S.Source.left l.initial.log) (g.S.Source.left l.log);
  sound : g.S.Source.faults l.log ≡ g.S.Source.faults l.initial.log;
  going : (reader : Reader g.T.Taker.Reached g.T.Taker.Said) (p : g.T.Taker.Reached) → IsInside reader p
      → g.T.Taker.stands l.initial.taker reader l.header p 2
      → Going reader (g.T.Taker.stands l.taker reader l.header) p (g.S.Source.left l.initial.log) l.number (g.S.Source.left l.log);
}

abbrev pub decreases-lines : goal.decreases-lines
decreases-lines g l = 4294967296 - l.number
