use Rattle.bbm_replay_entries.proofs.Phases.{phase_outside, phase_tells, restless_outside, restless_tells}
use Rattle.bbm_replay_entries.proofs.tells.law_entry_phase.Goals as goal

pub returns : goal.returns
returns c heading = let k = c.known.ensures heading in record {
  phase = λ h n place p state pends below is s. phase_tells heading k h place p n state pends s below is;
  restless = λ h n place state pends is s. restless_tells heading k h n place state pends is s;
  outside_clean = λ h place p is. phase_outside heading k h place p is;
  outside_restless = λ h place is. restless_outside heading h place is;
}
