use Rattle.bbm_rules.proofs.Common.{refl}
use Rattle.bbm_replay_entries.proofs.Places.{dsb_stands, empties_stands, whole_stands}
use Rattle.bbm_replay_entries.proofs.steps.law_entry_dsb.Goals as goal

pub returns : goal.returns
returns c heading = let k = c.known.ensures heading in record {
  calls = λ h kind level place q dsb old mid new pends pends' pes heard d others stays s.
      dsb_stands heading k kind level place h q dsb old mid new pends pends' pes heard d others stays s;
  empties = λ h kind level place state pends gone core unbroken idle.
      empties_stands heading k kind level place h state pends gone core unbroken idle;
  whole = λ h kind level place q dsb state pends pes unbroken s.
      whole_stands heading k kind level place h q dsb state state pends pends pes unbroken refl unbroken
      (s.idle unbroken) s;
}
