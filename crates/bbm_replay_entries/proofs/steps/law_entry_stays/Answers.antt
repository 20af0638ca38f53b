use Rattle.bbm_replay_entries.proofs.Places.{stays}
use Rattle.bbm_replay_entries.proofs.steps.law_entry_stays.Goals as goal

pub returns : goal.returns
returns c heading h e kind level place state pends pes untouched s =
    stays heading (c.known.ensures heading) kind level place h e state pends pes untouched s
