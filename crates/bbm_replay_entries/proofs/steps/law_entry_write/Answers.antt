use Rattle.bbm_replay_entries.proofs.Places.{write_stands}
use Rattle.bbm_replay_entries.proofs.steps.law_entry_write.Goals as goal

pub returns : goal.returns
returns c heading h kind level place pe value old new pends pends' pes w keeps s =
    write_stands heading (c.known.ensures heading) kind level place h pe value old new pends pends' pes w keeps s
