use Rattle.bbm_replay.proofs.replay.ReplayChecker.is_root.Goals as goal

pub returns : goal.returns
returns c heading h s = c.is_root.ensures heading h s.parts.roots
