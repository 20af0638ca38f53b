use Rattle.bbm_rules.proofs.AttachLaw.{deeper_fresh, rooted_fresh, single_paths, written_fresh}
use Rattle.bbm_rules.proofs.history_laws.law_attaching.Goals as goal

pub returns : goal.returns
returns c heading trust = record {
  deeper = deeper_fresh heading trust;
  single = single_paths heading trust;
  written = written_fresh heading trust;
  rooted = rooted_fresh heading trust;
}
