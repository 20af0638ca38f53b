use Rattle.bbm_rules.proofs.ChangesLaw.{cleansed_kept, flushes_kept, fresh_kept, given_kept, half_kept, inits_kept, locks_kept}
use Rattle.bbm_rules.proofs.ChangesLaw.{nulls_kept, published_kept, registers_kept, roots_kept, seen_kept, valid_kept}
use Rattle.bbm_rules.proofs.ChangesLaw.{values_kept, written_kept}
use Rattle.bbm_rules.proofs.event_laws.law_changes.Goals as goal

pub returns : goal.returns
returns c heading trust = record {
  values = values_kept;
  written = written_kept;
  publications = published_kept heading;
  inits = inits_kept;
  nulls = nulls_kept;
  roots = roots_kept;
  given = given_kept;
  registers = registers_kept;
  flushes = flushes_kept;
  locks = locks_kept;
  valid = valid_kept;
  fresh = fresh_kept;
  seen = seen_kept heading;
  half = half_kept heading;
  cleansed = cleansed_kept heading trust;
}
