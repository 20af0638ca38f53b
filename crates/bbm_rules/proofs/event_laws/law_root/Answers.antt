use Rattle.bbm_rules.proofs.RootLaw.{is_root_of_kind, root_complete, root_found, root_of_kind, root_of_page, root_sound}
use Rattle.bbm_rules.proofs.event_laws.law_root.Goals as goal

pub returns : goal.returns
returns c = record {
  sound = root_sound;
  complete = root_complete;
  found = root_found;
  of_page = root_of_page;
  of_kind = root_of_kind;
  is_of_kind = is_root_of_kind;
}
