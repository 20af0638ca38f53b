use Rattle.bbm_replay.proofs.laws.laws.Goals as goal

pub returns : goal.returns
returns c heading = record {
  proper = c.law_proper.ensures heading;
  core_where_valid = c.law_core_where_valid.ensures;
  nodes = c.law_nodes.ensures heading;
  neighbours = c.law_neighbours.ensures heading;
  fresh = c.law_fresh_pages.ensures heading;
  pages = c.law_pages.ensures;
  values = c.law_values.ensures;
  unattached = c.law_unattached.ensures heading;
  guards = c.law_guards.ensures heading;
  begins = c.law_entry_begins.ensures heading;
  alike = c.law_entry_alike.ensures heading;
  stays = c.law_entry_stays.ensures heading;
  write = c.law_entry_write.ensures heading;
  dsb = c.law_entry_dsb.ensures heading;
  tlbi = c.law_entry_tlbi.ensures heading;
  holds = c.law_entry_holds.ensures heading;
}
