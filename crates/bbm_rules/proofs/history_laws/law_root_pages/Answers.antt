use Rattle.bbm_rules.proofs.RootPages.{first_node, first_page, node_fields, one_node, page_node}
use Rattle.bbm_rules.proofs.history_laws.law_root_pages.Goals as goal

pub returns : goal.returns
returns c heading = record {
  fields = node_fields heading;
  single = one_node heading;
  first = first_node heading;
  each = page_node heading;
  named = first_page heading;
}
