-- Gathered for the proofs here, and nothing that a reader must believe: what the crates below prove of a history and
-- one event more, law by law, so that each proof takes them as one hypothesis. The clause of `laws` promises them.
use Rattle.std.specs.Prelude.{◌≡◌, ℕ, true, is_some}
use Rattle.bbm_descriptor.specs.Descriptor.{core_of, is_valid}
use Rattle.bbm_events.specs.Heading.{heading_ok}
use Rattle.bbm_histories.specs.TreeChanges.{Proper}
use Rattle.bbm_rules.specs.Prelude.{Kind, Heading}
use Rattle.bbm_replay_entries.specs.EntryLaws.{EntryAlike, EntryBegins, EntryDsb, EntryHolds, EntryStays, EntryTlbi}
use Rattle.bbm_replay_entries.specs.EntryLaws.{EntryWrite}
use Rattle.bbm_replay_trees.specs.Guarding.{GuardsAfter}
use Rattle.bbm_replay_trees.specs.Judging.{Unattached}
use Rattle.bbm_replay_trees.specs.NodeLaws.{Neighbours, NodesAfter}
use Rattle.bbm_replay_trees.specs.PageLaws.{FreshAfter, PagesAfter, ValuesAfter}

pub record Laws (heading : Heading) : Type 0 where
  pub proper : heading_ok heading ≡ true → Proper heading
  pub core_where_valid : (kind : Kind) (level value : ℕ)
      → is_some (core_of kind level value) ≡ is_valid kind level value
  -- trees, pages and values
  pub nodes : NodesAfter heading
  pub neighbours : Neighbours heading
  pub fresh : FreshAfter heading
  pub pages : PagesAfter
  pub values : ValuesAfter
  pub unattached : Unattached heading
  pub guards : GuardsAfter heading
  -- one place
  pub begins : EntryBegins heading
  pub alike : EntryAlike heading
  pub stays : EntryStays heading
  pub write : EntryWrite heading
  pub dsb : EntryDsb heading
  pub tlbi : EntryTlbi heading
  pub holds : EntryHolds heading
