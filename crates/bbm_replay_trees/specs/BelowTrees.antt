-- What the crates below prove of their definitions, as one record, so that each proof here takes it as one hypothesis.
use Rattle.std.specs.Prelude.{◌≡◌, ℕ, is_some}
use Rattle.bbm_descriptor.specs.Descriptor.{core_of, is_valid}
use Rattle.bbm_rules.specs.Prelude.{Kind, Heading}
use Rattle.bbm_rules.specs.BrokenLaws.{EachRule, NotesKeepEvents}
use Rattle.bbm_rules.specs.Claims.Trust.{Patterns}
use Rattle.bbm_rules.specs.HeldLaws.{HeldBySentence}
use Rattle.bbm_rules.specs.TreeLaws.{MappedBySentence, PagesOfRoots, PathsBySentence, RepeatedBySentence}
use Rattle.bbm_rules.specs.TreeLaws.{TreeBySentence}
use Rattle.bbm_histories.specs.ContentLaws.{AttachedTables, FreshStays, HeldAfter, HeldChanges, MappedAfter}
use Rattle.bbm_histories.specs.ContentLaws.{TablesAreClean}
use Rattle.bbm_histories.specs.PositionLaws.{ChildlessAfter, FreshByEvent, NodeAfter, OnePosition, SingleNode}

pub record Below (heading : Heading) : Type 0 where
  pub attached_tables : AttachedTables heading Patterns
  pub core_where_valid : (kind : Kind) (level value : ℕ) → is_some (core_of kind level value)
      ≡ is_valid kind level value
  pub childless_step : ChildlessAfter heading Patterns
  pub each_rule : EachRule heading Patterns
  pub fresh_content : FreshStays heading Patterns
  pub fresh_step : FreshByEvent heading Patterns
  pub held : HeldBySentence heading Patterns
  pub held_changes : HeldChanges heading Patterns
  pub held_step : HeldAfter heading Patterns
  pub mapped : MappedBySentence heading Patterns
  pub mapped_step : MappedAfter heading Patterns
  pub node_step : NodeAfter heading Patterns
  pub notes_keep_the_events : NotesKeepEvents heading Patterns
  pub one_node : SingleNode heading Patterns
  pub one_position : OnePosition heading Patterns
  pub paths : PathsBySentence heading Patterns
  pub repeated : RepeatedBySentence heading Patterns
  pub root_pages : PagesOfRoots heading
  pub tables_clean : TablesAreClean heading Patterns
  pub tree : TreeBySentence heading Patterns
