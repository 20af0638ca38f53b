-- What the crates below prove of their definitions, as one record, so that each proof here takes it as one hypothesis.
use Rattle.std.specs.Prelude.{◌≡◌, ◌↔◌, ℕ, true, false, is_some}
use Rattle.bbm_descriptor.specs.Descriptor.{core_of, is_valid, needs, same_core}
use Rattle.bbm_descriptor.specs.declared.desc.Core.{Core}
use Rattle.bbm_rules.specs.Prelude.{Kind, Heading}
use Rattle.bbm_rules.specs.BrokenLaws.{EachRule, NoGlobalUser, NoTableMapped, NotesKeepEvents, NotesOfOlder}
use Rattle.bbm_rules.specs.Claims.{Trust}
use Rattle.bbm_rules.specs.EventLaws.{PublishedBySentence, ReadableBySentence, RootsBySentence, TestsAreExact}
use Rattle.bbm_rules.specs.HeldLaws.{HalfBySentence, HeldBySentence, LastValidBySentence, SeenBySentence}
use Rattle.bbm_rules.specs.TagLaws.{ReadsBySentence, RulesOnTags, TagHeldBySentence, TagKeptBySentence}
use Rattle.bbm_rules.specs.TreeLaws.{AttachesFresh, ChildlessBySentence, LimboBySentence, MappedBySentence}
use Rattle.bbm_rules.specs.TreeLaws.{PagesOfRoots, PathsBySentence, TreeBySentence}

pub record Below (heading : Heading) (trust : Trust) : Type 0 where
  pub core_where_valid : (kind : Kind) (level value : ℕ) → is_some (core_of kind level value)
      ≡ is_valid kind level value
  pub same_core_is_equal : (one other : Core) → (same_core one other ≡ true) ↔ (one ≡ other)
  pub no_need : (kind : Kind) (level old new : ℕ) → core_of kind level old ≡ core_of kind level new
      → needs kind level old new ≡ false
  pub attaching : AttachesFresh heading trust
  pub childless : ChildlessBySentence heading trust
  pub each_rule : EachRule heading trust
  pub equality_tests : TestsAreExact
  pub global_user : NoGlobalUser heading trust
  pub half : HalfBySentence heading
  pub held : HeldBySentence heading trust
  pub last_valid : LastValidBySentence
  pub limbo : LimboBySentence
  pub mapped : MappedBySentence heading trust
  pub notes : NotesOfOlder heading trust
  pub notes_keep_the_events : NotesKeepEvents heading trust
  pub paths : PathsBySentence heading trust
  pub published : PublishedBySentence heading
  pub readable_tag : ReadsBySentence heading
  pub readable_value : ReadableBySentence heading
  pub root : RootsBySentence
  pub root_pages : PagesOfRoots heading
  pub seen : SeenBySentence heading
  pub table_mapped : NoTableMapped heading trust
  pub tag_held : TagHeldBySentence heading trust
  pub tag_kept : TagKeptBySentence heading trust
  pub tag_rules : RulesOnTags heading trust
  pub tree : TreeBySentence heading trust
