-- What the crates below prove of their definitions, as one record, so that each proof here takes it as one hypothesis.
use Rattle.std.specs.Prelude.{◌≡◌, true}
use Rattle.bbm_events.specs.Heading.{heading_ok}
use Rattle.bbm_rules.specs.Prelude.{Heading}
use Rattle.bbm_rules.specs.BrokenLaws.{EachRule, NotesKeepEvents}
use Rattle.bbm_rules.specs.Claims.{Patterns}
use Rattle.bbm_rules.specs.EventLaws.{RootsBySentence, TestsAreExact}
use Rattle.bbm_rules.specs.TagLaws.{ReadsBySentence, TagLeftBySentence, TagSetSays}
use Rattle.bbm_histories.specs.HolderLaws.{BasesOfRoots, TagsOfRoots}
use Rattle.bbm_histories.specs.TreeChanges.{Proper}

pub record Laws (heading : Heading) : Type 0 where
  pub proper : heading_ok heading ≡ true → Proper heading
  pub bases : BasesOfRoots heading Patterns
  pub each_rule : EachRule heading Patterns
  pub equality_tests : TestsAreExact
  pub notes_keep_the_events : NotesKeepEvents heading Patterns
  pub readable_tag : ReadsBySentence heading
  pub root : RootsBySentence
  pub tag_left : TagLeftBySentence heading Patterns
  pub tag_set : TagSetSays heading Patterns
  pub tags : TagsOfRoots heading Patterns
