-- What the crates below prove, as one record, so that each proof here takes it as one hypothesis. No public contract
-- cites these words. Source: project's own choice.
use Rattle.bbm_rules.specs.Prelude.{Heading}
use Rattle.bbm_rules.specs.Claims.{Trust}
use Rattle.bbm_rules.specs.Claims.Trust.{Patterns}
use Rattle.bbm_rules.specs.BrokenLaws.{NotesKeepEvents}
use Rattle.bbm_rules.specs.EventLaws.{AnsweredBySentence, TestsAreExact}
use Rattle.bbm_rules.specs.HeldLaws.{CleansedBySentence, LastValidBySentence}
use Rattle.bbm_rules.specs.TagLaws.{TagKeptBySentence}
use Rattle.bbm_rules.specs.TreeLaws.{PagesOfRoots, TreeBySentence}
use Rattle.bbm_histories.specs.ContentLaws.{FreshStays}
use Rattle.bbm_histories.specs.HolderLaws.{TagClaimsAfter, TagsAfter, TagsOfRoots}
use Rattle.bbm_histories.specs.PatternLaws.{PatternsAfter}
use Rattle.bbm_histories.specs.PositionLaws.{OnePosition, SingleNode, TreeAfter}
use Rattle.bbm_histories.specs.TreeChanges.{Proper}
use Rattle.bbm_alike.specs.AlikeLaws.{AlikeJoins, CoversAlike, JudgedAlike, StepAlike, TakenAlike}

pub record Known (heading : Heading) : Type 0 where
  pub proper : Proper heading
  pub alike_joins : AlikeJoins heading
  pub alike_judges : (other : Trust) → JudgedAlike heading Patterns other
  pub alike_step : (other : Trust) → StepAlike heading Patterns other
  pub answered : AnsweredBySentence
  pub cleansed : (trust : Trust) → CleansedBySentence heading trust
  pub covers_alike : (other : Trust) → CoversAlike heading Patterns other
  pub equality_tests : TestsAreExact
  pub events_noted : NotesKeepEvents heading Patterns
  pub fresh_content : FreshStays heading Patterns
  pub last_valid : LastValidBySentence
  pub one_node : SingleNode heading Patterns
  pub one_position : OnePosition heading Patterns
  pub pattern_steps : PatternsAfter heading
  pub root_pages : PagesOfRoots heading
  pub tag_claim_steps : TagClaimsAfter heading
  pub tag_kept : TagKeptBySentence heading Patterns
  pub tag_steps : TagsAfter heading
  pub tags : TagsOfRoots heading Patterns
  pub takes_alike : TakenAlike heading
  pub tree : TreeBySentence heading Patterns
  pub tree_step : TreeAfter heading Patterns
