-- What the crates below prove, as two records, so that each proof here takes it as one hypothesis. No public contract
-- cites these words.
use Rattle.bbm_rules.specs.Prelude.{Heading}
use Rattle.bbm_rules.specs.BrokenLaws.{NotesKeepEvents, NotesOfOlder}
use Rattle.bbm_rules.specs.Claims.{Patterns}
use Rattle.bbm_rules.specs.EventLaws.{AnsweredBySentence, ByChanges, TestsAreExact}
use Rattle.bbm_rules.specs.HeldLaws.{CleansedBySentence, HalfBySentence, LastValidBySentence, SeenBySentence}
use Rattle.bbm_rules.specs.TagLaws.{TagKeptBySentence}
use Rattle.bbm_rules.specs.TreeLaws.{TreeBySentence}
use Rattle.bbm_histories.specs.ContentLaws.{FrozenView, HeldAfter, HeldChanges, NothingGoesBack, PhaseByParts}
use Rattle.bbm_histories.specs.PatternLaws.{PatternsAfter, PatternsStay}
use Rattle.bbm_histories.specs.PositionLaws.{NodeAfter, SingleNode}
use Rattle.bbm_histories.specs.TreeChanges.{Proper}
use Rattle.bbm_alike.specs.AlikeLaws.{AlikeJoins, CoversAlike, JudgedAlike, StepAlike, TagsStay, TakenAlike}
use Rattle.bbm_alike.specs.AlikeLaws.{TreesAlike}

pub record Known (heading : Heading) : Type 0 where
  pub proper : Proper heading
  pub alike_joins : AlikeJoins heading
  pub alike_judges : JudgedAlike heading Patterns Patterns
  pub alike_step : StepAlike heading Patterns Patterns
  pub answered : AnsweredBySentence
  pub changes : ByChanges heading Patterns
  pub cleansed : CleansedBySentence heading Patterns
  pub covers_alike : CoversAlike heading Patterns Patterns
  pub frozen : NothingGoesBack heading Patterns
  pub frozen_view : FrozenView heading Patterns
  pub half : HalfBySentence heading
  pub held_changes : HeldChanges heading Patterns
  pub held_step : HeldAfter heading Patterns
  pub last_valid : LastValidBySentence
  pub node_step : NodeAfter heading Patterns
  pub notes : NotesOfOlder heading Patterns
  pub notes_keep_the_events : NotesKeepEvents heading Patterns
  pub one_node : SingleNode heading Patterns
  pub pattern_steps : PatternsAfter heading
  pub patterns_stay : PatternsStay heading Patterns
  pub phase_parts : PhaseByParts heading Patterns
  pub same_tags : TagsStay heading
  pub seen : SeenBySentence heading
  pub tag_kept : TagKeptBySentence heading Patterns
  pub takes_alike : TakenAlike heading
  pub tree : TreeBySentence heading Patterns
  pub trees_alike : TreesAlike heading Patterns Patterns

-- the sentences of the terms by which needed TLBIs and idle events are told
pub record Terms (heading : Heading) : Type 0 where
  pub answered : AnsweredBySentence
  pub cleansed : CleansedBySentence heading Patterns
  pub equality_tests : TestsAreExact
  pub half : HalfBySentence heading
  pub last_valid : LastValidBySentence
  pub notes_keep_the_events : NotesKeepEvents heading Patterns
  pub phase_parts : PhaseByParts heading Patterns
  pub seen : SeenBySentence heading
  pub tag_kept : TagKeptBySentence heading Patterns
