-- What the crates below prove, as one record, so that each proof here takes it as one hypothesis.
use Rattle.bbm_rules.specs.Prelude.{Heading}
use Rattle.bbm_rules.specs.BrokenLaws.{NotesKeepEvents}
use Rattle.bbm_rules.specs.Claims.{Trust}
use Rattle.bbm_rules.specs.EventLaws.{TestsAreExact}
use Rattle.bbm_rules.specs.HeldLaws.{CleansedBySentence, HalfBySentence, HeldBySentence, LastValidBySentence}
use Rattle.bbm_rules.specs.HeldLaws.{SeenBySentence}
use Rattle.bbm_rules.specs.TagLaws.{TagKeptBySentence}
use Rattle.bbm_rules.specs.TreeLaws.{TreeBySentence}
use Rattle.bbm_histories.specs.ContentLaws.{FreshStays, HeldAfter, PhaseByParts}
use Rattle.bbm_histories.specs.HolderLaws.{TagsAfter}
use Rattle.bbm_histories.specs.PatternLaws.{ClaimsAfter, PatternsAfter}
use Rattle.bbm_histories.specs.PositionLaws.{ChildlessAfter, OnePosition, TreeAfter}

pub record Known (heading : Heading) : Type 0 where
  pub childless_step : (trust : Trust) → ChildlessAfter heading trust
  pub claim_steps : (trust : Trust) → ClaimsAfter heading trust
  pub cleansed : (trust : Trust) → CleansedBySentence heading trust
  pub equality_tests : TestsAreExact
  pub fresh_content : (trust : Trust) → FreshStays heading trust
  pub half : HalfBySentence heading
  pub held : (trust : Trust) → HeldBySentence heading trust
  pub held_step : (trust : Trust) → HeldAfter heading trust
  pub last_valid : LastValidBySentence
  pub notes_keep_the_events : (trust : Trust) → NotesKeepEvents heading trust
  pub one_position : (trust : Trust) → OnePosition heading trust
  pub pattern_steps : PatternsAfter heading
  pub phase_parts : (trust : Trust) → PhaseByParts heading trust
  pub seen : SeenBySentence heading
  pub tag_kept : (trust : Trust) → TagKeptBySentence heading trust
  pub tag_steps : TagsAfter heading
  pub tree_step : (trust : Trust) → TreeAfter heading trust
  pub tree : (trust : Trust) → TreeBySentence heading trust
