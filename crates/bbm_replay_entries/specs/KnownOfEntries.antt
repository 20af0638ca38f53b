-- What the crates below prove, as one record, so that each proof here takes it as one hypothesis.
use Rattle.std.specs.Prelude.{◌≡◌, ℕ, is_some}
use Rattle.bbm_descriptor.specs.Descriptor.{core_of, is_valid}
use Rattle.bbm_rules.specs.Prelude.{Kind, Heading}
use Rattle.bbm_rules.specs.BrokenLaws.{NotesKeepEvents}
use Rattle.bbm_rules.specs.Claims.Trust.{Patterns}
use Rattle.bbm_rules.specs.HeldLaws.{HeldBySentence, LastValidBySentence}
use Rattle.bbm_histories.specs.ContentLaws.{FreshStays, HeldAfter, HeldChanges}
use Rattle.bbm_histories.specs.PatternLaws.{PatternsAfter}

pub record Known (heading : Heading) : Type 0 where
  pub core_where_valid : (kind : Kind) (level value : ℕ) → is_some (core_of kind level value)
      ≡ is_valid kind level value
  pub fresh_content : FreshStays heading Patterns
  pub held : HeldBySentence heading Patterns
  pub held_changes : HeldChanges heading Patterns
  pub held_step : HeldAfter heading Patterns
  pub last_valid : LastValidBySentence
  pub notes_keep_the_events : NotesKeepEvents heading Patterns
  pub pattern_steps : PatternsAfter heading
