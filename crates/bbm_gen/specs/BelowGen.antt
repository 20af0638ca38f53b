-- What the crates of the rules and of the histories prove, as far as the proof here needs it, under the header of the
-- generated logs.
use Rattle.std.specs.Prelude.{List}
use Rattle.bbm_rules.specs.Prelude.{Event}
use Rattle.bbm_rules.specs.BrokenLaws.{NotesKeepEvents}
use Rattle.bbm_rules.specs.Claims.{Patterns}
use Rattle.bbm_rules.specs.Covers.{noted}
use Rattle.bbm_rules.specs.Notes.{Noted}
use Rattle.bbm_histories.specs.ContentLaws.{HeldChanges}
use Rattle.bbm_histories.specs.PositionLaws.{SingleNode, TreeAfter}
use Rattle.bbm_histories.specs.TreeChanges.{Proper}
use Rattle.bbm_gen.specs.Generated.{heading}

-- the annotated history
abbrev pub notes : List Event → List Noted
notes h = noted heading Patterns h

pub record Below : Type 0 where
  pub proper : Proper heading
  pub held_changes : HeldChanges heading Patterns
  pub notes_keep_the_events : NotesKeepEvents heading Patterns
  pub one_node : SingleNode heading Patterns
  pub tree_step : TreeAfter heading Patterns
