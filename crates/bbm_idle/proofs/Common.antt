-- The names that most proofs of this crate cite, passed on from one place. Declares nothing.
pub use Rattle.std.specs.Prelude.{Bool, List, Option, Some, [], false, refl, true, ◌∷◌, ◌≡◌}
pub use Rattle.bbm_alike.specs.Alike.{Alike, SamePatterns}
pub use Rattle.bbm_events.specs.Heading.{Heading}
pub use Rattle.bbm_histories.specs.HistorySteps.{answered_by, half_after, half_waits, is_tlbi}
pub use Rattle.bbm_idle.specs.Finding.{AreTaken, IsSearch, is_kept, is_kept_by, is_taken, needed_by, place_adds, waits}
pub use Rattle.bbm_idle.specs.Finding.{waits_after}
pub use Rattle.bbm_idle.specs.Idle.{adds, adds_at, adds_since, adds_to, adds_with, answers_needed, idle_marks}
pub use Rattle.bbm_idle.specs.Idle.{is_needed, is_needed_at, keeps_phases, without, without_idle, wrote_register}
pub use Rattle.bbm_alike.specs.SameTags.{takes_of}
pub use Rattle.bbm_idle.specs.KnownOfIdle.{Known}
pub use Rattle.bbm_idle.specs.SamePhase.{same_phase}
pub use Rattle.bbm_oracle_patterns.specs.declared.search.TreePlace.{TreePlace}
pub use Rattle.bbm_oracle_patterns.specs.Kept.{note_of, notes_of}
pub use Rattle.bbm_oracle_patterns.specs.PlacePhases.{phase_at}
pub use Rattle.bbm_oracle_patterns.specs.declared.kept.Kept.{Kept}
pub use Rattle.bbm_oracle_tags.specs.Watches.{is_cast}
pub use Rattle.bbm_oracle_trees.specs.Past.{Past, notes}
pub use Rattle.bbm_oracle_trees.specs.ByPatterns.{StandsByPatterns}
pub use Rattle.bbm_rules.specs.Claims.{Patterns}
pub use Rattle.bbm_rules.specs.Prelude.{Kind}
pub use Rattle.bbm_rules.specs.declared.phase.Phase.{Phase}
pub use Rattle.bbm_rules.specs.declared.phase.Phase.TheVariants.{Clean, Live}
