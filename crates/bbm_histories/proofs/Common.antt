-- The names that most proofs of this crate cite, passed on from one place. Declares nothing.
pub use Rattle.std.proofs.Math.Bool.{and-false, and-true, or-false}
pub use Rattle.std.proofs.lemmas.List.{append_assoc}
pub use Rattle.bbm_events.specs.Heading.{Heading}
pub use Rattle.bbm_events.specs.declared.event.Event.{Event}
pub use Rattle.bbm_events.specs.declared.event.Event.TheVariants.{Dsb, Init, Root, Unroot, Write}
pub use Rattle.bbm_histories.specs.BelowHistories.{Below}
pub use Rattle.bbm_histories.specs.ClaimSteps.{cleansed_under}
pub use Rattle.bbm_histories.specs.HistorySteps.{answered_by, held_after, seen_after, waits}
pub use Rattle.bbm_histories.specs.PatternSteps.{Quiet}
pub use Rattle.bbm_histories.specs.TreeChanges.{Attaches, InTree, InTreeAfter, Linked, Planted, Proper, StillHeld}
pub use Rattle.bbm_histories.specs.TreeChanges.{Through}
pub use Rattle.bbm_histories.specs.ValueChanges.{MakesReadable, NoInit, OddStays}
pub use Rattle.bbm_regimes.specs.declared.regime.Kind.TheVariants.{Ttbr0}
pub use Rattle.bbm_rules.specs.PatternSentences.{Holds}
pub use Rattle.bbm_rules.specs.Prelude.{Kind}
pub use Rattle.bbm_rules.specs.Sentences.{Published, Readable}
pub use Rattle.bbm_rules.specs.TreeSentences.{Leads}
pub use Rattle.bbm_rules.specs.declared.rule.Rule.{Rule}
pub use Rattle.bbm_rules.specs.declared.rule.Rule.TheVariants.{PageInUse, WrongWorld}
