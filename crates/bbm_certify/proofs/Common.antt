-- The names that most proofs of this crate cite, passed on from one place. Declares nothing.
pub use Rattle.std.proofs.Common.{insert}
pub use Rattle.bbm_claims.specs.Flushes.{completed_by, is_flush_of}
pub use Rattle.bbm_claims.specs.Holdings.{has}
pub use Rattle.bbm_certify.specs.DueAt.{IsDueAt, IsDueIn, IsDueSince, IsNewest, IsUncleansed}
pub use Rattle.bbm_certify.specs.KnownOfCertificates.{Known}
pub use Rattle.bbm_certify.specs.LeastClaims.{Ascending, IsCertificate, IsCleansed, IsDue, IsLeast, OneAt, TakenAt}
pub use Rattle.bbm_certify.specs.LeastClaims.{TwoAt, claim_key, less}
pub use Rattle.bbm_certify.specs.Made.{AreDue, HasTaken, IsMaking}
pub use Rattle.bbm_certify.specs.Making.{AreEnds, AreHalves, BeginsAt, IsFirst, IsLeastClaim, IsPattern, NoHalves}
pub use Rattle.bbm_certify.specs.Making.{NoneBelow, answering, answers, finishes, finishing, publishes, publishing}
pub use Rattle.bbm_certify.specs.Making.{waiting}
pub use Rattle.bbm_certify.specs.Orders.{Adds}
pub use Rattle.bbm_certify.specs.Taken.{AreTaken, IsKnown, IsTaken, ReadsAreWritten, is_open, takes}
pub use Rattle.bbm_certify.specs.declared.patterns.Pattern.{Pattern}
pub use Rattle.bbm_certify.specs.declared.patterns.Pattern.TheVariants.{One}
pub use Rattle.bbm_lemmas.proofs.Elements.{split_in}
pub use Rattle.bbm_oracle_patterns.specs.Kept.{cover_in, note_of, notes_behind, notes_of}
pub use Rattle.bbm_oracle_patterns.specs.Walk.{is_write_of}
pub use Rattle.bbm_oracle_patterns.specs.declared.kept.Kept.{Kept}
pub use Rattle.bbm_oracle_tags.specs.declared.holding.Holding.{Holding}
pub use Rattle.bbm_oracle_trees.specs.Past.{notes}
pub use Rattle.bbm_rules.specs.Claims.{allows}
pub use Rattle.bbm_rules.specs.PatternSentences.{Seen}
pub use Rattle.bbm_rules.specs.Prelude.{Kind}
