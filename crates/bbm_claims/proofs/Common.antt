-- The names that most proofs of this crate cite, passed on from one place. Declares nothing.
pub use Rattle.std.proofs.Common.{slice_set}
pub use Rattle.std.proofs.Math.Bool.{and-false, or-false, or_comm}
pub use Rattle.std.proofs.lemmas.List.{length-append, set_split}
pub use Rattle.bbm_claims.specs.Cleansings.{ends_now, tells}
pub use Rattle.bbm_claims.specs.Flushes.{completed_by}
pub use Rattle.bbm_claims.specs.Holdings.{ends_some, has, is_lost, next_lasts, stays_kept}
pub use Rattle.bbm_claims.specs.KnownOfClaims.{Known}
pub use Rattle.bbm_claims.specs.Marks.{answers_for, claim_mark, flush_mark, half_mark, is_of, is_true_of, mark_at}
pub use Rattle.bbm_claims.specs.Marks.{publication_mark, seen_mark, waits_at, wrote_mark}
pub use Rattle.bbm_claims.specs.Spans.{lasts}
pub use Rattle.bbm_claims.specs.declared.cleansings.Cleansing.{Cleansing}
pub use Rattle.bbm_claims.specs.declared.spans.Span.{Span}
pub use Rattle.bbm_histories.specs.ClaimSteps.{half_by, seen_by}
pub use Rattle.bbm_histories.specs.HistorySteps.{answered_by, is_tlbi, waits}
pub use Rattle.bbm_oracle_patterns.specs.Kept.{note_of, notes_behind, notes_of}
pub use Rattle.bbm_oracle_patterns.specs.declared.kept.Kept.{Kept}
pub use Rattle.bbm_oracle_tags.specs.declared.holding.Holding.{Holding}
pub use Rattle.bbm_regimes.specs.declared.regime.Tag.{Tag}
