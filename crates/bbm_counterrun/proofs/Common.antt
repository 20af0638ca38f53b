-- The names that most proofs of this crate cite, passed on from one place. Declares nothing.
pub use Rattle.std.proofs.lemmas.Bool.{not_from_true}
pub use Rattle.std.proofs.lemmas.List.{append-nil, append_assoc, length-append}
pub use Rattle.std.specs.Prelude.{List, None, Option, Some, [], refl, reverse, true, ℕ, ◌∷◌, ◌≡◌}
pub use Rattle.bbm_counterrun.specs.LeastList.{HasLeastReads, PlansHaveLeastReads}
pub use Rattle.bbm_counterrun.specs.Plans.{IsFirst, IsPlain, Plan, Read, behind, by_combine, by_reads}
pub use Rattle.bbm_rules.specs.Lists.{by_number}
pub use Rattle.bbm_counterrun.specs.Plans.{combine_of, combine_within, comes_before, drops, extends, is_within, made_by}
pub use Rattle.bbm_counterrun.specs.Plans.{reads_of, run_of, walk_of}
pub use Rattle.bbm_counterrun.specs.RefusedWrite.{ends_at_leaf, holds_leaf}
pub use Rattle.bbm_counterrun.specs.Searching.{BestAmong, Choice, FindsAll, FindsAt, FindsNumber, FirstCombine, FirstIn}
pub use Rattle.bbm_counterrun.specs.Searching.{NoneAt, blocks, forbidden_by, joins, outlives_by, plain_at, plain_by}
pub use Rattle.bbm_counterrun.specs.Searching.{plain_with, plan_found, plan_of}
pub use Rattle.bbm_counterrun.specs.Tested.{PlainIsTested, combined_by, extended_by, first_events}
pub use Rattle.bbm_counterrun.specs.Tested.{forbids, is_forbidden, is_plain, may_extend_by, may_walk}
pub use Rattle.bbm_counterrun.specs.Tested.{outlives, started_by, walked_by}
pub use Rattle.bbm_counterrun.specs.TlbiAnswers.{Answer, IsAnswers, answer_at, forbids_by}
pub use Rattle.bbm_counterrun.specs.Ways.{Goal, is_like, least_read, least_reads, way_among, way_to, written_at}
pub use Rattle.bbm_oracle_trees.specs.HistoryStandsFor.{StandsFor}
pub use Rattle.bbm_oracle_trees.specs.Past.{notes}
pub use Rattle.bbm_rules.specs.Claims.{Patterns}
pub use Rattle.bbm_rules.specs.Prelude.{Kind, start_of}
pub use Rattle.bbm_tlb_machine.specs.Entry.{Entry, Part, age_by, desc_in, is_leaf, parts_of, tag_of_entry}
pub use Rattle.bbm_tlb_machine.specs.Invariant.{Begins, Chained, Fine}
pub use Rattle.bbm_tlb_machine.specs.MachineLaws.{RunsAreFollowed}
pub use Rattle.bbm_tlb_machine.specs.MachinePendings.{IsPending, is_answered, must_leave}
pub use Rattle.bbm_tlb_machine.specs.MachineRun.{IsRun, Living, State, step_to}
pub use Rattle.bbm_tlb_machine.specs.Safe.{IsLog, conflicts_with, first_conflict, in_conflict, is_stale}
pub use Rattle.bbm_tlb_machine.specs.Step.{combined, extended, has_number, is_stage2, may_extend, may_start, must_go}
pub use Rattle.bbm_tlb_machine.specs.Step.{started, takes_by}
pub use Rattle.bbm_tlb_machine.specs.declared.step.Step.{Step}
pub use Rattle.bbm_tlb_machine.specs.declared.step.Step.TheVariants.{Machine}
