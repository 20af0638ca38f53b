-- The names that most proofs of this crate cite, passed on from one place. Declares nothing.
pub use Rattle.bbm_entry_state.specs.EntryCalls.{Completed, Noted, Published, Written}
pub use Rattle.bbm_entry_state.specs.EntryStanding.{IsIdle}
pub use Rattle.bbm_entry_state.specs.Points.{core_in, is_broken, waits}
pub use Rattle.bbm_entry_state.specs.declared.marks.Marks.{Marks}
pub use Rattle.bbm_entry_state.specs.declared.pending.Pends.{Pends}
pub use Rattle.bbm_entry_state.specs.declared.state.EntryState.{EntryState}
pub use Rattle.bbm_entry_state.specs.declared.state.EntryState.TheVariants.{Clean, Live}
pub use Rattle.bbm_events.specs.Heading.{Heading}
pub use Rattle.bbm_histories.proofs.Induction.{kept_next}
pub use Rattle.bbm_lemmas.proofs.Bools.{third_true}
pub use Rattle.bbm_place_map.specs.Finds.{FoundAs, is_found}
pub use Rattle.bbm_place_map.specs.Map.{is_tracked, marks_at, pends_at, restless_place, state_at, value_at}
pub use Rattle.bbm_place_map.specs.MapCalls.{IsSame, Puts, WritesAs}
pub use Rattle.bbm_place_map.specs.States.{marks_of_state, state_from}
pub use Rattle.bbm_place_map.specs.declared.found.Found.{Found}
pub use Rattle.bbm_place_map.specs.declared.map.PlaceMap.{PlaceMap}
pub use Rattle.bbm_place_map.specs.declared.position.Position.{Position}
pub use Rattle.bbm_regimes.specs.PeMask.{pe_in}
pub use Rattle.bbm_regimes.specs.SameRegister.{same_kind}
pub use Rattle.bbm_regimes.specs.World.{input_pages}
pub use Rattle.bbm_regimes.specs.declared.regime.Kind.TheVariants.{El2, S2, Ttbr0, Ttbr1}
pub use Rattle.bbm_replay.specs.Covering.{Grows, IsCovered, IsPathOf, IsSettled, IssuesAt, MayBeIssued, asks_childless}
pub use Rattle.bbm_replay.specs.Covering.{asks_tags}
pub use Rattle.bbm_replay.specs.Leaves.{attached_next, is_contiguous_core, is_global_core}
pub use Rattle.bbm_replay.specs.OnePage.{IsOnWay, MetFromAll, NamesOne, covers_kind}
pub use Rattle.bbm_replay.specs.ReplayFaults.{step_fault}
pub use Rattle.bbm_replay.specs.ReplayLaws.{Laws}
pub use Rattle.bbm_replay.specs.ReplayRules.{Rules}
pub use Rattle.bbm_replay.specs.ReplayStanding.{Admitted, Admits, IsAt, IsFrugal, IsUnlocked, Links, MayAdmit}
pub use Rattle.bbm_replay.specs.ReplayStanding.{MayMeet, Meets, PartsStand, SameFrame, WritesTree}
pub use Rattle.bbm_replay.specs.ReplayTold.{Apart, Told, state_of, view_of, waiting}
pub use Rattle.bbm_replay.specs.declared.parts.ReplayState.{ReplayState}
pub use Rattle.bbm_replay.specs.declared.tlbi_cover.Covering.{Covering}
pub use Rattle.bbm_replay_entries.specs.EntryEvents.{touches}
pub use Rattle.bbm_replay_entries.specs.EntryStands.{EntryStands}
pub use Rattle.bbm_roots.specs.Listed.{nth_in}
pub use Rattle.bbm_roots.specs.declared.named.NamedTlbi.{NamedTlbi}
pub use Rattle.bbm_roots.specs.declared.roots.Roots.{Roots}
pub use Rattle.bbm_replay_trees.specs.Judging.{Judging}
pub use Rattle.bbm_replay_trees.specs.Told.{AllFit, SameCores, View, is_held_by, kept, notes}
pub use Rattle.bbm_rules.specs.Answers.{takes_no_memory}
pub use Rattle.bbm_rules.specs.Broken.{broken}
pub use Rattle.bbm_rules.specs.Prelude.{Kind, kind_in_world}
pub use Rattle.bbm_rules.specs.declared.rule.Rule.{Rule}
pub use Rattle.bbm_rules.specs.declared.rule.Rule.TheVariants.{BadKind, BreakBeforeMake, GlobalUser, LimboMake, NoLock}
pub use Rattle.bbm_rules.specs.declared.rule.Rule.TheVariants.{NotFresh, NullWritten, PageInUse, RewrittenFresh}
pub use Rattle.bbm_rules.specs.declared.rule.Rule.TheVariants.{TableMapped, WrongWorld}
pub use Rattle.bbm_rules.specs.declared.step_fault.StepFault.{StepFault}
pub use Rattle.bbm_rules.specs.declared.step_fault.StepFault.TheVariants.{Broken, Limit, NoMemory}
pub use Rattle.bbm_tlbi_scope.specs.Numbers.{lacks_vmid, names_all}
pub use Rattle.bbm_tlbi_scope.specs.declared.scope.Family.TheVariants.{Asid}
pub use Rattle.bbm_tlbi_scope.specs.declared.scope.Scope.{Scope}
pub use Rattle.bbm_tree_index.specs.Descent.{IsWay, Translates}
pub use Rattle.bbm_tree_index.specs.HeldCores.{core_at, core_with, is_at, limbo_by, next_in}
pub use Rattle.bbm_tree_index.specs.Index.{SamePages, SameTracked, fresh_in, heading_of, node_in, null_in}
pub use Rattle.bbm_tree_index.specs.IndexAgreement.{is_sound}
pub use Rattle.bbm_tree_index.specs.Nodes.{path_at}
pub use Rattle.bbm_tree_index.specs.Paths.{Attached}
pub use Rattle.bbm_tree_index.specs.declared.fault.TreeFault.{TreeFault}
pub use Rattle.bbm_tree_index.specs.declared.index.TreeIndex.{TreeIndex}
pub use Rattle.bbm_tree_index.specs.declared.role.Path.{Path}
pub use Rattle.std.proofs.lemmas.Option.{cond_some}
pub use Rattle.std.specs.Option.{option_map}
pub use Rattle.std.specs.Prelude.{unwrap_or}
pub use borrow.Author.Count.{below_more}
