-- The names that most proofs of the crates above cite, passed on from one place. Declares nothing.
pub use Prim.Native.String.{String}
pub use Rattle.std.proofs.Common.{Bool, Contains, Err, Global, IfOk, IfSome, List, None, Ok, Option, Result, Some, Vec}
pub use Rattle.std.proofs.Common.{[], add-one, ap, append-nil, append_assoc, arith, cond, count_by, drop, eqb, false}
pub use Rattle.std.proofs.Common.{filter, filter_map, find, flat_map, get_or, if◌then◌else◌, inl, inr, is_none, is_some}
pub use Rattle.std.proofs.Common.{le_of_suc-le-suc, length, length-append, lit≤, map, min, nat_eq, nat_le, nat_lt, not}
pub use Rattle.std.proofs.Common.{not-suc-le-zero, ok_or, option_and_then, option_map, option_to_list, refl, reverse}
pub use Rattle.std.proofs.Common.{rules, slice_get, slice_index_or, subst, suc, suc-le-suc, sym, take, true, true≢false}
pub use Rattle.std.proofs.Common.{unwrap_or, zero, zero-le, ℕ, ◌%◌, ◌&&◌, ◌*◌, ◌++◌, ◌+◌, ◌-◌, ◌/◌, ◌<◌, ◌==◌, ◌^◌}
pub use Rattle.std.proofs.Common.{◌||◌, ◌↔◌, ◌∙◌, ◌∷◌, ◌≡◌, ◌≢◌, ◌≤◌, ◌⊎◌}
pub use Rattle.std.proofs.Math.Nat.{suc_inj}
pub use Rattle.std.proofs.Math.Path.{fun_ext}
pub use Rattle.std.proofs.Math.Seq.{drop-cons}
pub use Rattle.std.proofs.lemmas.Bool.{and_from, and_left, and_parts, and_right, cases_eq, cases_lt, eq-eqb, eqb-false}
pub use Rattle.std.proofs.lemmas.Bool.{eqb-true, false_from_ne_true, false≢true, le-leb, le-ltb, leb-false, leb-true}
pub use Rattle.std.proofs.lemmas.Bool.{lt-ltb, ltb-false, ltb-true, ne_eqb, not-false, not-true, not_from_false}
pub use Rattle.std.proofs.lemmas.Bool.{or_cases, or_from, or_left, or_parts, or_right}
pub use Rattle.std.proofs.lemmas.Bool.Decides.{nat_tests}
pub use Rattle.std.proofs.lemmas.Fn.{filter_same}
pub use Rattle.std.proofs.lemmas.Grind.{common_steps}
pub use Rattle.std.proofs.lemmas.List.{drop_at, get_or_at, get_or_default, length-drop, length-reverse, length-take-le}
pub use Rattle.std.proofs.lemmas.List.{map-append, reverse-append, reverse-reverse, take-append-drop, take_all, take_at}
pub use Rattle.std.proofs.lemmas.List.{take_more}
pub use Rattle.std.proofs.lemmas.List.Elements.{filter_map-append}
pub use Rattle.std.proofs.lemmas.List.Folds.{list_any-append, list_any_more}
pub use Rattle.std.proofs.lemmas.List.Sums.{AllPass-from_list_all}
pub use Rattle.std.proofs.lemmas.Map.Views.{any-filter_same}
pub use Rattle.std.proofs.lemmas.Option.{none-some, same_Some, slice_get_read, slice_get_within}
pub use Rattle.std.proofs.lemmas.Result.{IfOk-weaker, err_from_is_err_and, on_ok_weaker}
pub use Rattle.std.specs.List.{cons_option, list_all, list_any}
pub use Rattle.std.specs.Map.{lookup}
pub use Rattle.std.specs.Option.{option_map_or}
pub use Rattle.std.specs.Prelude.{codes}
pub use Rattle.std.specs.Result.{result_ok}
pub use mathlib.Core.Bool.{and-false, and-true, and_comm, or-false, or_comm}
pub use Rattle.bbm_barriers.specs.Options.{answers, is_non}
pub use Rattle.bbm_barriers.specs.declared.Domain.TheVariants.{Inner}
pub use Rattle.bbm_barriers.specs.declared.Types.TheVariants.{All, Stores}
pub use Rattle.bbm_descriptor.specs.Descriptor.{Form, core_in, core_of, desc_as, desc_of, desc_with, differ, form_01}
pub use Rattle.bbm_descriptor.specs.Descriptor.{form_11, form_of, invalid, is_valid, leaf, needs, same_core, valid_form}
pub use Rattle.bbm_descriptor.specs.Fields.{contiguous_of, type_bits}
pub use Rattle.bbm_descriptor.specs.declared.desc.Core.{Core}
pub use Rattle.bbm_descriptor.specs.declared.desc.Desc.{Desc}
pub use Rattle.bbm_descriptor.specs.declared.desc.Desc.TheVariants.{Invalid, Leaf, Table}
pub use Rattle.bbm_events.specs.Fits.{fits_heading, is_page, is_pe, is_place, is_root_lock, is_root_page, is_value}
pub use Rattle.bbm_events.specs.Fits.{label_fits}
pub use Rattle.bbm_events.specs.Heading.{are_pes, heading_ok, is_version, may_share}
pub use Rattle.bbm_events.specs.declared.claim.Claim.{Claim}
pub use Rattle.bbm_events.specs.declared.claim.Claim.TheVariants.{Place, Taken, Two}
pub use Rattle.bbm_events.specs.declared.event.Item.{Item}
pub use Rattle.bbm_events.specs.declared.machine.MachineLine.{MachineLine}
pub use Rattle.bbm_events.specs.declared.machine.MachineLine.TheVariants.{Combine, Drop, Extend, Share, Start}
pub use Rattle.bbm_events.specs.declared.malformed.Malformed.TheVariants.{WrongCount}
pub use Rattle.bbm_lemmas.proofs.Bools.{first_true, or_middle, same_truth}
pub use Rattle.bbm_lemmas.proofs.Elements.{any_finds, any_found, contains_cases, contains_head, contains_more}
pub use Rattle.bbm_lemmas.proofs.Elements.{contains_none, from_contains, from_filter, from_map, in_append, in_left}
pub use Rattle.bbm_lemmas.proofs.Elements.{in_map, in_right, in_split, is_none_of, none_of, to_contains, to_filter}
pub use Rattle.bbm_lemmas.proofs.Elements.{to_flat}
pub use Rattle.bbm_lemmas.proofs.Every.{every_same, every_wider}
pub use Rattle.bbm_lemmas.proofs.Reversed.{reverse_more}
pub use Rattle.bbm_lemmas.proofs.Tautologies.{proved}
pub use Rattle.bbm_lemmas.proofs.Tautologies.Claim.{If, Is}
pub use Rattle.bbm_lemmas.proofs.Words.{bind_some, pe_finds, with_has, with_keeps}
pub use Rattle.bbm_lemmas.specs.Elements.{In}
pub use Rattle.bbm_lemmas.specs.EveryPe.{every_pe}
pub use Rattle.bbm_lemmas.specs.ListWords.{same_flag}
pub use Rattle.bbm_regimes.specs.Extent.{Extent, holds, meets}
pub use Rattle.bbm_regimes.specs.World.{are_s2_pages, page_count, world_ok}
pub use Rattle.bbm_regimes.specs.declared.pe.PeMask.{PeMask}
pub use Rattle.bbm_regimes.specs.declared.regime.Kind.{Kind}
pub use Rattle.bbm_regimes.specs.declared.regime.Which.{Which}
pub use Rattle.bbm_regimes.specs.declared.regime.Which.TheVariants.{Pages, Roots}
pub use Rattle.bbm_rules.specs.Answers.{Answers, rewrites}
pub use Rattle.bbm_rules.specs.Attach.{Attached, End, all_ends, attached_by, attached_from, end_at, ends_below}
pub use Rattle.bbm_rules.specs.Attach.{pages_of}
pub use Rattle.bbm_rules.specs.Broken.{Breach, breaks, first_broken, keeps}
pub use Rattle.bbm_rules.specs.Changes.{changes}
pub use Rattle.bbm_rules.specs.Claims.{Trust, same_claim, same_tag}
pub use Rattle.bbm_rules.specs.Claims.Trust.{Listed, Patterns}
pub use Rattle.bbm_rules.specs.Cleansing.{answered_where, answers_one, cleansed, flushes, full_step, half}
pub use Rattle.bbm_rules.specs.Cleansing.{publishes_write, same_cover, second_step, seen, writes}
pub use Rattle.bbm_rules.specs.Covers.{cover_at, is_global, note, noted, view_at}
pub use Rattle.bbm_rules.specs.Fold.{Ending, Fold, Halts, Passes, Text, Turned, bytes_of, ending_after, ending_at}
pub use Rattle.bbm_rules.specs.Fold.{ending_from, header_by, is_too_long, lines_from, passes_to, text_of}
pub use Rattle.bbm_rules.specs.Held.{ValidWrite, cleansed_everywhere, held, last_valid, last_valid_after, later}
pub use Rattle.bbm_rules.specs.Limits.{limit_of}
pub use Rattle.bbm_rules.specs.Lists.{among, any, below, every, if_so, is_that, least, one_number, repeated, some}
pub use Rattle.bbm_rules.specs.Lists.{some_pe, with_number, ◌>>=◌}
pub use Rattle.bbm_rules.specs.Locks.{holder_of}
pub use Rattle.bbm_rules.specs.Notes.{Noted, events_of}
pub use Rattle.bbm_rules.specs.Outcome.{AtEnd, AtEvents, AtHeader, Judged, Progress, after_item, after_judged}
pub use Rattle.bbm_rules.specs.Outcome.{after_kept, after_line, cut_at, events_in, limit_at, outcome_of}
pub use Rattle.bbm_rules.specs.Outcome.{too_long_at, unrefused, verdict_of_bytes}
pub use Rattle.bbm_rules.specs.Pages.{initialised, is_fresh, is_null, may_be_fresh}
pub use Rattle.bbm_rules.specs.PatternSentences.{Answer, Cleansed, Flush, HalfBy, IsLastValid, OneStep, Publication}
pub use Rattle.bbm_rules.specs.PatternSentences.{TwoSteps}
pub use Rattle.bbm_rules.specs.Phases.{broken_phase, is_restless}
pub use Rattle.bbm_rules.specs.Places.{index_of, page_of}
pub use Rattle.bbm_rules.specs.Prelude.{Asid, AsidFrom, Barrier, Dmb, Dsb, El2, El2Tag, Event, FromTtbr0, FromTtbr1}
pub use Rattle.bbm_rules.specs.Prelude.{Heading, Hyp, Init, Isb, Kernel, Lock, Msr, Null, Reg, Root, S2, Scope, Tag}
pub use Rattle.bbm_rules.specs.Prelude.{Tlbi, TlbiOp, Ttbr0, Ttbr0El1, Ttbr0El2, Ttbr1, Ttbr1El1, Ttbr1Tag, Unlock}
pub use Rattle.bbm_rules.specs.Prelude.{Unroot, Vmid, VttbrEl2, World, Write}
pub use Rattle.bbm_rules.specs.Reach.{Issued, completes, left_open, reaches, unanswered}
pub use Rattle.bbm_rules.specs.RegisterValues.{base_of, kind_of_reg, lacks_vmid, named_scope, register_values, same_reg}
pub use Rattle.bbm_rules.specs.RegisterValues.{tag_number, vmid_of}
pub use Rattle.bbm_rules.specs.Roots.{Declared, input_pages, is_at, is_root, kind_in_world, lock_of, pages_from}
pub use Rattle.bbm_rules.specs.Roots.{retired, root_at, root_pages, roots_of, same_kind, start_of}
pub use Rattle.bbm_rules.specs.Rules.{attached_with, bad_ends, bad_kind, break_before_make, global_user, is_base_at}
pub use Rattle.bbm_rules.specs.Rules.{is_contiguous, judged_ends, lacks, limbo_make, made_with, no_lock, no_root}
pub use Rattle.bbm_rules.specs.Rules.{not_fresh, null_written, page_in_use, places_with, rewritten_fresh, tag_conflict}
pub use Rattle.bbm_rules.specs.Rules.{unfresh, untracked_page, written_with}
pub use Rattle.bbm_rules.specs.Sentences.{IsDeclared, Open, TakenAway, completes_for, issues}
pub use Rattle.bbm_rules.specs.TagSentences.{ReadsTag}
pub use Rattle.bbm_rules.specs.Tags.{Reading, asid_readings, distinct, ends, ever_read, holds_at, holds_tag, itself}
pub use Rattle.bbm_rules.specs.Tags.{kept_at, left_at, left_tag, loses}
pub use Rattle.bbm_rules.specs.Roots.{first_pages, given_up, gives_up}
pub use Rattle.bbm_rules.specs.Tags.{read_since, readings, readings_in, readings_of, reads, reads_for_some, tag_for}
pub use Rattle.bbm_rules.specs.Tags.{tag_set, tags_of, takes_tag}
pub use Rattle.bbm_rules.specs.Tree.{Above, Node, child_at, children, held_at, in_limbo, in_tree, is_childless, next_in}
pub use Rattle.bbm_rules.specs.Tree.{next_of, node_below, node_of, nodes_of_pages, nodes_of_root, region_of}
pub use Rattle.bbm_rules.specs.Tree.{region_start, starts_at}
pub use Rattle.bbm_rules.specs.TreeSentences.{Childless, Down, IsNode}
pub use Rattle.bbm_rules.specs.Values.{is_readable, places_in, published, publishes_to, readable_before, value_of}
pub use Rattle.bbm_rules.specs.Values.{written_places}
pub use Rattle.bbm_tlbi_scope.specs.Agreement.{read_through, tag_of}
pub use Rattle.bbm_tlbi_scope.specs.Decode.{scope_of}
pub use Rattle.bbm_tlbi_scope.specs.Numbers.{names_some}
pub use Rattle.bbm_tlbi_scope.specs.Operations.{has_page, of_world, operation, scoped_by_vmid}
pub use Rattle.bbm_tlbi_scope.specs.ScopeCovers.{cover_by, cover_of, fits_place, vmid_matches}
pub use Rattle.bbm_tlbi_scope.specs.ScopeTags.{takes_whole_tag}
pub use Rattle.bbm_tlbi_scope.specs.Takes.{taken}
pub use Rattle.bbm_tlbi_scope.specs.declared.entry.Cover.{Cover}
pub use Rattle.bbm_tlbi_scope.specs.declared.entry.Cover.TheVariants.{Full, Half, Second}
pub use Rattle.bbm_tlbi_scope.specs.declared.entry.EntryHead.{EntryHead}
pub use Rattle.bbm_tlbi_scope.specs.declared.entry.EntryKind.{EntryKind}
pub use Rattle.bbm_tlbi_scope.specs.declared.entry.EntryKind.TheVariants.{Combined, Stage2}
pub use Rattle.bbm_tlbi_scope.specs.declared.entry.PlaceView.{PlaceView}
pub use Rattle.bbm_tlbi_scope.specs.declared.entry.TagSet.{TagSet}
pub use Rattle.bbm_tlbi_scope.specs.declared.entry.TagSet.TheVariants.{Many, One}
pub use Rattle.bbm_tlbi_scope.specs.declared.op.TlbiOp.TheVariants.{Ipas2e1is, Vae2is}
pub use Rattle.bbm_tlbi_scope.specs.declared.scope.Family.{Family}
pub use Rattle.bbm_tlbi_scope.specs.declared.scope.Family.TheVariants.{E1All, El2All, El2Va, Ipa, Va, VaAll, VmAll1}
pub use Rattle.bbm_tlbi_scope.specs.declared.scope.Family.TheVariants.{VmAll12}
