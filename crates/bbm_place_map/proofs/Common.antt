-- The names that most proofs of this crate cite, passed on from one place. Declares nothing.
pub use Rattle.indexmap.proofs.MapLemmas.{OnOk-map}
pub use Rattle.smallvec.specs.SmallVec.{SmallVec}
pub use Rattle.std.proofs.Common.{Bool, Contains, IfSome, IsTrue, List, None, Option, Some, [], ap, arith, count_by}
pub use Rattle.std.proofs.Common.{drop, false, get_or, if◌then◌else◌, inl, inr, is_some, length, nat_eq, nat_le, nat_lt}
pub use Rattle.std.proofs.Common.{not, refl, set, slice_get, slice_index, subst, suc, sym, take, true, unwrap_or}
pub use Rattle.std.proofs.Common.{vec_capacity, vec_len, zero, ℕ, ◌%◌, ◌&&◌, ◌*◌, ◌++◌, ◌+◌, ◌-◌, ◌/◌, ◌<◌, ◌==◌, ◌||◌}
pub use Rattle.std.proofs.Common.{◌↔◌, ◌∙◌, ◌∷◌, ◌≡◌, ◌≢◌, ◌≤◌, ◌⊎◌}
pub use Rattle.std.proofs.Common.{cond, option_and_then, replicate}
pub use Rattle.std.proofs.lemmas.Bool.{and_from, cases_Bool, cases_eq, cases_lt, cond-false, cond-true, eq-eqb}
pub use Rattle.std.proofs.lemmas.Bool.{eqb-true, false≢true, le-leb, lt-leb, lt-ltb, ltb-true, ne_eqb, or_left}
pub use Rattle.std.proofs.lemmas.Bool.{or_right}
pub use Rattle.std.proofs.lemmas.List.{get_or_default, get_or_past, length-set, nil_from_length}
pub use Rattle.std.proofs.lemmas.List.Sums.{count_by-le-length}
pub use Rattle.std.proofs.lemmas.Option.{none-some, same_Some, slice_get-get_or, slice_get_cases, slice_get_past}
pub use Rattle.std.proofs.lemmas.Option.{slice_get_read, slice_get_within}
pub use Rattle.std.specs.List.{swap_remove}
pub use Rattle.std.specs.Option.{option_map}
pub use Rattle.std.specs.Prelude.{Vec}
pub use Rattle.std.specs.declared.alloc.Global.{Global}
pub use mathlib.Core.Bool.{and-false}
pub use mathlib.Core.Path.{fun_ext}
pub use Rattle.bbm_barriers.specs.Options.{answers, answers_broadcast, answers_local, publishes}
pub use Rattle.bbm_barriers.specs.declared.Dsb.{Dsb}
pub use Rattle.bbm_barriers.specs.declared.Types.TheVariants.{All, Stores}
pub use Rattle.bbm_descriptor.specs.Descriptor.{core_of}
pub use Rattle.bbm_descriptor.specs.declared.desc.Core.{Core}
pub use Rattle.bbm_entry_state.specs.Answered.{answered_at}
pub use Rattle.bbm_entry_state.specs.EntryCalls.{Completed, Noted, Published, Written, clean_after, counts_at}
pub use Rattle.bbm_entry_state.specs.EntryStanding.{IsIdle}
pub use Rattle.bbm_entry_state.specs.Points.{core_in, waits, waits_in}
pub use Rattle.bbm_entry_state.specs.declared.marks.Marks.{Marks}
pub use Rattle.bbm_entry_state.specs.declared.pending.Pend.{Pend}
pub use Rattle.bbm_entry_state.specs.declared.pending.Pends.{Pends}
pub use Rattle.bbm_entry_state.specs.declared.state.EntryState.{EntryState}
pub use Rattle.bbm_entry_state.specs.declared.state.EntryState.TheVariants.{Broken, Clean, Live}
pub use Rattle.bbm_lemmas.proofs.Bools.{with_true}
pub use Rattle.bbm_lemmas.proofs.Tautologies.{proved}
pub use Rattle.bbm_lemmas.proofs.Tautologies.Claim.{If, Is}
pub use Rattle.bbm_lemmas.specs.EveryPe.{every_pe}
pub use Rattle.bbm_place_map.proofs.Points.{either, if_then, put_away, put_here, split_at, split_by}
pub use Rattle.bbm_place_map.specs.Cells.{cell_by, in_page, is_listed, number_of, slot_in, value_in}
pub use Rattle.bbm_place_map.specs.Dsbs.{IsHeard, IsUnanswered}
pub use Rattle.bbm_place_map.specs.Each.{Advances, Completes, Does, MayDo, Publishes, loses, next_of}
pub use Rattle.bbm_place_map.specs.Entries.{Adds, HasRoom, IsFirst, Lacks, WaitsAlike, cell_at, entry_in, entry_of}
pub use Rattle.bbm_place_map.specs.Entries.{lane_of, marks_of, no_pend, no_pends, pend_in, pends_in, pends_of, position}
pub use Rattle.bbm_place_map.specs.Entries.{position_at}
pub use Rattle.bbm_place_map.specs.Finds.{FoundAs, cover_in, is_found}
pub use Rattle.bbm_page_map.specs.PageLists.{number_in}
pub use Rattle.bbm_place_map.specs.Map.{is_tracked, page_of, place_entry, state_at}
pub use Rattle.bbm_place_map.specs.MapCalls.{Frees, IsSame, KeepsItems, Leaves}
pub use Rattle.bbm_place_map.specs.Parts.{IsSound, entry_of_cell, marks_in, pends_for}
pub use Rattle.bbm_place_map.specs.ByNumber.{Breaks, BrokenMap, ChangesOne, Clears, EachAdvances, HoldsSame, IsKept}
pub use Rattle.bbm_place_map.specs.ByNumber.{IsOnce, SameSeats, VisitsPlaces, entry_at, entry_number, number_at}
pub use Rattle.bbm_place_map.specs.PlaceNotes.{Keeps, KeepsOthers, NotesAmong, NotesAs, NotesAt}
pub use Rattle.bbm_place_map.specs.PlaceNotes.{AtPlace, NotesFound, is_cover}
pub use Rattle.bbm_place_map.specs.Sound.{Linked, Numbered, Placed, SameSize, at_index, bases, index_of}
pub use Rattle.bbm_place_map.specs.Puts.{AreSeated, ClearsCells, KeepsRoom, MarksCell, StillSound, WasSeated}
pub use Rattle.bbm_place_map.specs.States.{marks_of_state, state_from}
pub use Rattle.bbm_place_map.specs.Works.{Holds, HoldsFor, IsQuiet, IsTold, Rests, RestsAt, Stays, Waits, is_clean}
pub use Rattle.bbm_place_map.specs.Works.{part}
pub use Rattle.bbm_place_map.specs.declared.entries.Entries.{Entries}
pub use Rattle.bbm_place_map.specs.declared.entry.Entry.{Entry}
pub use Rattle.bbm_place_map.specs.declared.entry.Pending.{Pending}
pub use Rattle.bbm_place_map.specs.declared.found.Found.{Found}
pub use Rattle.bbm_place_map.specs.declared.map.PlaceMap.{PlaceMap}
pub use Rattle.bbm_place_map.specs.declared.orders.Barrier.{Barrier}
pub use Rattle.bbm_place_map.specs.declared.orders.Effect.{Effect}
pub use Rattle.bbm_place_map.specs.declared.orders.Effect.TheVariants.{Complete, Publish}
pub use Rattle.bbm_place_map.specs.declared.orders.Issuing.{Issuing}
pub use Rattle.bbm_place_map.specs.declared.work.Work.{Work}
pub use Rattle.bbm_place_map.specs.declared.work.WorkList.{WorkList}
pub use Rattle.bbm_regimes.specs.PeMask.{pe_in}
pub use Rattle.bbm_regimes.specs.declared.pe.PeMask.{PeMask}
pub use Rattle.bbm_tlbi_scope.specs.SameCover.{same_cover}
pub use Rattle.bbm_tlbi_scope.specs.declared.entry.Cover.{Cover}
pub use Rattle.bbm_tlbi_scope.specs.declared.entry.Cover.TheVariants.{Full, Half, Second, None as NoCover}
