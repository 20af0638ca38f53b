-- The names that most proofs of this crate cite, passed on from one place. Declares nothing.
pub use Rattle.indexmap.specs.IndexMap.{IndexMap, get, index_map_len, keys}
pub use Rattle.std.proofs.Common.{Bool, BuildHasherDefault, FoldHasher, HashMap, IsSome, List, None, Option, Some, []}
pub use Rattle.std.proofs.Common.{ap, arith, cond, false, get_or, is_some, length, nat_eq, nat_le, nat_lt, not, refl}
pub use Rattle.std.proofs.Common.{rules, set, slice_index_or, subst, suc, sym, take, true, zero, ℕ, ⊎_elim, ◌&&◌, ◌++◌}
pub use Rattle.std.proofs.Common.{◌+◌, ◌<◌, ◌==◌}
pub use Rattle.std.proofs.Common.{◌||◌, ◌∙◌, ◌∷◌, ◌≡◌, ◌≤◌, Result, map}
pub use Rattle.std.proofs.Math.Bool.{or_assoc}
pub use Rattle.std.proofs.Math.Dec.{eqb-suc-suc, eqb-suc-zero, eqb-zero-suc}
pub use Rattle.std.proofs.Math.Path.{fun_ext}
pub use Rattle.std.proofs.lemmas.Bool.{cases_lt, eq-eqb, eqb-true, false≢true, lt-ltb, ltb-true, not-false, not-true}
pub use Rattle.std.proofs.lemmas.Bool.{or_left}
pub use Rattle.std.proofs.lemmas.Bool.{or_right, true_from_ne_false}
pub use Rattle.std.proofs.lemmas.Bool.Decides.{nat_tests}
pub use Rattle.std.proofs.lemmas.List.{take_all}
pub use Rattle.std.proofs.lemmas.List.Folds.{list_any-append}
pub use Rattle.std.proofs.lemmas.Option.{get_or_from_slice_get}
pub use Rattle.std.specs.List.{flat_map, list_all, list_any, slice_get}
pub use Rattle.std.specs.Map.{lookup}
pub use Rattle.std.specs.Option.{option_and_then}
pub use mathlib.Core.Bool.{and-false, and-true, or-false}
pub use Rattle.bbm_barriers.specs.Options.{answers}
pub use Rattle.bbm_barriers.specs.declared.Dsb.{Dsb}
pub use Rattle.bbm_events.specs.Heading.{Heading}
pub use Rattle.bbm_events.specs.declared.event.Event.{Event}
pub use Rattle.bbm_events.specs.declared.event.Event.TheVariants.{Tlbi, Msr, Dsb as ADsb, Root, Unroot}
pub use Rattle.bbm_histories.specs.HistorySteps.{is_tlbi, tag_waits, tag_waits_after}
pub use Rattle.bbm_lemmas.proofs.Bools.{first_none, first_true, second_none}
pub use Rattle.bbm_lemmas.proofs.Elements.{any_found, any_finds}
pub use Rattle.bbm_lemmas.proofs.Numbers.{same_swapped}
pub use Rattle.bbm_lemmas.proofs.Tautologies.{proved}
pub use Rattle.bbm_lemmas.proofs.Tautologies.Claim.{If, Is}
pub use Rattle.bbm_lemmas.proofs.Tests.{any_and, any_both, any_same}
pub use Rattle.bbm_lemmas.proofs.Words.{pe_finds, pe_found, pe_none}
pub use Rattle.bbm_lemmas.specs.ListWords.{same_flag}
pub use Rattle.bbm_locks.specs.Holders.{holder_at}
pub use Rattle.bbm_regimes.specs.PeMask.{pe_in}
pub use Rattle.bbm_regimes.specs.declared.pe.PeMask.{PeMask}
pub use Rattle.bbm_regimes.specs.Registers.{base_of, tag_number}
pub use Rattle.bbm_regimes.specs.SameRegister.{same_kind}
pub use Rattle.bbm_regimes.specs.World.{kind_in_world}
pub use Rattle.bbm_regimes.specs.declared.regime.AsidFrom.{AsidFrom}
pub use Rattle.bbm_regimes.specs.declared.regime.AsidFrom.TheVariants.{Ttbr0 as FromTtbr0, Ttbr1 as FromTtbr1}
pub use Rattle.bbm_regimes.specs.declared.regime.Kind.{Kind}
pub use Rattle.bbm_regimes.specs.declared.regime.Kind.TheVariants.{El2, S2, Ttbr0, Ttbr1}
pub use Rattle.bbm_regimes.specs.declared.regime.Reg.{Reg}
pub use Rattle.bbm_regimes.specs.declared.regime.Reg.TheVariants.{Ttbr0El1, Ttbr0El2, Ttbr1El1, VttbrEl2}
pub use Rattle.bbm_regimes.specs.declared.regime.Tag.{Tag}
pub use Rattle.bbm_regimes.specs.declared.regime.Tag.TheVariants.{Asid, Vmid, El2 as El2Tag, Ttbr1 as Ttbr1Tag}
pub use Rattle.bbm_regimes.specs.declared.regime.World.{World}
pub use Rattle.bbm_regimes.specs.declared.regime.World.TheVariants.{Hyp, Kernel}
pub use Rattle.bbm_roots.specs.Columns.{loads_in}
pub use Rattle.bbm_roots.specs.Holds.{IsCalm, Leaves, LeavesThose, Marks, conflict_in, entry_bit, entry_kept, entry_keeps}
pub use Rattle.bbm_roots.specs.Holds.{has_entry, hold_in, is_clash, is_kept_by, kept_in, kept_tag, keeps_in}
pub use Rattle.bbm_roots.specs.Holds.{is_held_under, is_hold, left_in, some_pe, tag_in, tag_key, tag_with}
pub use Rattle.bbm_roots.specs.HoldsNew.{all_held, anew, kernel_anew, kernel_tag, own_tag, under_held}
pub use Rattle.bbm_roots.specs.LeastOf.{IsLeast, ReadingUpTo, UpTo}
pub use Rattle.bbm_roots.specs.LoadsOf.{readings_after, other_loads, reads_at, firsts_of, firsts_with, standings_of}
pub use Rattle.bbm_roots.specs.Readings.{asid_readings, has_other, has_reading, has_tag, is_of_tag, is_other}
pub use Rattle.bbm_roots.specs.Readings.{is_reading, own_reading, reading_at, reading_under, readings_of, readings_with}
pub use Rattle.bbm_roots.specs.Readings.{numbered, reads_tag, same_tag, tag_of}
pub use Rattle.bbm_roots.specs.Refusals.{conflicts, missing_root}
pub use Rattle.bbm_roots.specs.RootChanges.{Writes, TakesWhere}
pub use Rattle.bbm_roots.specs.RootLaws.{Laws}
pub use Rattle.bbm_roots.specs.RootPendings.{has_pending, has_wait, pending_in, slot_of, unread_at, wait_at, wait_bit}
pub use Rattle.bbm_roots.specs.RootPendings.{wait_in}
pub use Rattle.bbm_roots.specs.RootRegisters.{at_start, first_reg, is_first, is_that, kind_of_reg, names_null, names_in}
pub use Rattle.bbm_roots.specs.RootRegisters.{newest, root_of, same_reg, second_reg, load_in, loads_after}
pub use Rattle.bbm_roots.specs.RootRegisters.{has_null_base, root_in, in_order, reading_world, own_asids, is_second}
pub use Rattle.bbm_roots.specs.RootRegisters.{by_standings, front, new_standing, standing_in, standings_after}
pub use Rattle.bbm_roots.specs.RootRegisters.{firsts_after, firsts_written}
pub use Rattle.bbm_roots.specs.RootsStand.{Stands, pes_of, world_of}
pub use Rattle.bbm_roots.specs.TagsByRoot.{is_listed, AreListed}
pub use Rattle.bbm_roots.specs.declared.hold.Held.{Held}
pub use Rattle.bbm_roots.specs.declared.load.RootValue.{RootValue}
pub use Rattle.bbm_roots.specs.declared.pending.Pendings.{Pendings}
pub use Rattle.bbm_roots.specs.declared.reading.Reading.{Reading}
pub use Rattle.bbm_roots.specs.declared.registers.Registers.{Registers}
pub use Rattle.bbm_roots.specs.declared.roots.Roots.{Roots}
pub use Rattle.bbm_rules.proofs.SameRegister.{reg_equal, tag_equal, tag_self}
pub use Rattle.bbm_rules.specs.Claims.{Patterns}
pub use Rattle.bbm_rules.specs.Reach.{reaches}
pub use Rattle.bbm_rules.specs.RegisterValues.{named_scope, register_values}
pub use Rattle.bbm_rules.specs.Roots.{Declared, is_root, root_at, roots_of, lock_of, retired}
pub use Rattle.bbm_rules.specs.Tags.{takes_tag, readings, loses, holds_at, holds_tag, left_at, left_tag}
pub use Rattle.bbm_tlbi_scope.specs.ScopeTags.{takes_whole_tag}
pub use Rattle.bbm_tlbi_scope.specs.TagSets.{HasTags}
pub use Rattle.bbm_tlbi_scope.specs.declared.entry.TagSet.{TagSet}
pub use Rattle.bbm_tlbi_scope.specs.declared.entry.TagSet.TheVariants.{Many}
pub use Rattle.bbm_tlbi_scope.specs.declared.op.TlbiOp.{TlbiOp}
pub use Rattle.bbm_tlbi_scope.specs.declared.scope.Scope.{Scope}
