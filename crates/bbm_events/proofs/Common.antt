-- The names that most proofs of this crate cite, passed on from one place. Declares nothing.
pub use Rattle.std.proofs.Common.{Bool, Err, List, None, Ok, Option, Result, Some, [], ap, arith, cond, drop, false}
pub use Rattle.std.proofs.Common.{length, nat_lt, not, refl, subst, suc, sym, true, zero, ℕ, ◌%◌, ◌&&◌, ◌*◌, ◌++◌, ◌/◌}
pub use Rattle.std.proofs.Common.{◌<◌, ◌==◌, ◌^◌, ◌∙◌, ◌∷◌, ◌≡◌, ◌≤◌}
pub use Rattle.std.proofs.lemmas.Bool.{and_parts, eqb-true, leb-true, ltb-true}
pub use Rattle.std.proofs.lemmas.Bool.Decides.{nat_tests}
pub use Rattle.std.proofs.lemmas.Slice.Eq.{bytes_eq-Decides}
pub use Rattle.std.specs.Fmt.{digit_glyph, digits_onto}
pub use Rattle.std.specs.List.{list_all}
pub use Rattle.std.specs.Option.{option_map}
pub use Rattle.std.specs.Prelude.{IfErr, bytes_eq, codes, decimal, nat_le, ◌||◌}
pub use Rattle.std.specs.Str.Parse.{digits_value}
pub use Rattle.bbm_barriers.specs.declared.Dsb.{Dsb}
pub use Rattle.bbm_events.specs.Causes.{IsFieldCause, IsLineCause}
pub use Rattle.bbm_events.specs.Fits.{fits_heading, is_count, is_lock, is_operand, is_page, is_pe, is_place}
pub use Rattle.bbm_events.specs.Fits.{is_root_lock, is_root_page, is_value, item_fits, label_fits}
pub use Rattle.bbm_events.specs.Heading.{Heading, has_op, heading_ok, is_version, may_label, may_share}
pub use Rattle.bbm_events.specs.Label.{is_label, is_label_byte}
pub use Rattle.bbm_events.specs.Codec.{Codec, Fields, decimals, field, field_or, found, hexes, line, mapped, next_field}
pub use Rattle.bbm_events.specs.Codec.{passing, whole, words, ◌&>◌, ◌>>=◌}
pub use Rattle.bbm_events.specs.Lines.{asid_from_field, checked, cnp_field, cnp_fields, count_field, dsb_field}
pub use Rattle.bbm_events.specs.Lines.{event_fields, event_item, event_line, exactly, header_field, header_fields}
pub use Rattle.bbm_events.specs.Lines.{heading_end, heading_line, is_marked, item_fields, keyword_field, kind_field}
pub use Rattle.bbm_events.specs.Lines.{label_field, label_fields, label_value, line_after, lock_field, lock_text}
pub use Rattle.bbm_events.specs.Lines.{magic_field, number_field, op_field, operand_field, operand_fields, page_field}
pub use Rattle.bbm_events.specs.Lines.{pe_field, place_field, reg_field, root_lock, root_lock_field, root_page_field}
pub use Rattle.bbm_events.specs.Lines.{shared_field, value_field, version_after, version_field, world_after, world_field}
pub use Rattle.bbm_events.specs.Spelling.{fields, hex, joined, where_spelled}
pub use Rattle.bbm_events.specs.Words.{asid_from_word, asid_froms, cnp_word, cnps, dsb_word, dsbs, keyword_word}
pub use Rattle.bbm_events.specs.Words.{keywords, kind_word, kinds, op_word, ops, reg_word, regs, with_word}
pub use Rattle.bbm_events.specs.Words.{world_word, world_words}
pub use Rattle.bbm_events.specs.declared.event.Event.{Event}
pub use Rattle.bbm_events.specs.declared.event.Item.{Item}
pub use Rattle.bbm_events.specs.declared.keyword.Keyword.{Keyword}
pub use Rattle.bbm_events.specs.declared.malformed.Malformed.{Malformed}
pub use Rattle.bbm_events.specs.declared.malformed.Malformed.TheVariants.{BadAddress, BadHeader, BadLabel, BadNumber}
pub use Rattle.bbm_events.specs.declared.malformed.Malformed.TheVariants.{BadPe, ExtraField, MissingField, NoMagic, UnknownWord}
pub use Rattle.bbm_regimes.specs.World.{page_count, world_ok}
pub use Rattle.bbm_regimes.specs.declared.regime.AsidFrom.{AsidFrom}
pub use Rattle.bbm_regimes.specs.declared.regime.HypWorld.{HypWorld}
pub use Rattle.bbm_regimes.specs.declared.regime.KernelWorld.{KernelWorld}
pub use Rattle.bbm_regimes.specs.declared.regime.Kind.{Kind}
pub use Rattle.bbm_regimes.specs.declared.regime.Kind.TheVariants.{El2, S2, Ttbr0, Ttbr1}
pub use Rattle.bbm_regimes.specs.declared.regime.Reg.{Reg}
pub use Rattle.bbm_regimes.specs.declared.regime.World.{World}
pub use Rattle.bbm_regimes.specs.declared.regime.World.TheVariants.{Hyp, Kernel}
pub use Rattle.bbm_tlbi_scope.specs.Operations.{has_operand}
pub use Rattle.bbm_tlbi_scope.specs.declared.op.TlbiOp.{TlbiOp}
