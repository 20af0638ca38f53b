-- The names that most proofs of this crate cite, passed on from one place. Declares nothing.
pub use Rattle.std.proofs.Common.{Bool, Err, List, None, Ok, Option, Result, Some, [], ap, arith, bit_and, cond, drop}
pub use Rattle.std.proofs.Common.{false, get_or, inl, inr, leb, length, length-drop, length-take, nat_lt, refl, rules}
pub use Rattle.std.proofs.Common.{slice_index_or, subst, suc, sym, take, take-append-drop, tests, true, zero, ℕ, ◌%◌}
pub use Rattle.std.proofs.Common.{◌&&◌, ◌*◌, ◌++◌, ◌+◌, ◌-◌, ◌/◌, ◌<◌, ◌==◌, ◌^◌, ◌∙◌, ◌∷◌, ◌≡◌, ◌≢◌, ◌≤◌}
pub use Rattle.std.proofs.Math.Nat.{pow-suc}
pub use Rattle.std.proofs.lemmas.Bool.{agree_below_at, and_parts, eqb-true, le-leb, lt-ltb, ltb-false, ltb-true}
pub use Rattle.std.proofs.lemmas.Bool.Decides.{nat_tests}
pub use Rattle.std.proofs.lemmas.List.{append-nil, append_assoc, take_all, take_rest}
pub use Rattle.std.proofs.lemmas.List.Sums.{prefix_len-le-length}
pub use Rattle.std.proofs.lemmas.Simd.{splat_is_map, zip2_of_maps, zip2_splat}
pub use Rattle.std.proofs.lemmas.Slice.Eq.{bytes_eq-Decides}
pub use Rattle.std.specs.Bool.{⊤}
pub use Rattle.std.specs.Char.{digit_value}
pub use Rattle.std.specs.Fmt.{digit_glyph}
pub use Rattle.std.specs.List.{list_all}
pub use Rattle.std.specs.Option.{option_and_then}
pub use Rattle.std.specs.Str.Parse.{digits_value, digits_value_after}
pub use Rattle.bbm_barriers.specs.declared.Domain.TheVariants.{Full, Inner, Non}
pub use Rattle.bbm_barriers.specs.declared.Dsb.{Dsb}
pub use Rattle.bbm_barriers.specs.declared.Types.TheVariants.{All, Loads, Stores}
pub use Rattle.bbm_events.specs.Fits.{item_fits}
pub use Rattle.bbm_events.specs.Heading.{Heading, heading_ok}
pub use Rattle.bbm_events.specs.Label.{is_label, is_label_byte}
pub use Rattle.bbm_events.specs.Codec.{Fields, found, next_field}
pub use Rattle.bbm_events.specs.Lines.{event_fields}
pub use Rattle.bbm_events.specs.Spelling.{fields, joined}
pub use Rattle.bbm_events.specs.Words.{dsb_word, op_word, reg_word}
pub use Rattle.bbm_events.specs.declared.event.Event.{Event}
pub use Rattle.bbm_events.specs.declared.malformed.Malformed.{Malformed}
pub use Rattle.bbm_lemmas.proofs.Tautologies.{proved}
pub use Rattle.bbm_lemmas.proofs.Tautologies.Claim.{Is}
pub use Rattle.bbm_log_grammar.specs.Digits.{is_lower_digit, next_number, number_after, number_of}
pub use Rattle.bbm_regimes.specs.declared.regime.Reg.{Reg}
pub use Rattle.bbm_regimes.specs.declared.regime.Reg.TheVariants.{Ttbr0El1, Ttbr0El2, Ttbr1El1, VttbrEl2}
pub use Rattle.bbm_tlbi_scope.specs.declared.op.TlbiOp.{TlbiOp}
pub use Rattle.bbm_tlbi_scope.specs.declared.op.TlbiOp.TheVariants.{Alle1is, Alle2is, Aside1is, Ipas2e1is, Vaale1is}
pub use Rattle.bbm_tlbi_scope.specs.declared.op.TlbiOp.TheVariants.{Vae1is, Vae2is, Vale1is, Vale2is, Vmalle1is}
pub use Rattle.bbm_tlbi_scope.specs.declared.op.TlbiOp.TheVariants.{Vmalls12e1is}
