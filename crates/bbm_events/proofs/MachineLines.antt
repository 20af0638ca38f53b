-- Machine lines: a row for each.
use Rattle.bbm_events.proofs.Common.{◌∙◌, Ok, IfErr, length, ◌≤◌, ◌≡◌, ℕ, ◌^◌, List, [], ◌∷◌, true, ◌&&◌, refl, ap, and_parts, eqb-true, subst, sym}
use Rattle.bbm_events.proofs.Common.{Kind, El2, S2, Ttbr0, Ttbr1, MissingField, UnknownWord, IsLineCause, Heading, heading_ok, arith}
use Rattle.bbm_events.proofs.Common.{may_share, is_pe, is_place, is_value, IsFieldCause, codes, ◌>>=◌}
use Rattle.std.proofs.Math.Bool.{and-true}
use Rattle.std.proofs.lemmas.Bool.{and_from}
use Rattle.bbm_events.specs.declared.machine.MachineLine.{MachineLine}
use Rattle.bbm_events.specs.declared.machine.MachineLine.TheVariants.{Start, Extend, Combine, Share, Drop}
use Rattle.bbm_events.specs.declared.machine.MachineWord.{MachineWord}
use Rattle.bbm_events.specs.declared.machine.MachineWord.TheVariants as second
use Rattle.bbm_events.specs.Machine.{machine_word, machine_words, has_machine_word, is_tag, is_entry, machine_fits}
use Rattle.bbm_events.specs.Machine.{machine_word_field, tag_field, machine_after}
use Rattle.bbm_events.specs.Machine.{machine_fields, machine_line, machine_of}
use Rattle.bbm_events.specs.Spelling.{is_plain}
use Rattle.bbm_events.proofs.Codecs.{IsCodec, a_word, both, exact, tested}
use Rattle.bbm_events.proofs.ItemLines.{of_field}
use Rattle.bbm_events.proofs.LineFields.{a_number, count, kind, pe, place, value, value_below}
use Rattle.bbm_events.proofs.Tables.{Grammar, IsLine, Row, AreLines, line_is, row, table, lines, loose}
use Rattle.bbm_events.proofs.Ranges.{any_heading}
use Rattle.bbm_events.proofs.WordsRead.{machine_word_read}

-- a VMID or an ASID of a kind
tag : {Sure : Type 0} (kind : Kind) → IsCodec Sure IsFieldCause 1 (tag_field kind)
tag kind = a_number (is_tag kind) (λ sure. small kind)
  where
    small : (kind : Kind) (n : ℕ) → is_tag kind n ≡ true → is_value n ≡ true
    small El2 n e = subst (λ m. is_value m ≡ true) (sym (eqb-true n 0 e)) refl
    small S2 n e = value_below (2 ^ 16) n (omega arith) e
    small Ttbr0 n e = value_below (2 ^ 16) n (omega arith) e
    small Ttbr1 n e = value_below (2 ^ 16) n (omega arith) e

module _ (h : Heading) where
  abbrev steps : Grammar MachineLine
  steps = record {
    Sure = heading_ok h ≡ true;
    Cause = IsLineCause;
    Field = IsFieldCause;
    wide = of_field;
    Shown = λ _. Unit {0};
    fit = machine_fits h;
    spelled = λ step. codes "m" ∷ machine_fields step;
  }

  -- a row for each second word
  abbrev rows : (w : MachineWord) → Row steps (codes "m" ∷ machine_word w ∷ []) (has_machine_word h.version w) 150 (machine_after h w)
  rows second.Start =
      row tt (λ x. Start x.0.0.0.0 x.0.0.0.1 x.0.0.1 x.0.1 x.1)
      (both (both (both (both (pe h) (λ _. kind)) (λ x. tag x.1)) (λ _. place)) (λ _. value)) refl
      (λ x. ap (λ t. t && is_tag x.0.0.0.1 x.0.0.1 && is_place x.0.1 && is_value x.1) (and-true (is_pe h x.0.0.0.0))) (λ x. refl)
  rows second.Extend = row tt (λ x. Extend x.0.0 x.0.1 x.1) (both (both count (λ _. place)) (λ _. value)) refl (λ x. refl) (λ x. refl)
  rows second.Combine = row tt Combine count refl (λ x. refl) (λ x. refl)
  rows second.Share = record { C = ℕ × ℕ; says = λ x. Share x.0 x.1; is = share }
    where
      share : IsLine steps (codes "m" ∷ codes "share" ∷ []) (may_share h.version) 150 (λ (x : ℕ × ℕ). Share x.0 x.1) (machine_after h second.Share)
      share =
          line_is tt (λ x. Share x.0 x.1) (both count (λ _. pe h)) refl
          (λ shares x e. ap (λ t. t && is_entry x.0 && is_pe h x.1) shares ∙ e)
          (λ x e. let parts = and_parts (may_share h.version && is_entry x.0) (is_pe h x.1) e in
          and_from _ _ (and_parts (may_share h.version) (is_entry x.0) parts.0).1 parts.1)
          (λ x. refl)
  rows second.Drop = row tt Drop count refl (λ x. refl) (λ x. refl)

  -- the row of each step
  abbrev at : (x : MachineLine) → (w : MachineWord) × (v : (rows w).C) × ((rows w).says v ≡ x)
  at (Start pe kind tag place value) = (second.Start, ((((pe, kind), tag), place), value), refl)
  at (Extend entry place value) = (second.Extend, ((entry, place), value), refl)
  at (Combine entry) = (second.Combine, entry, refl)
  at (Share entry pe) = (second.Share, (entry, pe), refl)
  at (Drop entry) = (second.Drop, entry, refl)

  -- a step that fits has a word that the version has
  knows : (x : MachineLine) → machine_fits h x ≡ true → has_machine_word h.version (at x).0 ≡ true
  knows (Start pe kind tag place value) e = refl
  knows (Extend entry place value) e = refl
  knows (Combine entry) e = refl
  knows (Share entry pe) e =
      (and_parts (may_share h.version) (is_entry entry) (and_parts (may_share h.version && is_entry entry) (is_pe h pe) e).0).0
  knows (Drop entry) e = refl

  behind_mark : IsLine steps (codes "m" ∷ []) true 171 (λ x. x) (λ rest. (machine_word_field h.version).read rest >>= (λ w. machine_after h w.0 w.1))
  behind_mark =
      table MissingField UnknownWord tt tt (tested (has_machine_word h.version) (a_word (heading_ok h ≡ true) machine_word machine_words machine_word_read refl) (λ _ x e. refl))
      rows (λ x. x) at knows

  pub machine_lines : AreLines steps (machine_of h) machine_line
  unfolding machine_of machine_line
  machine_lines =
      lines
      (table MissingField UnknownWord tt tt (exact (heading_ok h ≡ true) (codes "m") refl) (λ w. record { C = MachineLine; says = λ x. x; is = loose behind_mark }) (λ x. x)
      (λ x. (codes "m", x, refl)) (λ x e. refl))
      refl (λ x. (codes "m", machine_fields x, refl))

pub machine_of_fits : (h : Heading) (line : List ℕ) (x : MachineLine) → machine_of h line ≡ Ok x → machine_fits h x ≡ true
machine_of_fits h = (machine_lines h).fits

pub machine_one_line : (h : Heading) (line : List ℕ) (x : MachineLine) → machine_of h line ≡ Ok x → line ≡ machine_line x
machine_one_line h = (machine_lines h).once

pub machine_of_causes : (h : Heading) (line : List ℕ) → IfErr (machine_of h line) IsLineCause
machine_of_causes h = (machine_lines h).ends

pub machine_written_is_read : (h : Heading) (x : MachineLine) → heading_ok h ≡ true → machine_fits h x ≡ true
    → machine_of h (machine_line x) ≡ Ok x
machine_written_is_read h x ok fits = (machine_lines h).again x ok fits tt

-- of every heading
pub machine_plain : (x : MachineLine) → is_plain (machine_line x) ≡ true
machine_plain x = (machine_lines any_heading).plain x tt

pub machine_short : (h : Heading) (x : MachineLine) → heading_ok h ≡ true → machine_fits h x ≡ true → length (machine_line x) ≤ 200
machine_short h = (machine_lines h).short
