-- Lines of a certificate: a row for each.
use Rattle.bbm_events.proofs.Common.{◌≡◌, ℕ, ◌^◌, List, [], ◌∷◌, Bool, true, false, cond, refl, ap, sym, subst, Ok}
use Rattle.bbm_events.proofs.Common.{Err, codes, bytes_eq, eqb-true, bytes_eq-Decides, NoMagic, MissingField, UnknownWord, arith}
use Rattle.bbm_events.proofs.Common.{IfErr, IsFieldCause, Heading, heading_ok, is_value}
use Rattle.bbm_regimes.specs.declared.regime.Tag.{Tag}
use Rattle.bbm_regimes.specs.declared.regime.Tag.TheVariants as tags
use Rattle.bbm_events.specs.declared.claim.Claim.{Claim}
use Rattle.bbm_events.specs.declared.claim.Claim.TheVariants.{Place, Two, Taken}
use Rattle.bbm_events.specs.declared.certificate.ClaimItem.{ClaimItem}
use Rattle.bbm_events.specs.declared.certificate.ClaimItem.TheVariants as item
use Rattle.bbm_events.specs.declared.certificate.CertificateWord.{CertificateWord}
use Rattle.bbm_events.specs.declared.certificate.CertificateWord.TheVariants as first
use Rattle.bbm_events.specs.declared.certificate.ClaimWord.{ClaimWord}
use Rattle.bbm_events.specs.declared.certificate.ClaimWord.TheVariants as second
use Rattle.bbm_events.specs.declared.certificate.TagWord.{TagWord}
use Rattle.bbm_events.specs.declared.certificate.TagWord.TheVariants as word
use Rattle.bbm_events.specs.Certificate.{certificate_line, certificate_of, certificate_word, certificate_words}
use Rattle.bbm_events.specs.Certificate.{claim_word, claim_words, tag_word, tag_words, word_of_tag, number_of_tag}
use Rattle.bbm_events.specs.Certificate.{tag_with, has_number, claim_fits}
use Rattle.bbm_events.specs.Certificate.{tag_fields, flush_fields, claim_after, certificate_after, claim_item_fields}
use Rattle.bbm_events.specs.Certificate.{claim_of, claim_line}
use Rattle.bbm_events.proofs.Codecs.{IsCodec, a_word, both, told}
use Rattle.bbm_events.proofs.LineFields.{a_number, a_table, count, pe, place, value_below}
use Rattle.bbm_events.proofs.Tables.{Grammar, Row, AreLines, HasFirst, row, table, lines}
use Rattle.bbm_events.proofs.WordsRead.{certificate_word_read, claim_word_read, tag_word_read}

-- The first line.

pub first_line_read : certificate_of certificate_line ≡ Ok tt
first_line_read = refl

pub first_line_once : (line : List ℕ) → certificate_of line ≡ Ok tt → line ≡ certificate_line
first_line_once line e = by (bytes_eq line certificate_line) refl e
  where
    by : (t : Bool) → bytes_eq line certificate_line ≡ t → cond t (Ok (tt {0})) (Err NoMagic) ≡ Ok (tt {0}) → line ≡ certificate_line
    by true is f = (bytes_eq-Decides line certificate_line).0 is
    by false is f = cc

-- The fields of claims.

tag : {Sure : Type 0} → IsCodec Sure IsFieldCause 2 tag_fields
tag {Sure = Sure} =
    told (λ x. tag_with x.0 x.1) (λ t. (word_of_tag t, number_of_tag t))
    (both (a_table tag_word tag_words tag_word_read refl) (λ w. a_number (has_number w) (λ _. small w))) named again
  where
    small : (w : TagWord) (n : ℕ) → has_number w n ≡ true → is_value n ≡ true
    small word.El2 n e = subst (λ m. is_value m ≡ true) (sym (eqb-true n 0 e)) refl
    small word.Vmid n e = value_below (2 ^ 16) n (omega arith) e
    small word.Asid n e = value_below (2 ^ 16) n (omega arith) e
    small word.Ttbr1 n e = subst (λ m. is_value m ≡ true) (sym (eqb-true n 0 e)) refl

    by : (w : TagWord) (n : ℕ) → has_number w n ≡ true
        → ◌≡◌ {A = TagWord × ℕ} (word_of_tag (tag_with w n), number_of_tag (tag_with w n)) (w, n)
    by word.El2 n e = ap (λ (m : ℕ). (word.El2, m)) (sym (eqb-true n 0 e))
    by word.Vmid n e = refl
    by word.Asid n e = refl
    by word.Ttbr1 n e = ap (λ (m : ℕ). (word.Ttbr1, m)) (sym (eqb-true n 0 e))

    named : (x : TagWord × ℕ) → has_number x.0 x.1 ≡ true
        → ◌≡◌ {A = TagWord × ℕ} (word_of_tag (tag_with x.0 x.1), number_of_tag (tag_with x.0 x.1)) x
    named x e = by x.0 x.1 e

    again : (t : Tag) → tag_with (word_of_tag t) (number_of_tag t) ≡ t
    again tags.El2 = refl
    again (tags.Vmid vmid) = refl
    again (tags.Asid asid) = refl
    again tags.Ttbr1 = refl

flush : {Sure : Type 0} → IsCodec Sure IsFieldCause 2 flush_fields
flush = both count (λ _. count)

module _ (h : Heading) where
  abbrev items : Grammar ClaimItem
  items = record {
    Sure = heading_ok h ≡ true;
    Cause = IsFieldCause;
    Field = IsFieldCause;
    wide = λ cause e. e;
    Shown = λ _. Unit {0};
    fit = claim_fits h;
    spelled = claim_item_fields;
  }

  -- a row for each word of a claim
  abbrev claims : (w : ClaimWord) → Row items (codes "c" ∷ claim_word w ∷ []) true 150 (claim_after h w)
  claims second.Place =
      row tt (λ x. item.Claim (Place x.0.0.0 x.0.0.1 x.0.1 x.1.0 x.1.1))
      (both (both (both (pe h) (λ _. place)) (λ _. count)) (λ _. flush)) refl (λ x. refl) (λ x. refl)
  claims second.Two =
      row tt (λ x. item.Claim (Two x.0.0.0.0 x.0.0.0.1 x.0.0.1 x.0.1.0 x.0.1.1 x.1.0 x.1.1))
      (both (both (both (both (pe h) (λ _. place)) (λ _. count)) (λ _. flush)) (λ _. flush)) refl (λ x. refl) (λ x. refl)
  claims second.Tag =
      row tt (λ x. item.Claim (Taken x.0.0 x.0.1 x.1.0 x.1.1)) (both (both (pe h) (λ _. tag)) (λ _. flush)) refl
      (λ x. refl) (λ x. refl)

  -- the row of each claim
  claim_at : (x : Claim) → (w : ClaimWord) × (v : (claims w).C) × ((claims w).says v ≡ item.Claim x)
  claim_at (Place pe place b t d) = (second.Place, (((pe, place), b), (t, d)), refl)
  claim_at (Two pe place b t1 d1 t2 d2) = (second.Two, ((((pe, place), b), (t1, d1)), (t2, d2)), refl)
  claim_at (Taken pe tag t d) = (second.Tag, ((pe, tag), (t, d)), refl)

  -- a row for each first word
  abbrev rows : (w : CertificateWord) → Row items (certificate_word w ∷ []) true 171 (certificate_after h w)
  rows first.Claim = record {
    C = Claim;
    says = item.Claim;
    is = table MissingField UnknownWord tt tt (a_word (heading_ok h ≡ true) claim_word claim_words claim_word_read refl) claims item.Claim claim_at (λ x e. refl);
  }
  rows first.End = row tt item.End count refl (λ x. refl) (λ x. refl)

  at : (x : ClaimItem) → (w : CertificateWord) × (v : (rows w).C) × ((rows w).says v ≡ x)
  at (item.Claim claim) = (first.Claim, claim, refl)
  at (item.End count) = (first.End, count, refl)

  first_of : (x : ClaimItem) → HasFirst claim_item_fields x
  first_of (item.Claim claim) = (_, _, refl)
  first_of (item.End count) = (_, _, refl)

  pub claim_lines : AreLines items (claim_of h) claim_line
  unfolding claim_of claim_line
  claim_lines =
      lines (table MissingField UnknownWord tt tt (a_word (heading_ok h ≡ true) certificate_word certificate_words certificate_word_read refl) rows (λ x. x) at (λ x e. refl)) refl first_of

pub claim_of_fits : (h : Heading) (line : List ℕ) (x : ClaimItem) → claim_of h line ≡ Ok x → claim_fits h x ≡ true
claim_of_fits h = (claim_lines h).fits

pub claim_one_line : (h : Heading) (line : List ℕ) (x : ClaimItem) → claim_of h line ≡ Ok x → line ≡ claim_line x
claim_one_line h = (claim_lines h).once

pub claim_of_causes : (h : Heading) (line : List ℕ) → IfErr (claim_of h line) IsFieldCause
claim_of_causes h = (claim_lines h).ends

pub claim_written_is_read : (h : Heading) (x : ClaimItem) → heading_ok h ≡ true → claim_fits h x ≡ true
    → claim_of h (claim_line x) ≡ Ok x
claim_written_is_read h x ok fits = (claim_lines h).again x ok fits tt

pub ruleset claims_read = (first_line_read, claim_written_is_read)

pub ruleset claims_once = (first_line_once, claim_one_line)
