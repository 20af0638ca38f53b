-- The fields of lines after the header, each with what is proved of it.
use Rattle.bbm_events.proofs.Common.{◌≡◌, ℕ, ◌*◌, ◌%◌, ◌^◌, ◌≤◌, List, [], ◌∷◌, Bool, true, false, ◌&&◌, cond, nat_lt}
use Rattle.bbm_events.proofs.Common.{◌==◌, ◌||◌, refl, ap, sym, ◌∙◌, arith, Option, Some, None, Ok, codes, decimal}
use Rattle.bbm_events.proofs.Common.{list_all, bytes_eq, option_map, length, eqb-true, and_parts, ltb-true, bytes_eq-Decides}
use Rattle.bbm_events.proofs.Common.{page_count, Kind, TlbiOp, has_operand, BadNumber, BadPe, BadAddress, UnknownWord}
use Rattle.bbm_events.proofs.Common.{IsFieldCause, Heading, heading_ok, has_op, hex, with_word, kind_word, kinds}
use Rattle.bbm_events.proofs.Common.{reg_word, regs, dsb_word, dsbs, op_word, ops, is_pe, is_page, is_place, is_value}
use Rattle.bbm_events.proofs.Common.{is_lock, is_count, is_root_page, is_root_lock, Codec, passing}
use Rattle.bbm_events.proofs.Common.{pe_field, page_field, place_field, root_page_field, value_field, operand_field}
use Rattle.bbm_events.proofs.Common.{lock_field, root_lock, root_lock_field, lock_text, count_field, kind_field}
use Rattle.bbm_events.proofs.Common.{dsb_field, op_field, reg_field, field, decimals, hexes, words}
use Rattle.std.proofs.lemmas.Bool.{and_from, lt-ltb}
use Rattle.std.specs.Fmt.{digits}
use Rattle.bbm_events.specs.Spelling.{decimal_value}
use Rattle.bbm_events.specs.declared.malformed.Malformed.{Malformed}
use Rattle.bbm_events.specs.declared.malformed.Malformed.TheVariants.{MissingField}
use Rattle.bbm_events.proofs.Codecs.{IsField, IsCodec, one, tested, any_decimal, any_hex, a_word, passing_ok}
use Rattle.bbm_events.proofs.Codecs.{is_clean}
use Rattle.bbm_events.proofs.Joining.{visible}
use Rattle.bbm_events.proofs.Ranges.{ranges}
use Rattle.bbm_events.proofs.WordsRead.{kind_word_read, reg_word_read, dsb_word_read, op_word_read}

pub value_below : (k n : ℕ) → k ≤ 2 ^ 64 → nat_lt n k ≡ true → is_value n ≡ true
value_below k n few e = let less = ltb-true n k e in lt-ltb n (2 ^ 64) (omega (arith, few, less))

module _ {Sure : Type 0} where
  -- one field of a line after the header
  pub a_field : {A : Type 0} {read : List ℕ → Option A} {spelling : A → List ℕ} {fits : A → Bool} (cause : Malformed)
      → IsFieldCause cause → IsField Sure read spelling fits → IsCodec Sure IsFieldCause 1 (field cause read spelling fits)
  a_field cause may is = one IsFieldCause MissingField cause tt may is

  pub a_number : (test : ℕ → Bool) → (Sure → (n : ℕ) → test n ≡ true → is_value n ≡ true)
      → IsCodec Sure IsFieldCause 1 (decimals BadNumber test)
  a_number test within = a_field BadNumber tt (tested test (any_decimal Sure) within)

  an_address : (test aligned : ℕ → Bool) → ((n : ℕ) → test n ≡ true → (nat_lt n (2 ^ 48) && aligned n) ≡ true)
      → IsCodec Sure IsFieldCause 1 (hexes BadAddress test)
  an_address test aligned within =
      a_field BadAddress tt (tested test (any_hex Sure) (λ sure n e.
      value_below (2 ^ 48) n (omega arith) (and_parts (nat_lt n (2 ^ 48)) (aligned n) (within n e)).0))

  pub a_table : {A : Type 0} (word : A → List ℕ) (values : List A)
      → ((x : A) → with_word word values (word x) ≡ Some x) → list_all (λ v. is_clean (word v)) values ≡ true
      → IsCodec Sure IsFieldCause 1 (words word values)
  a_table word values read clean = a_field UnknownWord tt (a_word Sure word values read clean)

  pub page : IsCodec Sure IsFieldCause 1 page_field
  page = an_address is_page (λ n. n % 4096 == 0) (λ n e. e)

  pub place : IsCodec Sure IsFieldCause 1 place_field
  place = an_address is_place (λ n. n % 8 == 0) (λ n e. e)

  pub root_page : (h : Heading) (kind : Kind) → IsCodec Sure IsFieldCause 1 (root_page_field h kind)
  root_page h kind =
      an_address (is_root_page h.world kind) (λ n. n % 4096 == 0)
      (λ n e. (and_parts (is_page n) (n % (4096 * page_count h.world kind) == 0) e).0)

  pub value : IsCodec Sure IsFieldCause 1 value_field
  value = a_field BadNumber tt (any_hex Sure)

  pub lock : IsCodec Sure IsFieldCause 1 lock_field
  lock = a_number is_lock (λ sure n e. value_below 1024 n (omega arith) e)

  pub count : IsCodec Sure IsFieldCause 1 count_field
  count = a_number is_count (λ sure n e. value_below (2 ^ 32) n (omega arith) e)

  pub kind : IsCodec Sure IsFieldCause 1 kind_field
  kind = a_table kind_word kinds kind_word_read refl

  pub dsb : IsCodec Sure IsFieldCause 1 dsb_field
  dsb = a_table dsb_word dsbs dsb_word_read refl

  pub reg : IsCodec Sure IsFieldCause 1 reg_field
  reg = a_table reg_word regs reg_word_read refl

  pub op : (version : ℕ) → IsCodec Sure IsFieldCause 1 (op_field version)
  op version = a_field UnknownWord tt (tested (has_op version) (a_word Sure op_word ops op_word_read refl) (λ sure op e. refl))

pub pe : (h : Heading) → IsCodec (heading_ok h ≡ true) IsFieldCause 1 (pe_field h)
pe h =
    a_field BadPe tt (tested (is_pe h) (any_decimal (heading_ok h ≡ true)) (λ ok n e.
    let few = (ranges h ok).pes in
    value_below h.pes n (omega (arith, few)) e))

-- a lock, or none

-- no number is spelled `-`, which stands for no lock
dash_is_no_decimal : decimal_value (codes "-") ≡ None
unfolding decimal_value digits
dash_is_no_decimal = refl

dash_unread : (text : List ℕ) (n : ℕ) → decimal_value text ≡ Some n → bytes_eq text (codes "-") ≡ false
dash_unread text n e = by (bytes_eq text (codes "-")) refl
  where
    by : (t : Bool) → bytes_eq text (codes "-") ≡ t → t ≡ false
    by true is =
        let same : text ≡ codes "-" = (bytes_eq-Decides text (codes "-")).0 is in
        let unread : None ≡ Some n = sym dash_is_no_decimal ∙ ap decimal_value (sym same) ∙ e in
        cc
    by false is = refl

pub root_lock_is : (Sure : Type 0) → IsField Sure root_lock lock_text is_root_lock
root_lock_is Sure = record {
  fit = λ text o e. (told text o e).0;
  once = λ text o e. (told text o e).1;
  again = again;
  shows = shows;
  short = short;
}
  where
    number : IsField Sure (λ text. passing is_lock (decimal_value text)) decimal is_lock
    number = tested is_lock (any_decimal Sure) (λ sure n e. value_below 1024 n (omega arith) e)

    told : (text : List ℕ) (o : Option ℕ) → root_lock text ≡ Some o → (is_root_lock o ≡ true) × (text ≡ lock_text o)
    told text o e = by (bytes_eq text (codes "-")) (passing is_lock (decimal_value text)) refl refl e
      where
        by : (dash : Bool) (lock : Option ℕ) → bytes_eq text (codes "-") ≡ dash → passing is_lock (decimal_value text) ≡ lock
            → cond dash (Some None) (option_map Some lock) ≡ Some o → (is_root_lock o ≡ true) × (text ≡ lock_text o)
        by true lock is read f =
            let none : None ≡ o = cc in
            (ap is_root_lock (sym none), (bytes_eq-Decides text (codes "-")).0 is ∙ ap lock_text none)
        by false None is read f = cc
        by false (Some n) is read f =
            let some : Some n ≡ o = cc in
            (ap is_root_lock (sym some) ∙ number.fit text n read, number.once text n read ∙ ap lock_text some)

    again : Sure → (o : Option ℕ) → is_root_lock o ≡ true → root_lock (lock_text o) ≡ Some o
    again sure None e = refl
    again sure (Some n) e =
        let read = number.again sure n e in
        ap (λ t. cond t (Some None) (option_map Some (passing is_lock (decimal_value (decimal n)))))
        (dash_unread (decimal n) n (passing_ok is_lock (decimal_value (decimal n)) read).0)
        ∙ ap (λ o. option_map Some o) read

    shows : (o : Option ℕ) → visible (lock_text o) ≡ true
    shows None = refl
    shows (Some n) = number.shows n

    short : Sure → (o : Option ℕ) → is_root_lock o ≡ true → length (lock_text o) ≤ 20
    short sure None e = omega arith
    short sure (Some n) e = number.short sure n e

pub root_lock_or_none : {Sure : Type 0} → IsCodec Sure IsFieldCause 1 root_lock_field
root_lock_or_none {Sure = Sure} = a_field BadNumber tt (root_lock_is Sure)

-- an operand is written exactly where it is read
pub operand : {Sure : Type 0} (o : TlbiOp) → IsCodec Sure IsFieldCause 1 (operand_field o)
operand {Sure = Sure} o = by (has_operand o)
  where
    codec : Bool → Codec ℕ
    codec has = record {
      read = λ rest. cond has (value_field.read rest) (Ok (0, rest));
      written = λ xt. cond has (hex xt ∷ []) [];
      fits = λ xt. is_value xt && (has || xt == 0);
    }

    number : IsCodec Sure IsFieldCause 1 value_field
    number = value

    by : (has : Bool) → IsCodec Sure IsFieldCause 1 (codec has)
    by true = record {
      fit = λ rest x e. and_from _ _ (number.fit rest x e) refl;
      once = number.once;
      again = λ sure xt rest e. number.again sure xt rest (and_parts (is_value xt) true e).0;
      shows = number.shows;
      short = λ sure xt e. number.short sure xt (and_parts (is_value xt) true e).0;
      ends = number.ends;
    }
    by false = record {
      fit = λ rest x e. let none : 0 ≡ x.0 = cc in rw (← none) refl;
      once = λ rest x e. let left : rest ≡ x.1 = cc in left;
      again = λ sure xt rest e. let none = eqb-true xt 0 (and_parts (is_value xt) (xt == 0) e).1 in ap (λ (n : ℕ). Ok (n, rest)) (sym none);
      shows = λ xt. refl;
      short = λ sure xt e. omega arith;
      ends = λ rest. tt;
    }
