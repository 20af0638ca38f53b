-- What is proved of a codec: once of each field, and once of each way to put codecs together.
use Rattle.bbm_events.proofs.Common.{◌≡◌, ℕ, zero, suc, ◌*◌, ◌/◌, ◌%◌, ◌^◌, ◌<◌, ◌≤◌, List, [], ◌∷◌, ◌++◌, length, Bool}
use Rattle.bbm_events.proofs.Common.{true, false, ◌&&◌, cond, nat_le, ◌==◌, refl, ap, sym, ◌∙◌, subst, arith}
use Rattle.bbm_events.proofs.Common.{Option, Some, None, Result, Ok, Err, IfErr, decimal, bytes_eq, digits_value}
use Rattle.bbm_events.proofs.Common.{digit_glyph, digits_onto, list_all, and_parts, leb-true, ltb-true, nat_tests}
use Rattle.bbm_events.proofs.Common.{bytes_eq-Decides, hex, where_spelled, with_word, is_value, Malformed, Codec}
use Rattle.bbm_events.proofs.Common.{◌>>=◌, Fields, found, next_field, passing, exactly, field_or, ◌&>◌, mapped}
use Rattle.std.proofs.Common.{◌+◌, append_assoc}
use Rattle.std.proofs.lemmas.Bool.{and_from}
use Rattle.std.proofs.lemmas.Fmt.{length-decimal-le}
use Rattle.std.specs.Fmt.{digits}
use Rattle.std.specs.Prelude.{drop}
use Rattle.bbm_events.specs.Spelling.{decimal_value, hex_value}
use Rattle.bbm_events.proofs.Joining.{visible, all_visible, digits_visible, visible_append, size, size_append}
use Rattle.bbm_events.proofs.OneSpelling.{decimal_read, decimal_once, hex_read, hex_once, word_once}

-- ---- steps of a reading

-- each cause that the result can have is one of these
abbrev pub Ends : {A : Type 0} → (Malformed → Type 0) → Result A Malformed → Type 0
Ends Cause r = IfErr r Cause

pub then_ends : {A B : Type 0} (Cause : Malformed → Type 0) (r : Result A Malformed) (f : A → Result B Malformed)
    → Ends Cause r → ((x : A) → Ends Cause (f x)) → Ends Cause (r >>= f)
then_ends Cause (Ok x) f here later = later x
then_ends Cause (Err cause) f here later = here

-- where two steps give a value, the first gave one that leads the second to it
pub bind_ok : {A B : Type 0} (r : Result A Malformed) (f : A → Result B Malformed) {y : B}
    → (r >>= f) ≡ Ok y → (x : A) × (r ≡ Ok x) × (f x ≡ Ok y)
bind_ok (Ok x) f e = (x, refl, e)
bind_ok (Err cause) f e = cc

-- a step that gives a value leads on with it
pub on : {A B : Type 0} (r : Result A Malformed) (f : A → Result B Malformed) {x : A} → r ≡ Ok x → (r >>= f) ≡ f x
on r f e = ap (λ r. r >>= f) e

-- a field that is read is the first of what was left, and the rest is left then
field_ok : {A : Type 0} (absent unreadable : Malformed) (read : List ℕ → Option A) (rest : Fields) {x : A × Fields}
    → next_field absent unreadable read rest ≡ Ok x → (text : List ℕ) × (rest ≡ text ∷ x.1) × (read text ≡ Some x.0)
field_ok absent unreadable read [] e = cc
field_ok {A = A} absent unreadable read (text ∷ rest) {x = x} e = taken (read text) refl e
  where
    taken : (o : Option A) → read text ≡ o → found unreadable o rest ≡ Ok x
        → (t : List ℕ) × (text ∷ rest ≡ t ∷ x.1) × (read t ≡ Some x.0)
    taken (Some value) is_value e = (text, cc, cc)
    taken None is_none e = cc

-- a value that passes a test was there, and passes it
pub passing_ok : {A : Type 0} (test : A → Bool) (o : Option A) {n : A}
    → passing test o ≡ Some n → (o ≡ Some n) × (test n ≡ true)
passing_ok test None e = cc
passing_ok {A = A} test (Some m) {n = n} e = passed (test m) refl e
  where
    passed : (b : Bool) → test m ≡ b → cond b (Some m) None ≡ Some n → (Some m ≡ Some n) × (test n ≡ true)
    passed true is_true e = (e, cc)
    passed false is_false e = cc

pub passing_read : {A : Type 0} (test : A → Bool) (o : Option A) {n : A}
    → o ≡ Some n → test n ≡ true → passing test o ≡ Some n
passing_read test o {n = n} e h = ap (λ o. passing test o) e ∙ ap (λ t. cond t (Some n) None) h

-- ---- one field

-- What is proved of a field: a value that is read fits, and the text is its spelling; a spelling is read again, each byte
-- of it shows, and it has at most 20. The numbers of a header are asked for where something is written.
pub record IsField {A : Type 0} (Sure : Type 0) (read : List ℕ → Option A) (spelling : A → List ℕ) (fits : A → Bool) : Type 0 where
  pub fit : (text : List ℕ) (x : A) → read text ≡ Some x → fits x ≡ true
  pub once : (text : List ℕ) (x : A) → read text ≡ Some x → text ≡ spelling x
  pub again : Sure → (x : A) → fits x ≡ true → read (spelling x) ≡ Some x
  pub shows : (x : A) → visible (spelling x) ≡ true
  pub short : Sure → (x : A) → fits x ≡ true → length (spelling x) ≤ 20

spelled_below : (spelling : ℕ → List ℕ) (text : List ℕ) (m n : ℕ) → where_spelled spelling text m ≡ Some n → is_value n ≡ true
spelled_below spelling text m n e = checked_both (is_value m) (bytes_eq (spelling m) text) refl e
  where
    checked_both : (a b : Bool) → is_value m ≡ a → cond (a && b) (Some m) None ≡ Some n → is_value n ≡ true
    checked_both true true is_true e = cc
    checked_both true false is_true e = cc
    checked_both false b is_false e = cc

decimal_fit : (text : List ℕ) (n : ℕ) → decimal_value text ≡ Some n → is_value n ≡ true
unfolding decimal_value
decimal_fit text n e = spelled_below decimal text (digits_value 10 text) n e

hex_fit : (text : List ℕ) (n : ℕ) → hex_value text ≡ Some n → is_value n ≡ true
unfolding hex_value
hex_fit text n e = spelled_below hex text (digits_value 16 (drop 2 text)) n e

hex_onto : (j k n : ℕ) (acc : List ℕ) → n < 16 ^ suc j → length (digits_onto k 16 false n acc) ≤ suc j + length acc
hex_onto j zero n acc fits = omega arith
hex_onto zero (suc k) n acc fits =
    let last : (n / 16 == 0) ≡ true = grind (arith, nat_tests, fits) in
    rw last (omega arith)
hex_onto (suc j) (suc k) n acc fits = by (n / 16 == 0) (hex_onto j k (n / 16) (digit_glyph false (n % 16) ∷ acc) (omega (arith, fits)))
  where
    longer : List ℕ
    longer = digit_glyph false (n % 16) ∷ acc

    by : (t : Bool) → length (digits_onto k 16 false (n / 16) longer) ≤ suc j + length longer
        → length (cond t longer (digits_onto k 16 false (n / 16) longer)) ≤ suc (suc j) + length acc
    by true more = omega arith
    by false more = omega (arith, more)

hex_length : (n : ℕ) → n < 2 ^ 64 → length (hex n) ≤ 20
unfolding digits
hex_length n below = let most = hex_onto 15 64 n [] (omega (arith, below)) in omega (arith, most)

decimal_length : (n : ℕ) → n < 2 ^ 64 → length (decimal n) ≤ 20
decimal_length n below = length-decimal-le 20 n (omega arith) (omega (arith, below)) below

-- a number below 2 ^ 64, in decimal and in hex

pub any_decimal : (Sure : Type 0) → IsField Sure decimal_value decimal is_value
any_decimal Sure = record {
  fit = decimal_fit;
  once = λ text n e. decimal_once text e;
  again = λ sure n e. decimal_read n (ltb-true n (2 ^ 64) e);
  shows = digits_visible 10;
  short = λ sure n e. decimal_length n (ltb-true n (2 ^ 64) e);
}

pub any_hex : (Sure : Type 0) → IsField Sure hex_value hex is_value
any_hex Sure = record {
  fit = hex_fit;
  once = λ text n e. hex_once text e;
  again = λ sure n e. hex_read n (ltb-true n (2 ^ 64) e);
  shows = digits_visible 16;
  short = λ sure n e. hex_length n (ltb-true n (2 ^ 64) e);
}

-- a test on the values of a field, which all that pass it can be
pub tested : {A : Type 0} {Sure : Type 0} {read : List ℕ → Option A} {spelling : A → List ℕ} {fits : A → Bool} (test : A → Bool)
    → IsField Sure read spelling fits → (Sure → (x : A) → test x ≡ true → fits x ≡ true)
    → IsField Sure (λ text. passing test (read text)) spelling test
tested {read = read} {spelling = spelling} test is within = record {
  fit = λ text x e. (passing_ok test (read text) e).1;
  once = λ text x e. is.once text x (passing_ok test (read text) e).0;
  again = λ sure x e. passing_read test (read (spelling x)) (is.again sure x (within sure x e)) e;
  shows = is.shows;
  short = λ sure x e. is.short sure x (within sure x e);
}

-- the word of a value passes a test that all words of its table pass
pub word_passes : {A : Type 0} (test : List ℕ → Bool) (word : A → List ℕ) (text : List ℕ) (x : A) (values : List A)
    → list_all (λ v. test (word v)) values ≡ true → with_word word values text ≡ Some x → test (word x) ≡ true
word_passes test word text x [] all is = cc
word_passes {A = A} test word text x (v ∷ vs) all is =
    let parts = and_parts (test (word v)) (list_all (λ u. test (word u)) vs) all in
    by (bytes_eq (word v) text) parts.0 (word_passes test word text x vs parts.1) is
  where
    by : (t : Bool) → test (word v) ≡ true → (with_word word vs text ≡ Some x → test (word x) ≡ true)
        → cond t (Some v) (with_word word vs text) ≡ Some x → test (word x) ≡ true
    by true here later is = let same : v ≡ x = cc in subst (λ (u : A). test (word u) ≡ true) same here
    by false here later is = later is

-- each byte of the word shows, and it has at most 20
abbrev pub is_clean : List ℕ → Bool
is_clean word = visible word && nat_le (length word) 20

-- a word of a table by which each value is found again
pub a_word : {A : Type 0} (Sure : Type 0) (word : A → List ℕ) (values : List A)
    → ((x : A) → with_word word values (word x) ≡ Some x) → list_all (λ v. is_clean (word v)) values ≡ true
    → IsField Sure (with_word word values) word (λ _. true)
a_word {A = A} Sure word values found_again all = record {
  fit = λ text x e. refl;
  once = λ text x e. word_once word values text e;
  again = λ sure x e. found_again x;
  shows = λ x. (clean x).0;
  short = λ sure x e. leb-true (length (word x)) 20 (clean x).1;
}
  where
    clean : (x : A) → (visible (word x) ≡ true) × (nat_le (length (word x)) 20 ≡ true)
    clean x =
        and_parts (visible (word x)) (nat_le (length (word x)) 20)
        (word_passes is_clean word (word x) x values all (found_again x))

-- one word alone
pub exact : (Sure : Type 0) (word : List ℕ) → is_clean word ≡ true → IsField Sure (exactly word) (λ _. word) (bytes_eq word)
exact Sure word clean = record {
  fit = λ text x e. ap (bytes_eq word) (sym (read text x e).1) ∙ (read text x e).0;
  once = λ text x e. sym ((bytes_eq-Decides word text).0 (read text x e).0);
  again = λ sure x e. ap (λ t. cond t (Some word) None) ((bytes_eq-Decides word word).1 refl) ∙ ap Some ((bytes_eq-Decides word x).0 e);
  shows = λ x. (and_parts (visible word) (nat_le (length word) 20) clean).0;
  short = λ sure x e. leb-true (length word) 20 (and_parts (visible word) (nat_le (length word) 20) clean).1;
}
  where
    read : (text x : List ℕ) → exactly word text ≡ Some x → (bytes_eq word text ≡ true) × (text ≡ x)
    read text x e = by (bytes_eq word text) refl e
      where
        by : (t : Bool) → bytes_eq word text ≡ t → cond t (Some text) None ≡ Some x → (bytes_eq word text ≡ true) × (text ≡ x)
        by true is f = (is, cc)
        by false is f = cc

-- ---- codecs

-- The same of a codec, with the causes where nothing is read. Its fields have at most 20 bytes each, and each has a byte
-- behind it.
pub record IsCodec {A : Type 0} (Sure : Type 0) (Cause : Malformed → Type 0) (most : ℕ) (codec : Codec A) : Type 0 where
  pub fit : (rest : Fields) (x : A × Fields) → codec.read rest ≡ Ok x → codec.fits x.0 ≡ true
  pub once : (rest : Fields) (x : A × Fields) → codec.read rest ≡ Ok x → rest ≡ codec.written x.0 ++ x.1
  pub again : Sure → (x : A) (rest : Fields) → codec.fits x ≡ true → codec.read (codec.written x ++ rest) ≡ Ok (x, rest)
  pub shows : (x : A) → all_visible (codec.written x) ≡ true
  pub short : Sure → (x : A) → codec.fits x ≡ true → size (codec.written x) ≤ 21 * most
  pub ends : (rest : Fields) → Ends Cause (codec.read rest)

pub one : {A : Type 0} {Sure : Type 0} {read : List ℕ → Option A} {spelling : A → List ℕ} {fits : A → Bool}
    (Cause : Malformed → Type 0) (absent unreadable : Malformed) → Cause absent → Cause unreadable
    → IsField Sure read spelling fits → IsCodec Sure Cause 1 (field_or absent unreadable read spelling fits)
one {A = A} {read = read} {spelling = spelling} Cause absent unreadable p q is = record {
  fit = λ rest x e. let t = field_ok absent unreadable read rest e in is.fit t.0 x.0 t.2;
  once = λ rest x e. let t = field_ok absent unreadable read rest e in
      t.1 ∙ ap (λ (text : List ℕ). text ∷ x.1) (is.once t.0 x.0 t.2);
  again = λ sure x rest e. ap (λ o. found unreadable o rest) (is.again sure x e);
  shows = λ x. and_from _ _ (is.shows x) refl;
  short = λ sure x e. let few = is.short sure x e in omega (arith, few);
  ends = ends;
}
  where
    by : (o : Option A) (rest : Fields) → Ends Cause (found unreadable o rest)
    by None rest = q
    by (Some value) rest = tt

    ends : (rest : Fields) → Ends Cause (next_field absent unreadable read rest)
    ends [] = p
    ends (text ∷ rest) = by (read text) rest

-- one codec behind another
pub both : {A B : Type 0} {Sure : Type 0} {Cause : Malformed → Type 0} {n m : ℕ} {first : Codec A} {second : A → Codec B}
    → IsCodec Sure Cause n first → ((x : A) → IsCodec Sure Cause m (second x)) → IsCodec Sure Cause (n + m) (first &> second)
both {A = A} {B = B} {Cause = Cause} {first = first} {second = second} is then = record {
  fit = λ rest x e. let r = read rest x e in
      subst (λ (y : (A × B) × Fields). codec.fits y.0 ≡ true) r.4
      (and_from _ _ (is.fit rest r.0 r.2) ((then r.0.0).fit r.0.1 r.1 r.3));
  once = λ rest x e. let r = read rest x e in
      subst (λ (y : (A × B) × Fields). rest ≡ codec.written y.0 ++ y.1) r.4
      (is.once rest r.0 r.2
      ∙ ap (λ (left : Fields). first.written r.0.0 ++ left) ((then r.0.0).once r.0.1 r.1 r.3)
      ∙ sym (append_assoc (first.written r.0.0) ((second r.0.0).written r.1.0) r.1.1));
  again = λ sure x rest e.
      let parts = and_parts (first.fits x.0) ((second x.0).fits x.1) e in
      let left = (second x.0).written x.1 ++ rest in
      ap codec.read (append_assoc (first.written x.0) ((second x.0).written x.1) rest)
      ∙ on (first.read (first.written x.0 ++ left)) _ (is.again sure x.0 left parts.0)
      ∙ on ((second x.0).read left) _ ((then x.0).again sure x.1 rest parts.1);
  shows = λ x. visible_append (first.written x.0) ((second x.0).written x.1) (is.shows x.0) ((then x.0).shows x.1);
  short = λ sure x e.
      let parts = and_parts (first.fits x.0) ((second x.0).fits x.1) e in
      let few = is.short sure x.0 parts.0 in
      let more = (then x.0).short sure x.1 parts.1 in
      omega (arith, few, more, size_append (first.written x.0) ((second x.0).written x.1));
  ends = λ rest.
      then_ends Cause (first.read rest) _ (is.ends rest) (λ x.
      then_ends Cause ((second x.0).read x.1) _ ((then x.0).ends x.1) (λ y. tt));
}
  where
    codec : Codec (A × B)
    codec = first &> second

    read : (rest : Fields) (x : (A × B) × Fields) → (first &> second).read rest ≡ Ok x
        → (a : A × Fields) × (b : B × Fields) × (first.read rest ≡ Ok a) × ((second a.0).read a.1 ≡ Ok b) × (((a.0, b.0), b.1) ≡ x)
    read rest x e =
        let a = bind_ok (first.read rest) _ e in
        let b = bind_ok ((second a.0.0).read a.0.1) _ a.2 in
        (a.0, b.0, a.1, b.1, cc)

-- a value that another one tells, and that tells it where it fits
pub told : {A B : Type 0} {Sure : Type 0} {Cause : Malformed → Type 0} {n : ℕ} {codec : Codec A} (to : A → B) (from : B → A)
    → IsCodec Sure Cause n codec → ((x : A) → codec.fits x ≡ true → from (to x) ≡ x) → ((y : B) → to (from y) ≡ y)
    → IsCodec Sure Cause n (mapped codec to from)
told {A = A} {B = B} {Cause = Cause} {codec = codec} to from is back there = record {
  fit = λ rest y e. let r = read rest y e in
      ap codec.fits (ap (λ (z : B × Fields). from z.0) (sym r.2) ∙ r.3) ∙ is.fit rest r.0 r.1;
  once = λ rest y e. let r = read rest y e in
      is.once rest r.0 r.1
      ∙ ap (λ (x : A). codec.written x ++ r.0.1) (sym r.3)
      ∙ ap (λ (z : B × Fields). codec.written (from z.0) ++ z.1) r.2;
  again = λ sure y rest e.
      on (codec.read (codec.written (from y) ++ rest)) _ (is.again sure (from y) rest e)
      ∙ ap (λ (z : B). Ok (z, rest)) (there y);
  shows = λ y. is.shows (from y);
  short = λ sure y e. is.short sure (from y) e;
  ends = λ rest. then_ends Cause (codec.read rest) _ (is.ends rest) (λ x. tt);
}
  where
    read : (rest : Fields) (y : B × Fields) → (mapped codec to from).read rest ≡ Ok y
        → (x : A × Fields) × (codec.read rest ≡ Ok x) × ((to x.0, x.1) ≡ y) × (from (to x.0) ≡ x.0)
    read rest y e =
        let x = bind_ok (codec.read rest) _ e in
        (x.0, x.1, cc, back x.0.0 (is.fit rest x.0 x.1))
