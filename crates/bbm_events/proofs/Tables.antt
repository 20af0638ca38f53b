-- What is proved of lines: once of a codec with nothing behind it, and once of a table of lines by their words.
use Rattle.bbm_events.proofs.Common.{◌≡◌, ℕ, ◌*◌, ◌≤◌, List, [], ◌∷◌, ◌++◌, length, Bool, true, nat_le, refl, ap, sym, ◌∙◌}
use Rattle.bbm_events.proofs.Common.{subst, arith, Option, Result, Ok, Err, leb-true, Malformed, ExtraField}
use Rattle.bbm_events.proofs.Common.{Codec, ◌>>=◌, Fields, whole, field_or, line, fields, joined}
use Rattle.std.proofs.Common.{◌+◌, append_assoc, append-nil}
use Rattle.std.proofs.lemmas.Bool.{and_from}
use Rattle.bbm_events.specs.Spelling.{is_plain}
use Rattle.bbm_events.proofs.Codecs.{IsField, IsCodec, Ends, then_ends, bind_ok, on, one}
use Rattle.bbm_events.proofs.Joining.{all_visible, fields_joined, joined_fields, joined_plain, joined_size, size}

-- What lines say: when what is written is read again and short, which causes there are of them and of a field, of which
-- values each byte shows, which fit, and the fields of each.
pub record Grammar (B : Type 0) : Type 1 where
  pub Sure : Type 0
  pub Cause : Malformed → Type 0
  pub Field : Malformed → Type 0
  pub wide : (cause : Malformed) → Field cause → Cause cause
  pub Shown : B → Type 0
  pub fit : B → Bool
  pub spelled : B → Fields

-- What is proved of lines that begin with the same fields, by what the others say. Their word is known, or they fit nothing.
pub record IsLine {B C : Type 0} (g : Grammar B) (front : Fields) (known : Bool) (most : ℕ) (says : C → B) (read : Fields → Result B Malformed) : Type 0 where
  pub tail : C → Fields
  pub fits : known ≡ true → (rest : Fields) (x : B) → read rest ≡ Ok x → g.fit x ≡ true
  pub once : (rest : Fields) (x : B) → read rest ≡ Ok x → front ++ rest ≡ g.spelled x
  pub ends : (rest : Fields) → Ends g.Cause (read rest)
  pub spells : (x : C) → g.spelled (says x) ≡ front ++ tail x
  pub again : g.Sure → (x : C) → g.fit (says x) ≡ true → read (tail x) ≡ Ok (says x)
  pub shows : (x : C) → g.Shown (says x) → all_visible (tail x) ≡ true
  pub short : g.Sure → (x : C) → g.fit (says x) ≡ true → size (tail x) ≤ most

-- one row of a table
pub record Row {B : Type 0} (g : Grammar B) (front : Fields) (known : Bool) (most : ℕ) (read : Fields → Result B Malformed) : Type 1 where
  pub C : Type 0
  pub says : C → B
  pub is : IsLine g front known most says read

whole_end : {A : Type 0} (value : A) (rest : Fields) {y : A} → whole value rest ≡ Ok y → (rest ≡ []) × (value ≡ y)
whole_end value [] e = (refl, cc)
whole_end value (text ∷ rest) e = cc

pub whole_ends : {A : Type 0} (Cause : Malformed → Type 0) → Cause ExtraField → (value : A) (rest : Fields) → Ends Cause (whole value rest)
whole_ends Cause p value [] = tt
whole_ends Cause p value (text ∷ rest) = p

pub widened : {A : Type 0} {Field Cause : Malformed → Type 0} → ((cause : Malformed) → Field cause → Cause cause)
    → (r : Result A Malformed) → Ends Field r → Ends Cause r
widened wide (Ok x) e = tt
widened wide (Err cause) e = wide cause e

-- a codec with nothing behind it
pub line_is : {A B : Type 0} {g : Grammar B} {front : Fields} {known : Bool} {most n : ℕ} {codec : Codec A} (extra : g.Cause ExtraField) (says : A → B)
    → IsCodec g.Sure g.Field n codec → nat_le (21 * n) most ≡ true
    → (known ≡ true → (x : A) → codec.fits x ≡ true → g.fit (says x) ≡ true)
    → ((x : A) → g.fit (says x) ≡ true → codec.fits x ≡ true)
    → ((x : A) → g.spelled (says x) ≡ front ++ codec.written x)
    → IsLine g front known most says (line codec says)
line_is {A = A} {B = B} {g = g} {front = front} {most = most} {n = n} {codec = codec} extra says is few into out spells = record {
  tail = codec.written;
  fits = λ sure rest x e. let r = read rest x e in
      ap g.fit (sym r.2) ∙ into sure r.0.0 (is.fit rest r.0 r.1);
  once = λ rest x e. let r = read rest x e in
      ap (λ (left : Fields). front ++ left) (is.once rest r.0 r.1 ∙ ap (λ (left : Fields). codec.written r.0.0 ++ left) r.3 ∙ append-nil (codec.written r.0.0))
      ∙ sym (spells r.0.0) ∙ ap g.spelled r.2;
  ends = λ rest.
      then_ends g.Cause (codec.read rest) _ (widened g.wide (codec.read rest) (is.ends rest)) (λ x.
      whole_ends g.Cause extra (says x.0) x.1);
  spells = spells;
  again = λ sure x e.
      ap (line codec says) (sym (append-nil (codec.written x)))
      ∙ on (codec.read (codec.written x ++ [])) _ (is.again sure x [] (out x e));
  shows = λ x shown. is.shows x;
  short = λ sure x e.
      let some = is.short sure x (out x e) in
      let all = leb-true (21 * n) most few in
      omega (arith, some, all);
}
  where
    read : (rest : Fields) (x : B) → line codec says rest ≡ Ok x
        → (v : A × Fields) × (codec.read rest ≡ Ok v) × (says v.0 ≡ x) × (v.1 ≡ [])
    read rest x e =
        let v = bind_ok (codec.read rest) _ e in
        let end = whole_end (says v.0.0) v.0.1 v.2 in
        (v.0, v.1, end.1, end.0)

abbrev pub row : {A B : Type 0} {g : Grammar B} {front : Fields} {known : Bool} {most n : ℕ} {codec : Codec A} (extra : g.Cause ExtraField) (says : A → B)
    → IsCodec g.Sure g.Field n codec → nat_le (21 * n) most ≡ true
    → ((x : A) → codec.fits x ≡ g.fit (says x)) → ((x : A) → g.spelled (says x) ≡ front ++ codec.written x)
    → Row g front known most (line codec says)
row {A = A} extra says is few same spells = record {
  C = A;
  says = says;
  is = line_is extra says is few (λ _ x e. sym (same x) ∙ e) (λ x e. same x ∙ e) spells;
}

-- A table: the first field is a word, which tells the row.
module _ {W D B : Type 0} {g : Grammar B} {front : Fields} {most : ℕ} {read : List ℕ → Option W} {word : W → List ℕ} {test : W → Bool} {after : W → Fields → Result B Malformed} (absent cause : Malformed) (p : g.Field absent) (q : g.Field cause) (is : IsField g.Sure read word test) (rows : (w : W) → Row g (front ++ (word w ∷ [])) (test w) most (after w)) (top : D → B) (at : (x : D) → (w : W) × (v : (rows w).C) × ((rows w).says v ≡ top x)) (knows : (x : D) → g.fit (top x) ≡ true → test (at x).0 ≡ true) where
  pub table : IsLine g front true (21 + most) top (λ rest. (field_or absent cause read word test).read rest >>= (λ w. after w.0 w.1))
  table = record {
    tail = λ x. word (at x).0 ∷ (rows (at x).0).is.tail (at x).1;
    fits = λ sure rest x e. let w = bind_ok ((field_or absent cause read word test).read rest) _ e in
        (rows w.0.0).is.fits (codec.fit rest w.0 w.1) w.0.1 x w.2;
    once = λ rest x e. let w = bind_ok ((field_or absent cause read word test).read rest) _ e in
        ap (λ (left : Fields). front ++ left) (codec.once rest w.0 w.1)
        ∙ sym (append_assoc front (word w.0.0 ∷ []) w.0.1)
        ∙ (rows w.0.0).is.once w.0.1 x w.2;
    ends = λ rest.
        then_ends g.Cause ((field_or absent cause read word test).read rest) _ (widened g.wide ((field_or absent cause read word test).read rest) (codec.ends rest)) (λ w.
        (rows w.0).is.ends w.1);
    spells = λ x. let a = at x in
        ap g.spelled (sym a.2) ∙ (rows a.0).is.spells a.1 ∙ append_assoc front (word a.0 ∷ []) ((rows a.0).is.tail a.1);
    again = λ sure x e. let a = at x in
        on ((field_or absent cause read word test).read (word a.0 ∷ (rows a.0).is.tail a.1)) _ (codec.again sure a.0 ((rows a.0).is.tail a.1) (knows x e))
        ∙ (rows a.0).is.again sure a.1 (ap g.fit a.2 ∙ e) ∙ ap Ok a.2;
    shows = λ x shown. let a = at x in
        and_from _ _ (is.shows a.0) ((rows a.0).is.shows a.1 (subst g.Shown (sym a.2) shown));
    short = λ sure x e. let a = at x in
        let here = is.short sure a.0 (knows x e) in
        let more = (rows a.0).is.short sure a.1 (ap g.fit a.2 ∙ e) in
        omega (arith, here, more);
  }
    where
      codec : IsCodec g.Sure g.Field 1 (field_or absent cause read word test)
      codec = one g.Field absent cause p q is

-- lines of a known word, whatever is known
pub loose : {B C : Type 0} {g : Grammar B} {front : Fields} {known : Bool} {most : ℕ} {says : C → B} {read : Fields → Result B Malformed}
    → IsLine g front true most says read → IsLine g front known most says read
loose is = record {
  tail = is.tail;
  fits = λ _. is.fits refl;
  once = is.once;
  ends = is.ends;
  spells = is.spells;
  again = is.again;
  shows = is.shows;
  short = is.short;
}

-- What is proved of lines by their bytes.
pub record AreLines {B : Type 0} (g : Grammar B) (read : List ℕ → Result B Malformed) (written : B → List ℕ) : Type 0 where
  pub fits : (line : List ℕ) (x : B) → read line ≡ Ok x → g.fit x ≡ true
  pub once : (line : List ℕ) (x : B) → read line ≡ Ok x → line ≡ written x
  pub ends : (line : List ℕ) → Ends g.Cause (read line)
  pub again : (x : B) → g.Sure → g.fit x ≡ true → g.Shown x → read (written x) ≡ Ok x
  pub plain : (x : B) → g.Shown x → is_plain (written x) ≡ true
  pub short : (x : B) → g.Sure → g.fit x ≡ true → length (written x) ≤ 200

-- the fields of each value begin with one
abbrev pub HasFirst : {B : Type 0} → (B → Fields) → B → Type 0
HasFirst spelled x = (word : List ℕ) × (rest : Fields) × (spelled x ≡ word ∷ rest)

pub lines : {B : Type 0} {g : Grammar B} {most : ℕ} {read : Fields → Result B Malformed}
    → IsLine g [] true most (λ (x : B). x) read → nat_le most 200 ≡ true → ((x : B) → HasFirst g.spelled x)
    → AreLines g (λ line. read (fields line)) (λ x. joined (g.spelled x))
lines {B = B} {g = g} {most = most} {read = read} is few first = record {
  fits = λ line x e. is.fits refl (fields line) x e;
  once = λ line x e. joined_fields line (g.spelled x) (is.once (fields line) x e);
  ends = λ line. is.ends (fields line);
  again = λ x sure e shown. ap read (read_back x (shows x shown)) ∙ ap read (is.spells x) ∙ is.again sure x e;
  plain = λ x shown. joined_plain (g.spelled x) (shows x shown);
  short = λ x sure e.
      let some = is.short sure x e in
      let all = leb-true most 200 few in
      subst (λ (all : Fields). length (joined all) ≤ 200) (sym (is.spells x)) (omega (arith, some, all, joined_size (is.tail x)));
}
  where
    shows : (x : B) → g.Shown x → all_visible (g.spelled x) ≡ true
    shows x shown = ap all_visible (is.spells x) ∙ is.shows x shown

    read_back : (x : B) → all_visible (g.spelled x) ≡ true → fields (joined (g.spelled x)) ≡ g.spelled x
    read_back x clean =
        let some = first x in
        ap (λ (all : Fields). fields (joined all)) some.2
        ∙ fields_joined some.0 some.1 (sym (ap all_visible some.2) ∙ clean)
        ∙ sym some.2
