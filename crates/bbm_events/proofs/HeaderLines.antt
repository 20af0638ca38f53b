-- The header: a row for the word of each world.
use Rattle.bbm_events.proofs.Common.{◌≡◌, ℕ, ◌*◌, ◌^◌, ◌≤◌, List, [], ◌∷◌, ◌++◌, Bool, true, false, not, ◌&&◌, ◌||◌}
use Rattle.bbm_events.proofs.Common.{Option, cond, nat_le, refl, ap, sym, ◌∙◌, arith, codes, decimal, Ok, Err}
use Rattle.bbm_events.proofs.Common.{IfErr, and_parts, leb-true, nat_tests, World, HypWorld, KernelWorld, Hyp}
use Rattle.bbm_events.proofs.Common.{Kernel, AsidFrom, world_ok, NoMagic, BadHeader, Heading, heading_ok}
use Rattle.bbm_events.proofs.Common.{is_version, is_value, may_share, cnp_word, cnps, asid_from_word, asid_froms}
use Rattle.bbm_events.proofs.Common.{Codec, ◌>>=◌, Fields, checked, cnp_field, cnp_fields, header_fields, shared_field}
use Rattle.bbm_events.proofs.Common.{heading_line, world_after, version_after, number_field}
use Rattle.bbm_events.proofs.Common.{asid_from_field, world_word, world_words, version_field, header_field}
use Rattle.std.proofs.Common.{◌+◌, append-nil}
use Rattle.std.proofs.lemmas.Bool.{and_from, lt-ltb}
use Rattle.bbm_events.specs.Causes.{IsHeaderCause}
use Rattle.bbm_events.specs.Heading.{has_words}
use Rattle.bbm_events.specs.Lines.{header_line, header_of, header_words, said, word_field, word_fields}
use Rattle.bbm_events.specs.declared.header_words.HeaderWords.{HeaderWords}
use Rattle.bbm_events.specs.declared.header_words.WorldWord.{WorldWord}
use Rattle.bbm_events.specs.declared.header_words.WorldWord.TheVariants as word
use Rattle.bbm_events.proofs.Codecs.{IsField, IsCodec, Ends, then_ends, bind_ok, on, one, tested, any_decimal, a_word}
use Rattle.bbm_events.proofs.Codecs.{exact, both}
use Rattle.bbm_events.proofs.WordRows.{may_word_once, words_once, words_read, word_next, said_shows, words_show}
use Rattle.bbm_events.proofs.Joining.{all_visible, size, size_append, visible_append}
use Rattle.bbm_events.proofs.Ranges.{ranges}
use Rattle.bbm_events.proofs.Tables.{Grammar, IsLine, Row, AreLines, table, lines, loose}
use Rattle.bbm_events.proofs.WordsRead.{cnp_word_read, asid_from_word_read, world_word_read}

-- ---- fields

a_field : {A : Type 0} {read : List ℕ → Option A} {spelling : A → List ℕ} {fits : A → Bool}
    → IsField (Unit {0}) read spelling fits → IsCodec (Unit {0}) IsHeaderCause 1 (header_field read spelling fits)
a_field is = one IsHeaderCause BadHeader BadHeader tt tt is

number : IsCodec (Unit {0}) IsHeaderCause 1 number_field
number = a_field (any_decimal (Unit {0}))

asid_from : IsCodec (Unit {0}) IsHeaderCause 1 asid_from_field
asid_from = a_field (a_word (Unit {0}) asid_from_word asid_froms asid_from_word_read refl)

shared : IsCodec (Unit {0}) IsHeaderCause 1 shared_field
shared = a_field (a_word (Unit {0}) cnp_word cnps cnp_word_read refl)

-- ---- what follows the numbers

checked_ok : (h : Heading) (rest : Fields) {x : Heading} → checked h rest ≡ Ok x → (heading_ok x ≡ true) × (rest ≡ []) × (h ≡ x)
checked_ok h [] {x = x} e = by_ranges (heading_ok h) refl e
  where
    by_ranges : (ok : Bool) → heading_ok h ≡ ok → cond ok (Ok h) (Err BadHeader) ≡ Ok x → (heading_ok x ≡ true) × (◌≡◌ {A = Fields} [] []) × (h ≡ x)
    by_ranges true is f = let same : h ≡ x = cc in (ap heading_ok (sym same) ∙ is, refl, same)
    by_ranges false is f = cc
checked_ok h (text ∷ rest) e = cc

cnp_once : (version : ℕ) (rest : Fields) (x : Bool × Fields) → cnp_field version rest ≡ Ok x → rest ≡ cnp_fields version x.0 ++ x.1
cnp_once version rest x e = by (has_words version) (may_share version) e
  where
    by : (words shares : Bool) → cond words (Ok (word_field (codes "cnp") rest)) (cond shares (shared_field.read rest) (Ok (false, rest))) ≡ Ok x
        → rest ≡ cond words (said x.0 (codes "cnp")) (cond shares (cnp_word x.0 ∷ []) []) ++ x.1
    by true shares f =
        let same : word_field (codes "cnp") rest ≡ x = cc in
        may_word_once (codes "cnp") rest ∙ ap (λ (y : Bool × Fields). said y.0 (codes "cnp") ++ y.1) same
    by false true f = shared.once rest x f
    by false false f = let left : rest ≡ x.1 = cc in left

cnp_read : (version : ℕ) (cnp : Bool) (words : HeaderWords) → (may_share version || not cnp) ≡ true
    → cnp_field version (cnp_fields version cnp ++ word_fields words) ≡ Ok (cnp, word_fields words)
cnp_read version cnp words fits = by (has_words version) (may_share version) cnp fits
  where
    all : Bool → Bool → Bool → Fields
    all has shares cnp = cond has (said cnp (codes "cnp")) (cond shares (cnp_word cnp ∷ []) []) ++ word_fields words

    by : (has shares cnp : Bool) → (shares || not cnp) ≡ true
        → cond has (Ok (word_field (codes "cnp") (all has shares cnp))) (cond shares (shared_field.read (all has shares cnp)) (Ok (false, all has shares cnp)))
        ≡ Ok (cnp, word_fields words)
    by true shares cnp f = ap Ok (word_next cnp (codes "cnp") words refl)
    by false true cnp f = shared.again tt cnp (word_fields words) refl
    by false false true f = cc
    by false false false f = refl

cnp_ends : (version : ℕ) (rest : Fields) → Ends IsHeaderCause (cnp_field version rest)
cnp_ends version rest = by (has_words version) (may_share version)
  where
    by : (words shares : Bool) → Ends IsHeaderCause (cond words (Ok (word_field (codes "cnp") rest)) (cond shares (shared_field.read rest) (Ok (false, rest))))
    by true shares = tt
    by false true = shared.ends rest
    by false false = tt

checked_ends : (h : Heading) (rest : Fields) → Ends IsHeaderCause (checked h rest)
checked_ends h [] = by (heading_ok h)
  where
    by : (ok : Bool) → Ends IsHeaderCause (cond ok (Ok h) (Err BadHeader))
    by true = tt
    by false = tt
checked_ends h (text ∷ rest) = tt

abbrev end_fields : ℕ → Bool → HeaderWords → Fields
end_fields version cnp words = cnp_fields version cnp ++ word_fields words

end_shows : (version : ℕ) (cnp : Bool) (words : HeaderWords)
    → (all_visible (end_fields version cnp words) ≡ true) × (size (end_fields version cnp words) ≤ 48)
end_shows version cnp words =
    let here = by (has_words version) (may_share version) in
    let more = words_show words in
    let few = here.1 in
    let left = more.1 in
    (visible_append (cnp_fields version cnp) (word_fields words) here.0 more.0, omega (arith, few, left, size_append (cnp_fields version cnp) (word_fields words)))
  where
    by : (has shares : Bool) → (all_visible (cond has (said cnp (codes "cnp")) (cond shares (cnp_word cnp ∷ []) [])) ≡ true)
        × (size (cond has (said cnp (codes "cnp")) (cond shares (cnp_word cnp ∷ []) [])) ≤ 21)
    by true shares = let said = said_shows cnp (codes "cnp") refl in let few = said.1 in (said.0, omega (arith, few))
    by false true = let few = shared.short tt cnp refl in (shared.shows cnp, omega (arith, few))
    by false false = (refl, omega arith)

-- ---- the rows

abbrev headings : Grammar Heading
headings = record {
  Sure = Unit {0};
  Cause = IsHeaderCause;
  Field = IsHeaderCause;
  wide = λ cause e. e;
  Shown = λ _. Unit {0};
  fit = heading_ok;
  spelled = λ h. codes "bbmlog" ∷ decimal h.version ∷ header_fields h.pes h.world (end_fields h.version h.cnp h.words);
}

abbrev heading_of : ℕ → ℕ × World → Bool → HeaderWords → Heading
heading_of version numbers cnp words =
    record { version = version; pes = numbers.0; cnp = cnp; words = words; world = numbers.1 }

-- the numbers of a header, and what follows them
module _ {A : Type 0} {n : ℕ} {codec : Codec A} (version : ℕ) (front : Fields) (says : A → ℕ × World) (is : IsCodec (Unit {0}) IsHeaderCause n codec) (few : nat_le (21 * n + 48) 132 ≡ true) (out : (x : A) → (says x).0 ≤ 128 → world_ok (says x).1 ≡ true → codec.fits x ≡ true) (spelled : (x : A) (after : Fields) → codes "bbmlog" ∷ decimal version ∷ header_fields (says x).0 (says x).1 after ≡ front ++ (codec.written x ++ after)) where
  abbrev told : A × Bool × HeaderWords → Heading
  told x = heading_of version (says x.0) x.1 x.2

  read : (rest : Fields) (x : Heading) → heading_line version codec says rest ≡ Ok x
      → (v : A × Bool × HeaderWords) × (heading_ok x ≡ true) × (told v ≡ x) × (rest ≡ codec.written v.0 ++ end_fields version v.1 v.2)
  read rest x e =
      let v = bind_ok (codec.read rest) _ e in
      let cnp = bind_ok (cnp_field version v.0.1) _ v.2 in
      let words : HeaderWords × Fields = header_words version cnp.0.1 in
      let end = checked_ok (heading_of version (says v.0.0) cnp.0.0 words.0) words.1 cnp.2 in (
        (v.0.0, cnp.0.0, words.0),
        end.0,
        end.2,
        is.once rest v.0 v.1
            ∙ ap (λ (left : Fields). codec.written v.0.0 ++ left) (cnp_once version v.0.1 cnp.0 cnp.1
            ∙ ap (λ (left : Fields). cnp_fields version cnp.0.0 ++ left) (words_once version cnp.0.1
            ∙ ap (λ (left : Fields). word_fields words.0 ++ left) end.1 ∙ append-nil (word_fields words.0))),
      )

  fits : (x : A × Bool × HeaderWords) → heading_ok (told x) ≡ true → codec.fits x.0 ≡ true
  fits x ok = let here = ranges (told x) ok in out x.0 here.pes here.world

  heading_is : {known : Bool} → IsLine headings front known 132 told (heading_line version codec says)
  heading_is = record {
    tail = λ x. codec.written x.0 ++ end_fields version x.1 x.2;
    fits = λ known rest x e. (read rest x e).1;
    once = λ rest x e. let r = read rest x e in
        ap (λ (left : Fields). front ++ left) r.3 ∙ sym (spelled r.0.0 (end_fields version r.0.1 r.0.2)) ∙ ap headings.spelled r.2;
    ends = λ rest.
        then_ends IsHeaderCause (codec.read rest) _ (is.ends rest) (λ x.
        then_ends IsHeaderCause (cnp_field version x.1) _ (cnp_ends version x.1) (λ cnp.
        checked_ends (heading_of version (says x.0) cnp.0 (header_words version cnp.1).0) (header_words version cnp.1).1));
    spells = λ x. spelled x.0 (end_fields version x.1 x.2);
    again = λ sure x ok. let here = ranges (told x) ok in
        on (codec.read (codec.written x.0 ++ end_fields version x.1 x.2)) _ (is.again tt x.0 (end_fields version x.1 x.2) (fits x ok))
        ∙ on (cnp_field version (end_fields version x.1 x.2)) _ (cnp_read version x.1 x.2 here.cnp)
        ∙ ap (λ (w : HeaderWords × Fields). checked (heading_of version (says x.0) x.1 w.0) w.1) (words_read version (says x.0).1 x.2 here.words)
        ∙ ap (λ t. cond t (Ok (told x)) (Err BadHeader)) ok;
    shows = λ x shown. visible_append (codec.written x.0) (end_fields version x.1 x.2) (is.shows x.0) (end_shows version x.1 x.2).0;
    short = λ sure x ok.
        let some = is.short tt x.0 (fits x ok) in
        let more = (end_shows version x.1 x.2).1 in
        let all = leb-true (21 * n + 48) 132 few in
        omega (arith, some, more, all, size_append (codec.written x.0) (end_fields version x.1 x.2));
  }

  abbrev heading_row : {known : Bool} → Row headings front known 132 (heading_line version codec says)
  heading_row = record { C = A × Bool × HeaderWords; says = told; is = heading_is }

small : (n : ℕ) → n ≤ 128 → is_value n ≡ true
small n few = lt-ltb n (2 ^ 64) (omega (arith, few))

hyp_small : (pes : ℕ) (w : HypWorld) → pes ≤ 128 → world_ok (Hyp w) ≡ true
    → (is_value pes && is_value w.el2_start && is_value w.s2_start && is_value w.s2_pages) ≡ true
hyp_small pes w few ok =
    and_from _ _ (and_from _ _ (and_from _ _ (small pes few) (lt-ltb w.el2_start (2 ^ 64) (grind (arith, nat_tests))))
    (lt-ltb w.s2_start (2 ^ 64) (grind (arith, nat_tests)))) (lt-ltb w.s2_pages (2 ^ 64) (grind (arith, nat_tests)))

kernel_small : (pes : ℕ) (w : KernelWorld) → pes ≤ 128 → world_ok (Kernel w) ≡ true
    → (is_value pes && is_value w.start0 && is_value w.start1 && true) ≡ true
kernel_small pes w few ok =
    and_from _ _ (and_from _ _ (and_from _ _ (small pes few) (lt-ltb w.start0 (2 ^ 64) (grind (arith, nat_tests))))
    (lt-ltb w.start1 (2 ^ 64) (grind (arith, nat_tests)))) refl

module _ (version : ℕ) where
  -- a row for each world
  abbrev worlds : (w : WorldWord) → Row headings (codes "bbmlog" ∷ decimal version ∷ world_word w ∷ []) true 132 (world_after version w)
  worlds word.Hyp =
      heading_row version (codes "bbmlog" ∷ decimal version ∷ codes "hyp" ∷ []) (λ (x : ((ℕ × ℕ) × ℕ) × ℕ). (x.0.0.0, Hyp (record { el2_start = x.0.0.1; s2_start = x.0.1; s2_pages = x.1 })))
      (both (both (both number (λ _. number)) (λ _. number)) (λ _. number)) refl
      (λ x. hyp_small x.0.0.0 (record { el2_start = x.0.0.1; s2_start = x.0.1; s2_pages = x.1 })) (λ x after. refl)
  worlds word.Kernel =
      heading_row version (codes "bbmlog" ∷ decimal version ∷ codes "kernel" ∷ []) (λ (x : ((ℕ × ℕ) × ℕ) × AsidFrom). (x.0.0.0, Kernel (record { start0 = x.0.0.1; start1 = x.0.1; asid_from = x.1 })))
      (both (both (both number (λ _. number)) (λ _. number)) (λ _. asid_from)) refl
      (λ x. kernel_small x.0.0.0 (record { start0 = x.0.0.1; start1 = x.0.1; asid_from = x.1 })) (λ x after. refl)

  world_at : (x : (ℕ × World) × Bool × HeaderWords)
      → (w : WorldWord) × (v : (worlds w).C) × ((worlds w).says v ≡ heading_of version x.0 x.1 x.2)
  world_at x = by x.0.1
    where
      by : (world : World) → (w : WorldWord) × (v : (worlds w).C) × ((worlds w).says v ≡ heading_of version (x.0.0, world) x.1 x.2)
      by (Hyp w) = (word.Hyp, ((((x.0.0, w.el2_start), w.s2_start), w.s2_pages), x.1, x.2), refl)
      by (Kernel w) = (word.Kernel, ((((x.0.0, w.start0), w.start1), w.asid_from), x.1, x.2), refl)

  -- a row for each version
  abbrev versions : Row headings (codes "bbmlog" ∷ decimal version ∷ []) (is_version version) 153 (version_after version)
  versions = record {
    C = (ℕ × World) × Bool × HeaderWords;
    says = λ x. heading_of version x.0 x.1 x.2;
    is = loose (table BadHeader BadHeader tt tt (a_word (Unit {0}) world_word world_words world_word_read refl) worlds
        (λ (x : (ℕ × World) × Bool × HeaderWords). heading_of version x.0 x.1 x.2) world_at (λ x e. refl));
  }

version_small : (n : ℕ) → is_version n ≡ true → is_value n ≡ true
version_small n e =
    let low = leb-true n 5 (and_parts (nat_le 1 n) (nat_le n 5) e).1 in
    lt-ltb n (2 ^ 64) (omega (arith, low))

behind_magic : IsLine headings (codes "bbmlog" ∷ []) true 174 (λ (x : Heading). x) (λ rest. version_field.read rest >>= (λ v. version_after v.0 v.1))
behind_magic =
    table NoMagic NoMagic tt tt (tested is_version (any_decimal (Unit {0})) (λ _. version_small)) versions (λ x. x)
    (λ x. (x.version, ((x.pes, x.world), x.cnp, x.words), refl)) (λ x ok. (ranges x ok).version)

pub header_lines : AreLines headings header_of header_line
unfolding header_of header_line
header_lines =
    lines
    (table NoMagic NoMagic tt tt (exact (Unit {0}) (codes "bbmlog") refl) (λ w. record { C = Heading; says = λ x. x; is = loose behind_magic }) (λ x. x)
    (λ x. (codes "bbmlog", x, refl)) (λ x ok. refl))
    refl (λ x. (codes "bbmlog", decimal x.version ∷ header_fields x.pes x.world (end_fields x.version x.cnp x.words), refl))

pub header_of_ok : (line : List ℕ) (x : Heading) → header_of line ≡ Ok x → heading_ok x ≡ true
header_of_ok = header_lines.fits

pub header_one_line : (line : List ℕ) (x : Heading) → header_of line ≡ Ok x → line ≡ header_line x
header_one_line = header_lines.once

pub header_of_causes : (line : List ℕ) → IfErr (header_of line) IsHeaderCause
header_of_causes = header_lines.ends
