-- The parts of a line at the front of some bytes, put together.
use Rattle.bbm_log_grammar.proofs.Common.{◌≡◌, ◌≢◌, ℕ, zero, suc, ◌+◌, ◌-◌, ◌*◌, ◌/◌, ◌%◌, ◌<◌, ◌≤◌, Bool, true, false}
use Rattle.bbm_log_grammar.proofs.Common.{cond, List, [], ⊤, arith, take-append-drop, length-take, le-leb, take_all}
use Rattle.bbm_log_grammar.proofs.Common.{take_rest, digit_value, list_all, Inner, Dsb, All, Stores, Event, item_fits}
use Rattle.bbm_log_grammar.proofs.Common.{Heading, is_label, is_label_byte, event_fields, joined, dsb_word, op_word}
use Rattle.bbm_log_grammar.proofs.Common.{reg_word, Reg, TlbiOp, Vae2is, Vale2is, Vae1is, Vale1is, Ipas2e1is, Vmalle1is}
use Rattle.bbm_log_grammar.proofs.Common.{Alle2is, is_lower_digit}
use Rattle.std.proofs.Common.{Fits, w8, append_assoc, length-append}
use Rattle.std.proofs.Common.{
  ◌∷◌,
  ◌++◌,
  length,
  take,
  drop,
  get_or,
  Option,
  Ok,
  codes,
  decimal,
  refl,
  sym,
  ap,
  ◌∙◌,
}
use Rattle.std.proofs.Math.Seq.{take-append_seam, take-append-add}
use Rattle.std.specs.Cmp.Lexicographic.{pointwise, same_text}
use Rattle.std.specs.Prelude.{nat_eq}
use Rattle.std.specs.Fmt.{digits}
use Rattle.bbm_events.specs.declared.event.Event.TheVariants as event
use Rattle.bbm_events.specs.declared.event.Item.TheVariants as item
use Rattle.bbm_events.specs.Lines.{item_line, item_of}
use Rattle.bbm_events.specs.Spelling.{hex, is_plain}
use Rattle.bbm_tlbi_scope.specs.Operations.{has_operand}
use Rattle.bbm_log_grammar.specs.Ahead.{StandsFirst, label_part, four_bytes}
use Rattle.bbm_log_grammar.proofs.Numerals.{is_base_10, text_value, lower_below}
use Rattle.bbm_log_grammar.proofs.Parts.{labelled}

-- these codes stand in the text, from the position on
abbrev Has : List ℕ → ℕ → List ℕ → Type 0
Has text i [] = ⊤
Has text i (code ∷ more) = (get_or text i 0 ≡ code) × Has text (suc i) more

-- the same of the text behind its first byte
behind : (byte : ℕ) (bytes : List ℕ) (i : ℕ) (word : List ℕ) → Has (byte ∷ bytes) (suc i) word → Has bytes i word
behind byte bytes i [] has = tt
behind byte bytes i (code ∷ more) has = (has.0, behind byte bytes (suc i) more has.1)

-- the text is the word and what stands behind it
begins : (word text : List ℕ) → length word ≤ length text → Has text 0 word → text ≡ word ++ drop (length word) text
begins [] text some has = refl
begins (code ∷ more) [] some has = absurd (omega arith)
begins (code ∷ more) (byte ∷ bytes) some has =
    let is : byte ≡ code = has.0 in
    let rest : bytes ≡ more ++ drop (length more) bytes = begins more bytes (omega arith) (behind byte bytes 0 more has.1) in
    ap (λ (b : ℕ). b ∷ bytes) is ∙ ap (λ (l : List ℕ). code ∷ l) rest

-- the word that the text begins with, and the slice behind it
front_word : (word s : List ℕ) → length word ≤ length s → Has s 0 word
    → s ≡ word ++ take (length s - length word) (drop (length word) s)
front_word word s some has = begins word s some has ∙ ap (λ l. word ++ l) (sym (take_rest s (length word)))

-- a number of one digit
pub one_digit : (s : List ℕ) (n : ℕ) → 1 ≤ length s → is_lower_digit 10 (get_or s 0 0) ≡ true
    → n ≡ digit_value (get_or s 0 0) → s ≡ decimal n ++ take (length s - 1) (drop 1 s)
one_digit [] n some is e = absurd (omega arith)
one_digit (x ∷ xs) n some is e =
    let small : digit_value x < 10 = lower_below 10 is_base_10 x is in
    let value : n ≡ 0 * 10 + digit_value x = omega (arith, e) in
    let spelled : decimal (0 * 10 + digit_value x) ≡ x ∷ [] = text_value 10 is_base_10 x [] (λ _. refl) (rw is
    refl) (omega (arith, small)) in
    let all : take (length (x ∷ xs) - 1) xs ≡ xs = take_all (length (x ∷ xs) - 1) xs (omega arith) in
    rw (all, value, spelled) refl

-- a number of two digits
pub two_digits : (s : List ℕ) (tens ones : ℕ) → 2 ≤ length s → tens ≢ 0 → is_lower_digit 10 (get_or s 0 0) ≡ true
    → is_lower_digit 10 (get_or s 1 0) ≡ true → tens ≡ digit_value (get_or s 0 0) → ones ≡ digit_value (get_or s 1 0)
    → s ≡ decimal (tens * 10 + ones) ++ take (length s - 2) (drop 2 s)
two_digits [] tens ones some led first second e f = absurd (omega arith)
two_digits (x ∷ []) tens ones some led first second e f = absurd (omega arith)
two_digits (x ∷ y ∷ ys) tens ones some led first second e f =
    let ten : digit_value x < 10 = lower_below 10 is_base_10 x first in
    let one : digit_value y < 10 = lower_below 10 is_base_10 y second in
    let value : tens * 10 + ones ≡ (0 * 10 + digit_value x) * 10 + digit_value y = omega (arith, e, f) in
    let lead : x ≡ 48 → (y ∷ []) ≡ [] = λ is. absurd (led (e ∙ ap digit_value is)) in
    let spelled : decimal ((0 * 10 + digit_value x) * 10 + digit_value y) ≡ x ∷ y ∷ [] =
    text_value 10 is_base_10 x (y ∷ []) lead (rw (first, second) refl) (omega (arith, ten, one)) in
    let all : take (length (x ∷ y ∷ ys) - 2) ys ≡ ys = take_all (length (x ∷ y ∷ ys) - 2) ys (omega arith) in
    rw (all, value, spelled) refl

-- a number of three digits
pub three_digits : (s : List ℕ) (one two three : ℕ) → 3 ≤ length s → one ≢ 0 → is_lower_digit 10 (get_or s 0 0) ≡ true
    → is_lower_digit 10 (get_or s 1 0) ≡ true → is_lower_digit 10 (get_or s 2 0) ≡ true
    → one ≡ digit_value (get_or s 0 0) → two ≡ digit_value (get_or s 1 0) → three ≡ digit_value (get_or s 2 0)
    → s ≡ decimal ((one * 10 + two) * 10 + three) ++ take (length s - 3) (drop 3 s)
three_digits [] one two three some led is1 is2 is3 e f g = absurd (omega arith)
three_digits (x ∷ []) one two three some led is1 is2 is3 e f g = absurd (omega arith)
three_digits (x ∷ y ∷ []) one two three some led is1 is2 is3 e f g = absurd (omega arith)
three_digits (x ∷ y ∷ z ∷ zs) one two three some led is1 is2 is3 e f g =
    let a : digit_value x < 10 = lower_below 10 is_base_10 x is1 in
    let b : digit_value y < 10 = lower_below 10 is_base_10 y is2 in
    let c : digit_value z < 10 = lower_below 10 is_base_10 z is3 in
    let value : (one * 10 + two) * 10 + three ≡ ((0 * 10 + digit_value x) * 10 + digit_value y) * 10 + digit_value z =
    omega (arith, e, f, g) in
    let lead : x ≡ 48 → (y ∷ z ∷ []) ≡ [] = λ is. absurd (led (e ∙ ap digit_value is)) in
    let spelled : decimal (((0 * 10 + digit_value x) * 10 + digit_value y) * 10 + digit_value z) ≡ x ∷ y ∷ z ∷ [] =
    text_value 10 is_base_10 x (y ∷ z ∷ []) lead (rw (is1, is2, is3) refl) (omega (arith, a, b, c)) in
    let all : take (length (x ∷ y ∷ z ∷ zs) - 3) zs ≡ zs = take_all (length (x ∷ y ∷ z ∷ zs) - 3) zs (omega arith) in
    rw (all, value, spelled) refl

pub ruleset short_numbers = (one_digit, two_digits)

-- two fields, and three, and what stands behind them

two_fields : (one two s a b : List ℕ) → s ≡ one ++ a → a ≡ 32 ∷ (two ++ b) → s ≡ (one ++ 32 ∷ two) ++ b
two_fields one two s a b e f = e ∙ ap (λ l. one ++ l) f ∙ sym (append_assoc one (32 ∷ two) b)

three_fields : (one two three s a b c : List ℕ) → s ≡ one ++ a → a ≡ 32 ∷ (two ++ b) → b ≡ 32 ∷ (three ++ c)
    → s ≡ (one ++ 32 ∷ (two ++ 32 ∷ three)) ++ c
three_fields one two three s a b c e f g =
    two_fields one (two ++ 32 ∷ three) s a c e (f ∙ ap (λ l. 32 ∷ l) (two_fields two three (two ++ b) b c refl g))

-- an event and its label
line_is : (e : Event) (label : Option (List ℕ)) (rest : List ℕ)
    → joined (event_fields e) ++ (label_part label ++ rest) ≡ item_line (item.Event e label) ++ rest
unfolding item_line
line_is e label rest = sym (append_assoc (joined (event_fields e)) (label_part label) rest) ∙ ap (λ l. l ++ rest) (labelled e label)

pub stands_first : (heading : Heading) (e : Event) (label : Option (List ℕ)) (s a b : List ℕ) (count : ℕ)
    → s ≡ joined (event_fields e) ++ a → a ≡ label_part label ++ 10 ∷ b → count ≡ length s - length b - 1
    → item_of heading (item_line (item.Event e label)) ≡ Ok (item.Event e label)
    → item_fits heading (item.Event e label) ≡ true
    → is_plain (item_line (item.Event e label)) ≡ true → length (item_line (item.Event e label)) ≤ 200
    → StandsFirst heading (item.Event e label) count s
stands_first heading e label s a b count first second counted read fits clean few =
    let line : List ℕ = item_line (item.Event e label) in
    let whole : s ≡ line ++ 10 ∷ b = first ∙ ap (λ l. joined (event_fields e) ++ l) second ∙ line_is e label (10 ∷ b) in
    let long : length s ≡ length line + suc (length b) = ap length whole ∙ length-append line (10 ∷ b) in
    let same : count ≡ length line = omega (arith, counted, long) in
    let is : take count s ≡ line = ap (λ n. take n s) same ∙ ap (take (length line)) whole
    ∙ take-append_seam line (10 ∷ b) in
    let more : take (count + 1) s ≡ line ++ 10 ∷ [] =
    ap (λ n. take (n + 1) s) same ∙ ap (take (length line + 1)) whole ∙ take-append-add line (10 ∷ b) 1 in
    record {
      is = ap (item_of heading) is ∙ read;
      fits = fits;
      newline = more ∙ ap (λ l. l ++ 10 ∷ []) (sym is);
      no_newline = ap is_plain is ∙ clean;
      short = omega (arith, same, few);
      within = omega (arith, same, long);
    }

-- a label of so many bytes
pub label_is : (s : List ℕ) (count : ℕ) → count ≢ 0 → count ≤ 32 → count ≤ length s
    → list_all is_label_byte (take count s) ≡ true → is_label (take count s) ≡ true
label_is s zero some few within each = absurd (some refl)
label_is s (suc k) some few within each =
    let long : length (take (suc k) s) ≡ suc k = omega (arith, length-take (suc k) s) in
    rw (long, le-leb 1 (suc k) (omega arith), le-leb (suc k) 32 few, each) refl

-- a hex spelling behind a space, in the form of a slice of what follows
pub hex_begun : (s : List ℕ) (n : ℕ) (a : List ℕ) → 3 ≤ length s → get_or s 0 0 ≡ 32 → get_or s 1 0 ≡ 48
    → get_or s 2 0 ≡ 120
    → take (length s - 3) (drop 3 s) ≡ digits 16 false n ++ a → s ≡ 32 ∷ (hex n ++ a)
hex_begun s n a some h0 h1 h2 e =
    front_word (codes " 0x") s some (h0, (h1, (h2, tt))) ∙ ap (λ l. 32 ∷ 48 ∷ 120 ∷ l) e

-- the end of a line without a label, and with one, in that form

pub plain_end : (s : List ℕ) → 1 ≤ length s → get_or s 0 0 ≡ 10 → s ≡ 10 ∷ take (length s - 1) (drop 1 s)
plain_end s some h0 = begins (10 ∷ []) s some (h0, tt) ∙ ap (λ l. 10 ∷ l) (sym (take_rest s 1))

pub labelled_end : (s label a : List ℕ) → 2 ≤ length s → get_or s 0 0 ≡ 32 → get_or s 1 0 ≡ 64
    → take (length s - 2) (drop 2 s) ≡ label ++ 10 ∷ a → s ≡ 32 ∷ 64 ∷ (label ++ 10 ∷ a)
labelled_end s label a some h0 h1 e =
    front_word (codes " @") s some (h0, (h1, tt)) ∙ ap (λ l. 32 ∷ 64 ∷ l) e

-- a label of so many bytes up to a newline
pub label_end : (s : List ℕ) (count : ℕ) → count ≤ length s → 1 ≤ length (take (length s - count) (drop count s))
    → get_or (take (length s - count) (drop count s)) 0 0 ≡ 10
    → s ≡ take count s ++ 10 ∷ take (length (take (length s - count) (drop count s)) - 1) (drop 1 (take (length s -
    count) (drop count s)))
label_end s count within some h0 =
    sym (take-append-drop count s) ∙ ap (λ l. take count s ++ l) (sym (take_rest s count)
    ∙ plain_end (take (length s - count) (drop count s)) some h0)

-- the options of most barriers

pub option_ish : (s : List ℕ) → 4 ≤ length s → get_or s 0 0 ≡ 32 → get_or s 1 0 ≡ 105 → get_or s 2 0 ≡ 115
    → get_or s 3 0 ≡ 104
    → s ≡ 32 ∷ (dsb_word (record { domain = Inner; types = All }) ++ take (length s - 4) (drop 4 s))
option_ish s some h0 h1 h2 h3 =
    front_word (codes " ish") s some (h0, (h1, (h2, (h3, tt))))

pub option_ishst : (s : List ℕ) → 6 ≤ length s → get_or s 0 0 ≡ 32 → get_or s 1 0 ≡ 105 → get_or s 2 0 ≡ 115
    → get_or s 3 0 ≡ 104
    → get_or s 4 0 ≡ 115 → get_or s 5 0 ≡ 116
    → s ≡ 32 ∷ (dsb_word (record { domain = Inner; types = Stores }) ++ take (length s - 6) (drop 6 s))
option_ishst s some h0 h1 h2 h3 h4 h5 =
    front_word (codes " ishst") s some (h0, (h1, (h2, (h3, (h4, (h5, tt))))))

-- the operations of most TLBIs

pub op_vae2is : (s : List ℕ) → 7 ≤ length s → get_or s 0 0 ≡ 32 → get_or s 1 0 ≡ 118 → get_or s 2 0 ≡ 97
    → get_or s 3 0 ≡ 101 → get_or s 4 0 ≡ 50 → get_or s 5 0 ≡ 105 → get_or s 6 0 ≡ 115
    → s ≡ 32 ∷ (op_word Vae2is ++ take (length s - 7) (drop 7 s))
op_vae2is s some h0 h1 h2 h3 h4 h5 h6 =
    front_word (codes " vae2is") s some (h0, (h1, (h2, (h3, (h4, (h5, (h6, tt)))))))

pub op_vale2is : (s : List ℕ) → 8 ≤ length s → get_or s 0 0 ≡ 32 → get_or s 1 0 ≡ 118 → get_or s 2 0 ≡ 97
    → get_or s 3 0 ≡ 108 → get_or s 4 0 ≡ 101 → get_or s 5 0 ≡ 50 → get_or s 6 0 ≡ 105 → get_or s 7 0 ≡ 115
    → s ≡ 32 ∷ (op_word Vale2is ++ take (length s - 8) (drop 8 s))
op_vale2is s some h0 h1 h2 h3 h4 h5 h6 h7 =
    front_word (codes " vale2is") s some (h0, (h1, (h2, (h3, (h4, (h5, (h6, (h7, tt))))))))

pub op_vae1is : (s : List ℕ) → 7 ≤ length s → get_or s 0 0 ≡ 32 → get_or s 1 0 ≡ 118 → get_or s 2 0 ≡ 97
    → get_or s 3 0 ≡ 101 → get_or s 4 0 ≡ 49 → get_or s 5 0 ≡ 105 → get_or s 6 0 ≡ 115
    → s ≡ 32 ∷ (op_word Vae1is ++ take (length s - 7) (drop 7 s))
op_vae1is s some h0 h1 h2 h3 h4 h5 h6 =
    front_word (codes " vae1is") s some (h0, (h1, (h2, (h3, (h4, (h5, (h6, tt)))))))

pub op_vale1is : (s : List ℕ) → 8 ≤ length s → get_or s 0 0 ≡ 32 → get_or s 1 0 ≡ 118 → get_or s 2 0 ≡ 97
    → get_or s 3 0 ≡ 108 → get_or s 4 0 ≡ 101 → get_or s 5 0 ≡ 49 → get_or s 6 0 ≡ 105 → get_or s 7 0 ≡ 115
    → s ≡ 32 ∷ (op_word Vale1is ++ take (length s - 8) (drop 8 s))
op_vale1is s some h0 h1 h2 h3 h4 h5 h6 h7 =
    front_word (codes " vale1is") s some (h0, (h1, (h2, (h3, (h4, (h5, (h6, (h7, tt))))))))

pub op_ipas2e1is : (s : List ℕ) → 10 ≤ length s → get_or s 0 0 ≡ 32 → get_or s 1 0 ≡ 105 → get_or s 2 0 ≡ 112
    → get_or s 3 0 ≡ 97 → get_or s 4 0 ≡ 115 → get_or s 5 0 ≡ 50 → get_or s 6 0 ≡ 101 → get_or s 7 0 ≡ 49
    → get_or s 8 0 ≡ 105 → get_or s 9 0 ≡ 115
    → s ≡ 32 ∷ (op_word Ipas2e1is ++ take (length s - 10) (drop 10 s))
op_ipas2e1is s some h0 h1 h2 h3 h4 h5 h6 h7 h8 h9 =
    front_word (codes " ipas2e1is") s some (h0, (h1, (h2, (h3, (h4, (h5, (h6, (h7, (h8, (h9, tt))))))))))

pub ruleset operations = (op_vae2is, op_vale2is, op_vae1is, op_vale1is, op_ipas2e1is)

-- further operations

pub op_vmalle1is : (s : List ℕ) → 10 ≤ length s → get_or s 0 0 ≡ 32 → get_or s 1 0 ≡ 118 → get_or s 2 0 ≡ 109
    → get_or s 3 0 ≡ 97 → get_or s 4 0 ≡ 108 → get_or s 5 0 ≡ 108 → get_or s 6 0 ≡ 101 → get_or s 7 0 ≡ 49
    → get_or s 8 0 ≡ 105 → get_or s 9 0 ≡ 115
    → s ≡ 32 ∷ (op_word Vmalle1is ++ take (length s - 10) (drop 10 s))
op_vmalle1is s some h0 h1 h2 h3 h4 h5 h6 h7 h8 h9 =
    front_word (codes " vmalle1is") s some (h0, (h1, (h2, (h3, (h4, (h5, (h6, (h7, (h8, (h9, tt))))))))))

pub op_alle2is : (s : List ℕ) → 8 ≤ length s → get_or s 0 0 ≡ 32 → get_or s 1 0 ≡ 97 → get_or s 2 0 ≡ 108
    → get_or s 3 0 ≡ 108 → get_or s 4 0 ≡ 101 → get_or s 5 0 ≡ 50 → get_or s 6 0 ≡ 105 → get_or s 7 0 ≡ 115
    → s ≡ 32 ∷ (op_word Alle2is ++ take (length s - 8) (drop 8 s))
op_alle2is s some h0 h1 h2 h3 h4 h5 h6 h7 =
    front_word (codes " alle2is") s some (h0, (h1, (h2, (h3, (h4, (h5, (h6, (h7, tt))))))))

pub ruleset operations_alone = (op_vmalle1is, op_alle2is)

-- what stands behind a space, in the form of a slice
pub spaced : (s front a : List ℕ) → 1 ≤ length s → get_or s 0 0 ≡ 32
    → take (length s - 1) (drop 1 s) ≡ front ++ a → s ≡ 32 ∷ (front ++ a)
spaced s front a some h0 e = begins (32 ∷ []) s some (h0, tt) ∙ ap (λ l. 32 ∷ l) (sym (take_rest s 1) ∙ e)

-- a word at the front, and what stands behind it
pub word_taken : (s word named rest : List ℕ) → pointwise nat_eq (take (length word) s) word ≡ true
    → rest ≡ drop (length word) s → word ≡ named → s ≡ named ++ rest
word_taken s word named rest same behind is =
    sym (take-append-drop (length word) s) ∙ ap (λ l. l ++ drop (length word) s) (same_text _ _ (sym same) ∙ is)
    ∙ ap (λ l. named ++ l) (sym behind)

-- four bytes, by the number that they make, and a space behind them, in the form of a slice of what follows

pub four_begun : (s : List ℕ) (first second word : ℕ) → 4 ≤ length s → ((i : ℕ) → Fits w8 (get_or s i 0))
    → first ≡ get_or s 0 0 + get_or s 1 0 * 256 → second ≡ get_or s 2 0 + get_or s 3 0 * 256
    → first + second * 65536 ≡ word → s ≡ four_bytes word ++ take (length s - 4) (drop 4 s)
four_begun s first second word some fits low high is =
    let b0 : get_or s 0 0 < 256 = (fits 0).fits in
    let b1 : get_or s 1 0 < 256 = (fits 1).fits in
    let b2 : get_or s 2 0 < 256 = (fits 2).fits in
    let b3 : get_or s 3 0 < 256 = (fits 3).fits in
    let h0 : get_or s 0 0 ≡ word % 256 = omega (arith, low, high, is, b0, b1, b2, b3) in
    let h1 : get_or s 1 0 ≡ word / 256 % 256 = omega (arith, low, high, is, b0, b1, b2, b3) in
    let h2 : get_or s 2 0 ≡ word / 65536 % 256 = omega (arith, low, high, is, b0, b1, b2, b3) in
    let h3 : get_or s 3 0 ≡ word / 16777216 % 256 = omega (arith, low, high, is, b0, b1, b2, b3) in
    front_word (four_bytes word) s some (h0, (h1, (h2, (h3, tt))))

pub five_begun : (word : ℕ) (s rest : List ℕ) → s ≡ four_bytes word ++ rest → 1 ≤ length rest → get_or rest 0 0 ≡ 32
    → s ≡ four_bytes word ++ 32 ∷ take (length rest - 1) (drop 1 rest)
five_begun word s rest e some h0 = e ∙ ap (λ l. four_bytes word ++ l)
    (begins (32 ∷ []) rest some (h0, tt) ∙ ap (λ l. 32 ∷ l) (sym (take_rest rest 1)))

pub word_unlock : (s : List ℕ) → 7 ≤ length s → get_or s 0 0 ≡ 117 → get_or s 1 0 ≡ 110 → get_or s 2 0 ≡ 108
    → get_or s 3 0 ≡ 111 → get_or s 4 0 ≡ 99 → get_or s 5 0 ≡ 107 → get_or s 6 0 ≡ 32
    → s ≡ codes "unlock" ++ 32 ∷ take (length s - 7) (drop 7 s)
word_unlock s some h0 h1 h2 h3 h4 h5 h6 =
    front_word (codes "unlock ") s some (h0, (h1, (h2, (h3, (h4, (h5, (h6, tt)))))))

-- the events, of their fields

pub write_line : (pe place value : ℕ) (s a b c : List ℕ) → 2 ≤ length s → get_or s 0 0 ≡ 119 → get_or s 1 0 ≡ 32
    → take (length s - 2) (drop 2 s) ≡ decimal pe ++ a → a ≡ 32 ∷ (hex place ++ b) → b ≡ 32 ∷ (hex value ++ c)
    → s ≡ joined (event_fields (event.Write pe place value)) ++ c
write_line pe place value s a b c some h0 h1 first second third =
    front_word (codes "w ") s some (h0, (h1, tt)) ∙ ap (λ l. 119 ∷ 32 ∷ l)
    (three_fields (decimal pe) (hex place) (hex value) (take (length s - 2) (drop 2 s)) a b c first second third)

pub isb_line : (pe : ℕ) (s l a : List ℕ) → s ≡ codes "isb " ++ l → l ≡ decimal pe ++ a
    → s ≡ joined (event_fields (event.Isb pe)) ++ a
isb_line pe s l a word first = word ∙ ap (λ l. codes "isb " ++ l) first

pub dsb_line : (pe : ℕ) (dsb : Dsb) (s l a b : List ℕ) → s ≡ codes "dsb " ++ l → l ≡ decimal pe ++ a
    → a ≡ 32 ∷ (dsb_word dsb ++ b) → s ≡ joined (event_fields (event.Dsb pe dsb)) ++ b
dsb_line pe dsb s l a b word first second =
    word ∙ ap (λ l. codes "dsb " ++ l) (two_fields (decimal pe) (dsb_word dsb) l a b first second)

pub dmb_line : (pe : ℕ) (dsb : Dsb) (s l a b : List ℕ) → s ≡ codes "dmb " ++ l → l ≡ decimal pe ++ a
    → a ≡ 32 ∷ (dsb_word dsb ++ b) → s ≡ joined (event_fields (event.Dmb pe dsb)) ++ b
dmb_line pe dsb s l a b word first second =
    word ∙ ap (λ l. codes "dmb " ++ l) (two_fields (decimal pe) (dsb_word dsb) l a b first second)

pub tlbi_line : (pe : ℕ) (op : TlbiOp) (xt : ℕ) (s l a b d : List ℕ) → s ≡ codes "tlbi " ++ l → l ≡ decimal pe ++ a
    → a ≡ 32 ∷ (op_word op ++ b) → has_operand op ≡ true → b ≡ 32 ∷ (hex xt ++ d)
    → s ≡ joined (event_fields (event.Tlbi pe op xt)) ++ d
tlbi_line pe op xt s l a b d word first second has third =
    word ∙ ap (λ l. codes "tlbi " ++ l) (three_fields (decimal pe) (op_word op) (hex xt) l a b d first second third)
    ∙ ap (λ (t : Bool). joined (codes "tlbi" ∷ decimal pe ∷ op_word op ∷ cond t (hex xt ∷ []) []) ++ d) (sym has)

pub tlbi_alone_line : (pe : ℕ) (op : TlbiOp) (xt : ℕ) (s l a b : List ℕ) → s ≡ codes "tlbi " ++ l → l ≡ decimal pe ++ a
    → a ≡ 32 ∷ (op_word op ++ b) → has_operand op ≡ false → s ≡ joined (event_fields (event.Tlbi pe op xt)) ++ b
tlbi_alone_line pe op xt s l a b word first second has =
    word ∙ ap (λ l. codes "tlbi " ++ l) (two_fields (decimal pe) (op_word op) l a b first second)
    ∙ ap (λ (t : Bool). joined (codes "tlbi" ∷ decimal pe ∷ op_word op ∷ cond t (hex xt ∷ []) []) ++ b) (sym has)

pub msr_line : (pe : ℕ) (reg : Reg) (value : ℕ) (s l a b c : List ℕ) → s ≡ codes "msr " ++ l → l ≡ decimal pe ++ a
    → a ≡ 32 ∷ (reg_word reg ++ b) → b ≡ 32 ∷ (hex value ++ c) → s ≡ joined (event_fields (event.Msr pe reg value)) ++ c
msr_line pe reg value s l a b c word first second third =
    word ∙ ap (λ l. codes "msr " ++ l) (three_fields (decimal pe) (reg_word reg) (hex value) l a b c first second third)

pub lock_line : (pe lock : ℕ) (s l a b : List ℕ) → s ≡ codes "lock " ++ l → l ≡ decimal pe ++ a
    → a ≡ 32 ∷ (decimal lock ++ b) → s ≡ joined (event_fields (event.Lock pe lock)) ++ b
lock_line pe lock s l a b word first second =
    word ∙ ap (λ l. codes "lock " ++ l) (two_fields (decimal pe) (decimal lock) l a b first second)

pub unlock_line : (pe lock : ℕ) (s l a b : List ℕ) → s ≡ codes "unlock " ++ l → l ≡ decimal pe ++ a
    → a ≡ 32 ∷ (decimal lock ++ b) → s ≡ joined (event_fields (event.Unlock pe lock)) ++ b
unlock_line pe lock s l a b word first second =
    word ∙ ap (λ l. codes "unlock " ++ l) (two_fields (decimal pe) (decimal lock) l a b first second)

pub init_line : (pe page : ℕ) (s l a b : List ℕ) → s ≡ codes "init " ++ l → l ≡ decimal pe ++ a
    → a ≡ 32 ∷ (hex page ++ b) → s ≡ joined (event_fields (event.Init pe page)) ++ b
init_line pe page s l a b word first second =
    word ∙ ap (λ l. codes "init " ++ l) (two_fields (decimal pe) (hex page) l a b first second)

pub ruleset lines_by_word = (msr_line, lock_line, unlock_line, dmb_line, dsb_line, init_line)
