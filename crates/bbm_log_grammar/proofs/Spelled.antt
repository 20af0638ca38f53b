-- The digits of a number, two, four and eight at a time.
use Rattle.bbm_log_grammar.proofs.Common.{◌≡◌, ℕ, ◌+◌, ◌*◌, ◌/◌, ◌%◌, ◌^◌, ◌<◌, ◌≤◌, Bool, ◌==◌, slice_index_or, List}
use Rattle.bbm_log_grammar.proofs.Common.{[], ◌∷◌, ◌++◌, true, false, refl, rules, tests, ap, sym, ◌∙◌, arith}
use Rattle.bbm_log_grammar.proofs.Common.{digit_glyph, eqb-true, agree_below_at, append_assoc}
use Rattle.std.proofs.Common.{decimal}
use Rattle.std.specs.Fmt.{digits}
use Rattle.bbm_log_grammar.specs.Digits.{two, four}
use Rattle.bbm_log_grammar.specs.declared.spell.TheConstants.{PAIRS}
use Rattle.bbm_log_grammar.proofs.Numerals.{is_base_10, is_base_16, text_small, text_more}

hex_small : (n : ℕ) → n < 16 → digits 16 false n ≡ digit_glyph false n ∷ []
hex_small n h = text_small 16 is_base_16 n h

hex_more : (n : ℕ) → 16 ≤ n → n < 2 ^ 64 → digits 16 false n ≡ digits 16 false (n / 16) ++ (digit_glyph false (n % 16) ∷ [])
hex_more n h bound = text_more 16 is_base_16 n h bound

-- numbers of one, two, three and four digits
hex_two : (n : ℕ) → 16 ≤ n → n < 256 → digits 16 false n ≡ two n
hex_two n lo hi = rw (hex_more n lo (omega arith), hex_small (n / 16) (omega arith)) refl

-- where the last digits stand behind the others, and those before them behind what is left, twice as many stand so
twice : (base more : ℕ) (low : ℕ → List ℕ) (n : ℕ) → digits 16 false n ≡ digits 16 false (n / base) ++ low (n % base)
    → digits 16 false (n / base) ≡ digits 16 false (n / base / base) ++ low (n / base % base)
    → n / base / base ≡ n / more → n / base % base ≡ n % more / base → n % base ≡ n % more % base
    → digits 16 false n ≡ digits 16 false (n / more) ++ (low (n % more / base) ++ low (n % more % base))
twice base more low n last before a b c =
    last
    ∙ ap (λ (l : List ℕ). l ++ low (n % base)) before
    ∙ append_assoc (digits 16 false (n / base / base)) (low (n / base % base)) (low (n % base))
    ∙ ap (λ (k : ℕ). digits 16 false k ++ (low (n / base % base) ++ low (n % base))) a
    ∙ ap (λ (k : ℕ). digits 16 false (n / more) ++ (low k ++ low (n % base))) b
    ∙ ap (λ (k : ℕ). digits 16 false (n / more) ++ (low (n % more / base) ++ low k)) c

two_more : (n : ℕ) → 256 ≤ n → n < 2 ^ 64 → digits 16 false n ≡ digits 16 false (n / 256) ++ two (n % 256)
two_more n lo hi =
    twice 16 256 (λ k. digit_glyph false k ∷ []) n (hex_more n (omega arith) hi) (hex_more (n / 16) (omega arith) (omega arith))
    (omega arith) (omega arith) (omega arith)

all_four : (n : ℕ) → 65536 ≤ n → n < 2 ^ 64 → digits 16 false n ≡ digits 16 false (n / 65536) ++ four (n % 65536)
all_four n lo hi =
    twice 256 65536 two n (two_more n (omega arith) hi) (two_more (n / 256) (omega arith) (omega arith))
    (omega arith) (omega arith) (omega arith)

abbrev first_right : ℕ → Bool
first_right value = slice_index_or PAIRS (value * 2) 0 == digit_glyph false (value / 16)

abbrev second_right : ℕ → Bool
second_right value = slice_index_or PAIRS (value * 2 + 1) 0 == digit_glyph false (value % 16)

-- the table has the two digits of each value
pub pair_at : (value : ℕ) → value < 256
    → (slice_index_or PAIRS (value * 2) 0 ≡ digit_glyph false (value / 16)) × (slice_index_or PAIRS (value * 2 + 1) 0 ≡ digit_glyph false (value % 16))
pair_at value l = (
  eqb-true (slice_index_or PAIRS (value * 2) 0) (digit_glyph false (value / 16)) (agree_below_at first_right (λ _. true) 256 value refl l),
  eqb-true (slice_index_or PAIRS (value * 2 + 1) 0) (digit_glyph false (value % 16)) (agree_below_at second_right (λ _. true) 256 value refl l),
)

-- the same behind what stands there
pub first_one : (before : List ℕ) (n : ℕ) → n < 16 → before ++ digit_glyph false n ∷ [] ≡ before ++ digits 16 false n
first_one before n h = ap (λ (l : List ℕ). before ++ l) (sym (hex_small n h))

pub first_two : (before : List ℕ) (n : ℕ) → 16 ≤ n → n < 256 → before ++ two n ≡ before ++ digits 16 false n
first_two before n lo hi = ap (λ (l : List ℕ). before ++ l) (sym (hex_two n lo hi))

pub first_three : (before : List ℕ) (n : ℕ) → 256 ≤ n → n < 4096 → (before ++ digit_glyph false (n / 256) ∷ []) ++ two (n % 256) ≡ before ++ digits 16 false n
first_three before n lo hi =
    append_assoc before (digit_glyph false (n / 256) ∷ []) (two (n % 256))
    ∙ ap (λ (l : List ℕ). before ++ (l ++ two (n % 256))) (sym (hex_small (n / 256) (omega arith)))
    ∙ ap (λ (l : List ℕ). before ++ l) (sym (two_more n lo (omega arith)))

pub first_four : (before : List ℕ) (n : ℕ) → 4096 ≤ n → n < 65536 → before ++ four n ≡ before ++ digits 16 false n
first_four before n lo hi =
    ap (λ (l : List ℕ). before ++ (l ++ two (n % 256))) (sym (hex_two (n / 256) (omega arith) (omega arith)))
    ∙ ap (λ (l : List ℕ). before ++ l) (sym (two_more n (omega arith) (omega arith)))

pub ruleset first_digits = (first_one, first_two, first_three, first_four)

pub four_more : (before : List ℕ) (n : ℕ) → 65536 ≤ n → n < 2 ^ 64 → (before ++ digits 16 false (n / 65536)) ++ four (n % 65536) ≡ before ++ digits 16 false n
four_more before n lo hi =
    append_assoc before (digits 16 false (n / 65536)) (four (n % 65536))
    ∙ ap (λ (l : List ℕ). before ++ l) (sym (all_four n lo hi))

pub eight_more : (before : List ℕ) (n : ℕ) → 0x100000000 ≤ n → n < 2 ^ 64
    → ((before ++ digits 16 false (n / 0x100000000)) ++ four (n / 65536 % 65536)) ++ four (n % 65536) ≡ before ++ digits 16 false n
eight_more before n lo hi =
    let a : n / 0x100000000 ≡ n / 65536 / 65536 = omega arith in
    ap (λ (k : ℕ). ((before ++ digits 16 false k) ++ four (n / 65536 % 65536)) ++ four (n % 65536)) a
    ∙ ap (λ (l : List ℕ). l ++ four (n % 65536)) (four_more before (n / 65536) (omega arith) (omega arith))
    ∙ four_more before n (omega arith) hi

-- a number of one digit
pub decimal_single : (before : List ℕ) (n digit : ℕ) → n < 10 → digit ≡ 48 + n → before ++ digit ∷ [] ≡ before ++ decimal n
decimal_single before n digit h e = ap (λ (x : List ℕ). before ++ x) (ap (λ (x : ℕ). x ∷ []) (e ∙ low) ∙ sym (text_small 10 is_base_10 n h))
  where
    low : 48 + n ≡ digit_glyph false n
    low = search (rules, tests)
