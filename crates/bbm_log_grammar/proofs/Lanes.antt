-- Some bytes at once: how many of them pass a test, and which number they write.
use Rattle.bbm_log_grammar.proofs.Common.{◌≡◌, ◌≢◌, ℕ, zero, suc, ◌+◌, ◌-◌, ◌*◌, ◌/◌, ◌%◌, ◌^◌, ◌<◌, ◌≤◌, Bool, true}
use Rattle.bbm_log_grammar.proofs.Common.{false, ◌==◌, cond, List, [], ◌∷◌, ◌++◌, length, take, drop, get_or, refl, sym}
use Rattle.bbm_log_grammar.proofs.Common.{ap, ◌∙◌, subst, arith, length-drop, length-take, take-append-drop, bit_and}
use Rattle.bbm_log_grammar.proofs.Common.{agree_below_at, and_parts, eqb-true, take_all, digit_value, digit_glyph}
use Rattle.bbm_log_grammar.proofs.Common.{list_all, digits_value, digits_value_after, is_lower_digit}
use Rattle.std.proofs.Common.{not, map, Fits, w8, ap₂, div-one, pow-suc, pow-add, div-le_self, take-take, ltb}
use Rattle.std.proofs.Common.{replicate, w64}
use Rattle.std.proofs.lemmas.Bool.{agree_below}
use Rattle.std.proofs.lemmas.Simd.{map-map, mask_l-mod, first_set_mask_l, pick_l_whole}
use Rattle.std.proofs.lemmas.List.{length-map}
use Rattle.std.proofs.Math.Nat.{div-div-eq-div-mul}
use Rattle.std.specs.Fmt.{digits}
use Rattle.std.proofs.lemmas.Nat.{and_mask}
use Rattle.std.specs.Int.{from_be_bytes}
use Rattle.std.specs.List.{prefix_len}
use lib.Lanes.{Each1, mask_l, pick_l, sel_l, top, zip2}
use Rattle.bbm_log_grammar.specs.Ahead.{first_set, lane_worth, worth_after}
use Rattle.bbm_log_grammar.proofs.Numerals.{is_base_16, all_lower, text_value, lower_below, lower_glyph}

-- two tests that agree on bytes stop at the same lane
same_run : (p q : ℕ → Bool) → agree_below p q 256 ≡ true → (v : List ℕ) → Each1 (Fits w8) v
    → prefix_len p v ≡ prefix_len q v
same_run p q agree [] fits = refl
same_run p q agree (x ∷ v) fits =
    ap₂ (λ t n. cond t (1 + n) 0) (agree_below_at p q 256 x agree fits.0.fits) (same_run p q agree v fits.1)

-- the lowest bit of the mask of a test that the lanes fail where they pass another
pub counted : (f : ℕ → ℕ) (q : ℕ → Bool) (v z : List ℕ) (r n : ℕ) → length v ≡ n → n ≤ 64 → Each1 (Fits w8) v
    → agree_below (λ x. not (top 7 (f x))) q 256 ≡ true → z ≡ map f v
    → r ≡ first_set (mask_l (map (top 7) z) % 2 ^ 64) n → r ≡ prefix_len q v
counted f q v z r n long few fits agree lanes found =
    let stops : ℕ → Bool = λ x. top 7 (f x) in
    let mask : mask_l (map (top 7) z) % 2 ^ 64 ≡ mask_l (map stops v) =
    ap (λ l. mask_l l % 2 ^ 64) (ap (map (top 7)) lanes ∙ map-map (top 7) f v)
    ∙ mask_l-mod (map stops v) 64 (omega (arith, length-map v stops, long)) in
    found
    ∙ ap (λ m. first_set m n) mask
    ∙ first_set_mask_l stops v n long few
    ∙ same_run (λ x. not (stops x)) q agree v fits

-- the bytes before the first that fails pass
run_passes : (q : ℕ → Bool) (v : List ℕ) → list_all q (take (prefix_len q v) v) ≡ true
run_passes q [] = refl
run_passes q (x ∷ v) = by (run_passes q v) (q x) refl
  where
    by : list_all q (take (prefix_len q v) v) ≡ true → (t : Bool) → q x ≡ t
        → list_all q (take (cond t (1 + prefix_len q v) 0) (x ∷ v)) ≡ true
    by rest true e = let next : 1 + prefix_len q v ≡ suc (prefix_len q v) = omega arith in rw (next, e, rest) refl
    by rest false e = refl

-- the same of the bytes that were loaded
pub run_ahead : (q : ℕ → Bool) (s : List ℕ) (n r : ℕ) → r ≤ n → r ≡ prefix_len q (take n s)
    → list_all q (take r s) ≡ true
run_ahead q s n r few is =
    ap (list_all q) (sym (take-take r n s few) ∙ ap (λ k. take k (take n s)) is) ∙ run_passes q (take n s)

-- what the lanes count for

lane_of_digit : (byte : ℕ) → is_lower_digit 16 byte ≡ true → lane_worth byte ≡ digit_value byte
lane_of_digit byte e =
    ap lane_worth (lower_glyph 16 is_base_16 byte e)
    ∙ eqb-true (lane_worth (digit_glyph false (digit_value byte))) (digit_value byte)
    (agree_below_at (λ d. lane_worth (digit_glyph false d) == d) (λ _. true) 16 (digit_value byte) refl (lower_below
    16 is_base_16 byte e))

worth_is : (n : ℕ) (ds : List ℕ) → list_all (is_lower_digit 16) ds ≡ true
    → worth_after n ds ≡ digits_value_after 16 n ds
worth_is n [] e = refl
worth_is n (d ∷ ds) e =
    let here = and_parts (is_lower_digit 16 d) (list_all (is_lower_digit 16) ds) e in
    ap (λ m. worth_after (n * 16 + m) ds) (lane_of_digit d here.0) ∙ worth_is (n * 16 + digit_value d) ds here.1

worth-append : (n : ℕ) (xs ys : List ℕ) → worth_after n (xs ++ ys) ≡ worth_after (worth_after n xs) ys
worth-append n [] ys = refl
worth-append n (x ∷ xs) ys = worth-append (n * 16 + lane_worth x) xs ys

lane_below : (byte : ℕ) → lane_worth byte < 16
lane_below byte = omega arith

-- the digits behind others are shifted out
shifted_out : (n : ℕ) (ys : List ℕ) → worth_after n ys / 16 ^ length ys ≡ n
shifted_out n [] = div-one n
shifted_out n (y ∷ ys) =
    let more : worth_after (n * 16 + lane_worth y) ys / (16 ^ length ys * 16) ≡ n =
    sym (div-div-eq-div-mul (worth_after (n * 16 + lane_worth y) ys) (16 ^ length ys) 16)
    ∙ ap (λ m. m / 16) (shifted_out (n * 16 + lane_worth y) ys)
    ∙ is_base_16.joined n (lane_worth y) (lane_below y) in
    ap (λ m. worth_after (n * 16 + lane_worth y) ys / m) (pow-suc 16 (length ys)) ∙ more

sixteens : (k : ℕ) → 16 ^ k ≡ 2 ^ (4 * k)
sixteens zero = refl
sixteens (suc k) =
    let next : 4 * suc k ≡ 4 * k + 4 = omega arith in
    pow-suc 16 k ∙ ap (λ m. m * 16) (sixteens k) ∙ sym (pow-add 2 (4 * k) 4) ∙ ap (λ m. 2 ^ m) (sym next)

lower_is : (ds : List ℕ) → list_all (is_lower_digit 16) ds ≡ true → all_lower 16 is_base_16 ds ≡ true
lower_is [] e = refl
lower_is (d ∷ ds) e =
    let here = and_parts (is_lower_digit 16 d) (list_all (is_lower_digit 16) ds) e in
    rw (here.0, lower_is ds here.1) refl

-- the first so many of 16 bytes, which are digits, write the number of all 16 without its last digits
pub value_ahead : (s : List ℕ) (count w : ℕ) → 16 ≤ length s → count ≤ 16
    → list_all (is_lower_digit 16) (take count s) ≡ true
    → w ≡ worth_after 0 (take 16 s) → w / 2 ^ (64 - 4 * count) ≡ digits_value 16 (take count s)
value_ahead s count w long few lower is =
    let rest : List ℕ = drop count (take 16 s) in
    let left : length rest ≡ 16 - count = omega (arith, length-drop count (take 16 s), length-take 16 s) in
    let power : 2 ^ (64 - 4 * count) ≡ 16 ^ length rest =
    let times : 64 - 4 * count ≡ 4 * length rest = omega (arith, left) in ap (λ m. 2 ^ m) times
    ∙ sym (sixteens (length rest)) in
    let cut : take 16 s ≡ take count s ++ rest =
    sym (take-append-drop count (take 16 s)) ∙ ap (λ l. l ++ rest) (take-take count 16 s few) in
    ap (λ m. w / m) power
    ∙ ap (λ m. m / 16 ^ length rest) (is ∙ ap (worth_after 0) cut ∙ worth-append 0 (take count s) rest)
    ∙ shifted_out (worth_after 0 (take count s)) rest
    ∙ worth_is 0 (take count s) lower

pub digits_ahead : (s : List ℕ) (count w : ℕ) → 16 ≤ length s → count ≢ 0 → count ≤ 16 → (get_or s 0 0 ≡ 48 → count ≡ 1)
    → list_all (is_lower_digit 16) (take count s) ≡ true → w ≡ worth_after 0 (take 16 s) → w < 2 ^ 64
    → s ≡ digits 16 false (w / 2 ^ (64 - 4 * count)) ++ take (length s - count) (drop count s)
digits_ahead [] count w long some few lead lower is bound = absurd (omega arith)
digits_ahead (x ∷ xs) zero w long some few lead lower is bound = absurd (some refl)
digits_ahead (x ∷ xs) (suc k) w long some few lead lower is bound =
    let value = value_ahead (x ∷ xs) (suc k) w long few lower is in
    let small : w / 2 ^ (64 - 4 * suc k) < 2 ^ 64 = omega (arith, div-le_self w (2 ^ (64 - 4 * suc k)), bound) in
    let alone : x ≡ 48 → take k xs ≡ [] = λ e. let none : k ≡ 0 = omega (arith, lead e) in ap (λ m. take m xs) none in
    let spelled : digits 16 false (digits_value 16 (x ∷ take k xs)) ≡ x ∷ take k xs =
    text_value 16 is_base_16 x (take k xs) alone (lower_is (x ∷ take k xs) lower) (subst (λ m. m < 2 ^ 64) value
    small) in
    let all : take (length (x ∷ xs) - suc k) (drop k xs) ≡ drop k xs = take_all (length (x ∷ xs) - suc k) (drop k xs)
    (omega (arith, length-drop k xs)) in
    sym (take-append-drop (suc k) (x ∷ xs))
    ∙ ap₂ (λ a b. a ++ b) (sym (ap (digits 16 false) value ∙ spelled)) (sym all)

-- what the lanes are made of

abbrev less : ℕ → ℕ → ℕ
less a b = (a + (256 - b)) % 256

abbrev smaller : List ℕ → List ℕ → List ℕ
smaller xs ys = sel_l (map (top 7) (zip2 (λ a b. cond (ltb a b) 255 0) xs ys)) xs ys

abbrev values : List ℕ → List ℕ
values v = smaller (zip2 less v (replicate 16 48)) (zip2 less v (replicate 16 87))

abbrev evens : List ℕ
evens = 0 ∷ 2 ∷ 4 ∷ 6 ∷ 8 ∷ 10 ∷ 12 ∷ 14 ∷ []

abbrev odds : List ℕ
odds = 1 ∷ 3 ∷ 5 ∷ 7 ∷ 9 ∷ 11 ∷ 13 ∷ 15 ∷ []

abbrev pairs : List ℕ → List ℕ
pairs v =
    let w = values v ++ values v in
    zip2 (λ a b. (a + b) % 256) (zip2 (λ a b. a * b % 256) (pick_l 0 w evens) (replicate 8 16)) (zip2 bit_and (pick_l
    0 w odds) (replicate 8 15))

-- a lane on its own

abbrev lane : ℕ → ℕ
lane byte = let x = (byte + 208) % 256 in let y = (byte + 169) % 256 in cond (top 7 (cond (ltb x y) 255 0)) x y

lane_is : (byte : ℕ) → lane_worth byte ≡ lane byte % 16
lane_is byte = by (ltb ((byte + 208) % 256) ((byte + 169) % 256))
  where
    by : (t : Bool)
        → cond t ((byte + 208) % 256) ((byte + 169) % 256) % 16 ≡ cond (top 7 (cond t 255 0)) ((byte + 208) % 256)
        ((byte + 169) % 256) % 16
    by true = refl
    by false = refl

joined_pair : (m n : ℕ) → (m * 16 % 256 + bit_and n 15) % 256 ≡ m % 16 * 16 + n % 16
joined_pair m n = let low : bit_and n 15 ≡ n % 16 = and_mask n 4 in rw low (omega arith)

pair : (a b : ℕ) → (lane a * 16 % 256 + bit_and (lane b) 15) % 256 ≡ lane_worth a * 16 + lane_worth b
pair a b = joined_pair (lane a) (lane b) ∙ ap₂ (λ m n. m * 16 + n) (sym (lane_is a)) (sym (lane_is b))

-- eight pairs of digits, as bytes from the highest on
horner : (l0 l1 l2 l3 l4 l5 l6 l7 l8 l9 l10 l11 l12 l13 l14 l15 : ℕ) (p0 p1 p2 p3 p4 p5 p6 p7 : ℕ)
    → p0 ≡ l0 * 16 + l1 → p1 ≡ l2 * 16 + l3 → p2 ≡ l4 * 16 + l5 → p3 ≡ l6 * 16 + l7 → p4 ≡ l8 * 16 + l9
    → p5 ≡ l10 * 16 + l11 → p6 ≡ l12 * 16 + l13 → p7 ≡ l14 * 16 + l15
    → from_be_bytes w64 (p0 ∷ p1 ∷ p2 ∷ p3 ∷ p4 ∷ p5 ∷ p6 ∷ p7 ∷ []) ≡ (((((((((((((((0 * 16 + l0) * 16 + l1) * 16 +
    l2) * 16 + l3) * 16 + l4) * 16 + l5) * 16 + l6) * 16 + l7) * 16 + l8) * 16 + l9) * 16 + l10) * 16 + l11) * 16
    + l12) * 16 + l13) * 16 + l14) * 16 + l15
horner l0 l1 l2 l3 l4 l5 l6 l7 l8 l9 l10 l11 l12 l13 l14 l15 p0 p1 p2 p3 p4 p5 p6 p7 e0 e1 e2 e3 e4 e5 e6 e7 =
    omega arith

pub number_is : (v : List ℕ) → length v ≡ 16 → from_be_bytes w64 (pairs v) ≡ worth_after 0 v
number_is v long =
    subst (λ x. from_be_bytes w64 (pairs x) ≡ worth_after 0 x) (pick_l_whole 0 v 16 long)
    (horner (lane_worth (get_or v 0 0)) (lane_worth (get_or v 1 0)) (lane_worth (get_or v 2 0)) (lane_worth (get_or v
    3 0)) (lane_worth (get_or v 4 0)) (lane_worth (get_or v 5 0)) (lane_worth (get_or v 6 0)) (lane_worth (get_or
    v 7 0)) (lane_worth (get_or v 8 0)) (lane_worth (get_or v 9 0)) (lane_worth (get_or v 10 0)) (lane_worth
    (get_or v 11 0)) (lane_worth (get_or v 12 0)) (lane_worth (get_or v 13 0)) (lane_worth (get_or v 14 0))
    (lane_worth (get_or v 15 0))
    _ _ _ _ _ _ _ _
    (pair (get_or v 0 0) (get_or v 1 0)) (pair (get_or v 2 0) (get_or v 3 0)) (pair (get_or v 4 0) (get_or v 5 0))
    (pair (get_or v 6 0) (get_or v 7 0)) (pair (get_or v 8 0) (get_or v 9 0)) (pair (get_or v 10 0) (get_or v 11
    0)) (pair (get_or v 12 0) (get_or v 13 0)) (pair (get_or v 14 0) (get_or v 15 0)))
