-- Numbers, spans and regions: where the part of a region begins that holds an address.
use Rattle.std.proofs.Common.{◌≡◌, ℕ, zero, suc, ◌+◌, ◌-◌, ◌*◌, ◌/◌, ◌%◌, ◌<◌, ◌≤◌, Bool, true, false, ◌==◌}
use Rattle.std.proofs.Common.{if◌then◌else◌, mul_assoc, suc-mul, add-mul, mul-le-mul_right, div-add-mod', mod-lt}
use Rattle.std.proofs.Common.{pow_pos, refl, ap, sym, ◌∙◌, subst, arith}
use Rattle.std.proofs.Math.Nat.{mul-mod_left}
use Rattle.std.proofs.lemmas.Nat.{div-mul-add, mod-mul-add, div_below}
use Rattle.bbm_regimes.specs.Extent.{span_of}
use Rattle.bbm_descriptor.specs.Fields.{type_bits, next_of}
use Rattle.bbm_descriptor.specs.Descriptor.{invalid, table, leaf, form_of}
use Rattle.bbm_descriptor.proofs.Shifts.{address-aligned}

pub span_pos : (level : ℕ) → 0 < span_of level
span_pos level = pow_pos (12 + 9 * (3 - level))

-- above level 3 a span is 512 spans of the next level
pub span_step : (level : ℕ) → level ≤ 2 → span_of level ≡ 512 * span_of (suc level)
span_step zero h = refl
span_step (suc zero) h = refl
span_step (suc (suc zero)) h = refl
span_step (suc (suc (suc level))) h = absurd (omega arith)

no_table_3 : (a b : Bool) → (if a then leaf else (if b then invalid else invalid)) ≡ table → ⊥
no_table_3 true b h = cc
no_table_3 false true h = cc
no_table_3 false false h = cc

-- tables stand above level 3
pub table_level : (level value : ℕ) → form_of level value ≡ table → level ≤ 2
table_level zero value h = omega arith
table_level (suc zero) value h = omega arith
table_level (suc (suc zero)) value h = omega arith
table_level (suc (suc (suc level))) value h = absurd (no_table_3 (type_bits value == 3) (type_bits value == 1) h)

-- the next page of a table is aligned
pub next_aligned : (value : ℕ) → next_of value % 4096 ≡ 0
next_aligned value = address-aligned value 12

-- the number of the part that holds an address
quotient : (addr b x s : ℕ) → b + x * s ≤ addr → addr < b + x * s + s → (addr - b) / s ≡ x
quotient addr b x s low high =
    let parts : addr - b ≡ x * s + (addr - b - x * s) = omega arith in
    rw parts (div-mul-add x s (addr - b - x * s) (omega arith))

-- the place of a page, or of joined pages, whose region holds an address
pub place_told : (page place b s addr : ℕ) → page ≤ place → page % 8 ≡ 0 → place % 8 ≡ 0 → b + (place - page) / 8 * s ≤ addr → addr < b + (place - page) / 8 * s + s → place ≡ page + 8 * ((addr - b) / s)
place_told page place b s addr above page_8 place_8 low high =
    rw (quotient addr b ((place - page) / 8) s low high) (omega arith)

pub number_back : (page x : ℕ) → (page + 8 * x - page) / 8 ≡ x
number_back page x = omega arith

-- so many parts fit
part_fits : (x n s : ℕ) → x < n → x * s + s ≤ n * s
part_fits x n s h =
    let e : suc x * s ≡ x * s + s = suc-mul x s in
    subst (λ m. m ≤ n * s) e (mul-le-mul_right s h)

pub region_fits : (page place pages s : ℕ) → page ≤ place → place < page + 4096 * pages → (place - page) / 8 * s + s ≤ pages * (512 * s)
region_fits page place pages s from to =
    let same : pages * 512 * s ≡ pages * (512 * s) = mul_assoc pages 512 s in
    subst (λ m. (place - page) / 8 * s + s ≤ m) same (part_fits ((place - page) / 8) (pages * 512) s (omega arith))

-- a part of an aligned region is aligned
pub part_aligned : (b x s : ℕ) → b % s ≡ 0 → (b + x * s) % s ≡ 0
part_aligned b x s h =
    let whole : b / s * s ≡ b = omega (arith, div-add-mod' b s) in
    let sum : b + x * s ≡ (b / s + x) * s = sym (add-mul (b / s) x s ∙ ap (λ n. n + x * s) whole) in
    rw sum (mul-mod_left (b / s + x) s)

pub smaller_aligned : (b s t : ℕ) → s ≡ 512 * t → b % s ≡ 0 → b % t ≡ 0
smaller_aligned b s t e h =
    let whole : b / s * s ≡ b = omega (arith, div-add-mod' b s) in
    let split : b ≡ b / s * 512 * t = sym whole ∙ ap (λ n. b / s * n) e ∙ sym (mul_assoc (b / s) 512 t) in
    subst (λ n. n % t ≡ 0) (sym split) (mul-mod_left (b / s * 512) t)

-- the offset of an address in an aligned region
pub offset : (b s addr : ℕ) → b % s ≡ 0 → b ≤ addr → addr < b + s → addr % s ≡ addr - b
offset b s addr h low high =
    let whole : b / s * s ≡ b = omega (arith, div-add-mod' b s) in
    let split : addr ≡ b / s * s + (addr - b) = omega arith in
    subst (λ n. n % s ≡ addr - b) (sym split) (mod-mul-add (b / s) s (addr - b) (omega arith))

low_bits : (k x : ℕ) → x < 512 → (k * 512 + x) % 512 ≡ x
low_bits k x h = mod-mul-add k 512 x h

-- nine bits of an address are the number of the part of an aligned region that holds it
pub nine_bits : (b s t addr : ℕ) → 0 < t → s ≡ 512 * t → b % s ≡ 0 → b ≤ addr → addr < b + s → addr / t % 512 ≡ (addr - b) / t
nine_bits b s t addr pos e h low high =
    let whole : b / s * s ≡ b = omega (arith, div-add-mod' b s) in
    let split : b / s * 512 * t ≡ b = mul_assoc (b / s) 512 t ∙ ap (λ n. b / s * n) (sym e) ∙ whole in
    let d = addr - b in
    let d_split : d / t * t + d % t ≡ d = div-add-mod' d t in
    let sum : (b / s * 512 + d / t) * t ≡ b / s * 512 * t + d / t * t = add-mul (b / s * 512) (d / t) t in
    let all : addr ≡ (b / s * 512 + d / t) * t + d % t = omega arith in
    let number : addr / t ≡ b / s * 512 + d / t = subst (λ n. n / t ≡ b / s * 512 + d / t) (sym all) (div-mul-add (b / s * 512 + d / t) t (d % t) (mod-lt d pos)) in
    rw number (low_bits (b / s) (d / t) (div_below d t 512 pos (omega arith)))

-- the address lies in the part that it tells
pub in_part : (b s addr : ℕ) → 0 < s → b ≤ addr → (b + (addr - b) / s * s ≤ addr) × (addr < b + (addr - b) / s * s + s)
in_part b s addr pos low =
    let whole : (addr - b) / s * s + (addr - b) % s ≡ addr - b = div-add-mod' (addr - b) s in
    let rest : (addr - b) % s < s = mod-lt (addr - b) pos in
    (omega arith, omega arith)

-- the part has a number below the number of parts
pub part_number : (b s n addr : ℕ) → 0 < s → b ≤ addr → addr < b + n * s → (addr - b) / s < n
part_number b s n addr pos low high = div_below (addr - b) s n pos (omega arith)
