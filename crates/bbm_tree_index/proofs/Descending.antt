-- Going down a tree along an input page.
use Rattle.bbm_rules.proofs.Common.{◌≡◌, ℕ, zero, suc, ◌+◌, ◌-◌, ◌*◌, ◌/◌, ◌%◌, ◌<◌, ◌≤◌, sym, ap, ◌∙◌, arith}
use Rattle.bbm_rules.proofs.Common.{input_pages}
use Rattle.std.proofs.lemmas.Nat.{div-add-mod', div-mul-add}

-- which part of its page a place that translates an input page is
pub part_is : (base at index width : ℕ) → base + index * width ≤ at → at < base + index * width + width
    → (base ≤ at) × ((at - base) / width ≡ index)
part_is base at index width from to =
    let part : index * width + (at - (base + index * width)) ≡ at - base = omega arith in
    let small : at - (base + index * width) < width = omega arith in
    (omega arith, ap (λ x. x / width) (sym part) ∙ div-mul-add index width (at - (base + index * width)) small)

-- a level below 4 has a width
pub some_width : (level : ℕ) → level < 4 → 0 < input_pages level
some_width zero low = omega arith
some_width (suc zero) low = omega arith
some_width (suc (suc zero)) low = omega arith
some_width (suc (suc (suc zero))) low = omega arith
some_width (suc (suc (suc (suc level)))) low = absurd (omega arith)

-- and the place of that part translates it
pub part_reaches : (base at index width : ℕ) → 0 < width → base ≤ at → (at - base) / width ≡ index
    → (base + index * width ≤ at) × (at < base + index * width + width)
part_reaches base at index width some from is =
    let e : index * width + (at - base) % width ≡ at - base
    = ap (λ i. i * width + (at - base) % width) (sym is) ∙ div-add-mod' (at - base) width in
    let small : (at - base) % width < width = omega arith in
    (omega arith, omega arith)
