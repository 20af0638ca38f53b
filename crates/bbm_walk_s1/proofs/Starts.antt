-- Where a walk begins: the input range of a root, and the place that its first nine bits select.
use Rattle.std.proofs.Common.{◌≡◌, ℕ, zero, suc, ◌+◌, ◌-◌, ◌*◌, ◌/◌, ◌%◌, ◌^◌, ◌<◌, ◌≤◌, Bool, true, false, [], refl}
use Rattle.std.proofs.Common.{ap, sym, ◌∙◌, subst, arith}
use Rattle.bbm_regimes.specs.Extent.{span_of}
use Rattle.bbm_descriptor.specs.Listing.{RegionHolds, IsAligned, ComesTo}
use Rattle.bbm_walk_s1.specs.InputRanges.{first_address, stage1_root}

-- the first address is a multiple of what a place translates
pub first_aligned : (start : ℕ) (high : Bool) → start ≤ 2 → first_address start high % span_of start ≡ 0
first_aligned start false h = omega arith
first_aligned zero true h = refl
first_aligned (suc zero) true h = refl
first_aligned (suc (suc zero)) true h = refl
first_aligned (suc (suc (suc start))) true h = absurd (omega arith)

pub root_aligned : (start : ℕ) (high : Bool) (page : ℕ) → start ≤ 2 → page % 4096 ≡ 0 → IsAligned (stage1_root start high page)
root_aligned start high page h aligned = record { page = aligned; first = first_aligned start high h }

-- nine bits of an address in the range are the number of the place that it selects
nine_bits_low : (start va : ℕ) → start ≤ 2 → va < 512 * span_of start → va / span_of start % 512 ≡ (va - 0) / span_of start
nine_bits_low zero va h inside = omega arith
nine_bits_low (suc zero) va h inside = omega arith
nine_bits_low (suc (suc zero)) va h inside = omega arith
nine_bits_low (suc (suc (suc start))) va h inside = absurd (omega arith)

nine_bits_high : (start va : ℕ) → start ≤ 2 → va < 2 ^ 64 → 2 ^ 64 - 512 * span_of start ≤ va → va / span_of start % 512 ≡ (va - (2 ^ 64 - 512 * span_of start)) / span_of start
nine_bits_high zero va h fits inside = omega arith
nine_bits_high (suc zero) va h fits inside = omega arith
nine_bits_high (suc (suc zero)) va h fits inside = omega arith
nine_bits_high (suc (suc (suc start))) va h fits inside = absurd (omega arith)

nine_bits : (value : ℕ → ℕ) (start page va : ℕ) (high : Bool) → start ≤ 2 → va < 2 ^ 64 → RegionHolds value (stage1_root start high page) [] va → va / span_of start % 512 ≡ (va - first_address start high) / span_of start
nine_bits value start page va false h fits range = let to = range.to in nine_bits_low start va h (omega arith)
nine_bits value start page va true h fits range = let from = range.from in nine_bits_high start va h fits from

-- the place that nine bits select is the one that a walk begins at
pub begins_there : (value : ℕ → ℕ) (start page va place : ℕ) (high : Bool) → start ≤ 2 → va < 2 ^ 64 → RegionHolds value (stage1_root start high page) [] va → place ≡ page + 8 * (va / span_of start % 512) → ComesTo value (stage1_root start high page) va start (page + 8 * ((va - first_address start high) / span_of start)) [] → ComesTo value (stage1_root start high page) va start place []
begins_there value start page va place high h fits range is_place comes =
    let same : page + 8 * ((va - first_address start high) / span_of start) ≡ place = sym (is_place ∙ ap (λ n. page + 8 * n) (nine_bits value start page va high h fits range)) in
    subst (λ p. ComesTo value (stage1_root start high page) va start p []) same comes
