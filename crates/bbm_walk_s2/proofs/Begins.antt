-- Where a walk begins: the input range of a root, and the place of its joined pages that an address selects.
use Rattle.std.proofs.Common.{◌≡◌, ℕ, ◌+◌, ◌-◌, ◌*◌, ◌/◌, ◌%◌, ◌<◌, [], ap, sym, ◌∙◌, subst, mul_assoc, pow_pos, arith}
use Rattle.std.proofs.lemmas.Nat.{div_below}
use Rattle.bbm_regimes.specs.Extent.{span_of}
use Rattle.bbm_descriptor.specs.Listing.{RegionHolds, IsAligned, ComesTo}
use Rattle.bbm_walk_s2.specs.Joined.{stage2_root}

pub root_aligned : (start pages page : ℕ) → page % 4096 ≡ 0 → IsAligned (stage2_root start pages page)
root_aligned start pages page aligned = record { page = aligned; first = omega arith }

-- the number of the place that an address in the range selects
pub number_inside : (value : ℕ → ℕ) (start pages page ipa : ℕ) → RegionHolds value (stage2_root start pages page) [] ipa → ipa / span_of start < 512 * pages
number_inside value start pages page ipa range =
    let to = range.to in
    let s = span_of start in
    let same : pages * 512 * s ≡ pages * (512 * s) = mul_assoc pages 512 s in
    let below : ipa / s < pages * 512 = div_below ipa s (pages * 512) (pow_pos (12 + 9 * (3 - start))) (omega arith) in
    omega arith

pub begins_there : (value : ℕ → ℕ) (start pages page ipa place : ℕ) → place ≡ page + 8 * (ipa / span_of start) → ComesTo value (stage2_root start pages page) ipa start (page + 8 * ((ipa - 0) / span_of start)) [] → ComesTo value (stage2_root start pages page) ipa start place []
begins_there value start pages page ipa place is_place comes =
    let whole : ipa - 0 ≡ ipa = omega arith in
    let same : page + 8 * ((ipa - 0) / span_of start) ≡ place = ap (λ n. page + 8 * (n / span_of start)) whole ∙ sym is_place in
    subst (λ p. ComesTo value (stage2_root start pages page) ipa start p []) same comes
