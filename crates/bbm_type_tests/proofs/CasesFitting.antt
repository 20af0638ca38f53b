-- Worked cases: values of root registers, intervals of pages, the span of a descriptor, and what fits a header.
use Rattle.bbm_type_tests.proofs.Common.{ℕ, Bool, [], ◌∷◌, true, false, Option, Some, None, refl, Extent, El2, S2}
use Rattle.bbm_type_tests.proofs.Common.{World, Hyp, Alle2is, Vae2is, Rvae2is, Heading}
use Rattle.std.specs.Prelude.{◌*◌, ◌^◌}
use Rattle.bbm_regimes.specs.Extent.{meets, holds, span_of}
use Rattle.bbm_regimes.specs.Registers.{base_of, tag_number}
use Rattle.bbm_regimes.specs.declared.regime.Tag.TheVariants as tag
use Rattle.bbm_events.specs.declared.event.Event.TheVariants.{Lock, Tlbi, Root}
use Rattle.bbm_events.specs.declared.claim.Claim.TheVariants.{Taken}
use Rattle.bbm_events.specs.declared.certificate.ClaimItem.TheVariants as said
use Rattle.bbm_events.specs.Heading.{no_words}
use Rattle.bbm_events.specs.Fits.{fits_heading}
use Rattle.bbm_events.specs.Certificate.{claim_fits}
use Rattle.bbm_type_tests.proofs.Rows.{Gives, Gives2}

abbrev base_and_number : ℕ → Option ℕ × ℕ
base_and_number value = (base_of value, tag_number value)

-- A value of VTTBR_EL2, its base and its VMID.
pub values : Gives base_and_number (
    (0, (None, 0))
    ∷ (0x5_0000_4000_2000, (Some 0x4000_2000, 5))
    ∷ (0x4000_2001, (Some 0x4000_2000, 0))
    ∷ (0xffff_0000_0000_0000, (Some 0, 0xffff))
    ∷ [])
values = refl

abbrev from_to : ℕ → ℕ → Extent
from_to lo hi = record { lo = lo; hi = hi }

abbrev meets_and_holds : Extent → Extent → Bool × Bool
meets_and_holds one other = (meets one other, holds one other)

-- Two intervals, and whether they meet and the first holds the second.
pub intervals : Gives2 meets_and_holds (
    (from_to 0 9, from_to 9 12, (true, false))
    ∷ (from_to 0 8, from_to 9 12, (false, false))
    ∷ (from_to 0 12, from_to 9 12, (true, true))
    ∷ (from_to 9 12, from_to 0 12, (true, false))
    ∷ (from_to 5 5, from_to 5 5, (true, true))
    ∷ [])
intervals = refl

pub spans : Gives span_of ((0, 512 * 2 ^ 30) ∷ (1, 2 ^ 30) ∷ (2, 2 ^ 21) ∷ (3, 4096) ∷ [])
spans = refl

-- a heading of the Hyp world with two PEs, whose stage 2 roots have 16 pages
abbrev heading : ℕ → Heading
heading version =
    let world : World = Hyp (record { el2_start = 1; s2_start = 1; s2_pages = 16 }) in
    record { version = version; pes = 2; cnp = false; words = no_words; world = world }

pub events : Gives2 (λ version event. fits_heading (heading version) event) (
    (3, Lock 1 1023, true)
    ∷ (3, Lock 2 0, false)
    ∷ (3, Lock 0 1024, false)
    ∷ (3, Tlbi 0 Alle2is 0, true)
    ∷ (3, Tlbi 0 Alle2is 1, false)
    ∷ (3, Tlbi 0 Vae2is 1, true)
    ∷ (3, Tlbi 0 Rvae2is 1, false)
    ∷ (4, Tlbi 0 Rvae2is 1, true)
    ∷ (3, Root 0 S2 (Some 1023) 0x40010000, true)
    ∷ (3, Root 0 S2 (Some 1023) 0x40001000, false)
    ∷ (3, Root 0 El2 (Some 1023) 0x40001000, true)
    ∷ [])
events = refl

pub claims : Gives (claim_fits (heading 3)) (
    (said.Claim (Taken 1 (tag.Asid 65535) 1 4294967295), true)
    ∷ (said.Claim (Taken 2 (tag.Asid 65535) 1 4294967295), false)
    ∷ (said.End 0, true)
    ∷ [])
claims = refl
