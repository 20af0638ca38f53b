-- How many pages a stage 2 root joins in a world that a header has.
use Rattle.bbm_rules.proofs.Common.{◌≡◌, Bool, true, cond, not, ◌&&◌, ◌||◌, ◌==◌, nat_le, refl, and_parts, proved, If}
use Rattle.bbm_rules.proofs.Common.{Is, are_s2_pages, page_count, world_ok, heading_ok}
use Rattle.std.proofs.Common.{IsTrue}
use Rattle.bbm_regimes.specs.declared.regime.Kind.TheVariants.{S2}
use Rattle.bbm_regimes.specs.declared.regime.World.{World}
use Rattle.bbm_regimes.specs.declared.regime.World.TheVariants.{Hyp, Kernel}
use Rattle.bbm_regimes.specs.World.{start_of}
use Rattle.bbm_walk_s2.specs.Joined.{can_join}
use Rattle.bbm_events.specs.Heading.{Heading}
use Rattle.bbm_events.proofs.Ranges.{ranges}

either : (zero one two four eight sixteen : Bool) → cond zero one (one || two || four || eight || sixteen) ≡ true
    → (one || not zero && (two || four || eight || sixteen)) ≡ true
either = proved 6 (λ zero one two four eight sixteen. If (Is (cond zero one (one || two || four || eight || sixteen))
    true) (Is (one || not zero && (two || four || eight || sixteen)) true)) refl

joined_in : (world : World) → world_ok world ≡ true → can_join (start_of world S2) (page_count world S2) ≡ true
joined_in (Hyp w) k =
    either (w.s2_start == 0) (w.s2_pages == 1) (w.s2_pages == 2) (w.s2_pages == 4) (w.s2_pages == 8) (w.s2_pages == 16)
    (and_parts (nat_le w.el2_start 2 && nat_le w.s2_start 2) (are_s2_pages w.s2_start w.s2_pages) k).1
joined_in (Kernel w) k = refl

pub joined : (heading : Heading) → IsTrue (heading_ok heading)
    → IsTrue (can_join (start_of heading.world S2) (page_count heading.world S2))
joined heading ok = joined_in heading.world (ranges heading ok).world
