use Rattle.bbm_place_map.proofs.Common.{◌≡◌, ◌/◌, Some, None, slot_in, refl}
use Rattle.bbm_place_map.proofs.Held.{free_page, page_free, unparted}
use Rattle.bbm_place_map.proofs.broken.BrokenPlaces.is_free.Goals as goal

pub are_free-requires : goal.are_free-requires
are_free-requires c =
    let at : slot_in c.self.inside.parts.items (c.args.base / 512) ≡ Some c.in-Some.start
    = rw (← c.deref.ensures.value, ← c.slot_of.ensures) c.in-Some.is in
    c.self.invariant.0.numbered.within (c.args.base / 512) c.in-Some.start at

pub returns-in-Some : goal.returns-in-Some
returns-in-Some c =
    let sound = c.self.invariant.0 in
    let start = c.in-Some.start in
    let at : slot_in c.self.inside.parts.items (c.args.base / 512) ≡ Some start
    = rw (← c.deref.ensures.value, ← c.slot_of.ensures) c.in-Some.is in
    rw (← c.self.view_is) (
      λ e. free_page sound c.args.base c.requires start at (c.are_free.ensures.0 e),
      λ h. c.are_free.ensures.1 (page_free sound c.args.base c.requires start at h),
    )

pub returns-in-None : goal.returns-in-None
returns-in-None c =
    let at : slot_in c.self.inside.parts.items (c.args.base / 512) ≡ None
    = rw (← c.deref.ensures.value, ← c.slot_of.ensures) c.in-None.is in
    rw (← c.self.view_is) (λ _ i below. unparted c.self.invariant.0 c.args.base c.requires at i below, λ _. refl)
