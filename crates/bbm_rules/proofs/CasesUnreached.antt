-- Worked cases: what the definitions say of histories that no accepted log has. The events of a log come first, and then
-- events that break a rule.
use Rattle.bbm_rules.proofs.Common.{String, Cover, Full, cover_at, noted, holder_of, takes_tag, in_tree}
use Rattle.std.specs.Prelude.{◌≡◌, ℕ, List, [], ◌∷◌, Bool, true, false, Option, Some, None, refl}
use Rattle.bbm_regimes.specs.declared.regime.Kind.TheVariants.{Ttbr0}
use Rattle.bbm_regimes.specs.declared.regime.Tag.TheVariants.{Vmid}
use Rattle.bbm_tlbi_scope.specs.declared.op.TlbiOp.{TlbiOp}
use Rattle.bbm_tlbi_scope.specs.declared.op.TlbiOp.TheVariants.{Vmalls12e1is, Alle1is}
use Rattle.bbm_tlbi_scope.specs.declared.entry.Cover.TheVariants.{None as NoCover}
use Rattle.bbm_events.specs.declared.event.Event.{Event}
use Rattle.bbm_events.specs.declared.event.Event.TheVariants.{Root, Tlbi, Unlock}
use Rattle.bbm_rules.specs.Claims.{Patterns}
use Rattle.bbm_rules.specs.Tree.{tree}
use Rattle.bbm_rules.proofs.Judged.{after}

-- An `unlock` by a PE that doesn't hold the lock frees nothing.
unfoldable pub holder_after : List String → Event → ℕ → Option (Option ℕ)
unfolding after
holder_after lines e lock = after lines (λ heading h. holder_of (e ∷ h) lock)

pub unlock_by_another_frees_nothing : holder_after ("bbmlog 1 hyp 2 1 1 1" ∷ "lock 0 3" ∷ []) (Unlock 1 3) 3 ≡ Some (Some 0)
unfolding holder_after
unlock_by_another_frees_nothing = refl

-- A root of a kind of the other world has no tree.
unfoldable pub in_tree_after : List String → Event → ℕ → Option Bool
unfolding after tree
in_tree_after lines e page = after lines (λ heading h. in_tree heading Patterns (noted heading Patterns (e ∷ h)) page)

pub root_of_the_other_world_has_no_tree :
    in_tree_after ("bbmlog 1 hyp 2 1 1 1" ∷ "init 0 0x40000000" ∷ []) (Root 0 Ttbr0 None 0x40000000) 0x40000000 ≡ Some false
unfolding in_tree_after
root_of_the_other_world_has_no_tree = refl

-- PE 1 may still use two VMIDs. The root of the place holds no tag, so no VMID is compared there.
abbrev pub two_vmids : List String
two_vmids =
    "bbmlog 1 hyp 2 1 1 1"
    ∷ "init 0 0x40000000"
    ∷ "root 0 s2 - 0x40000000"
    ∷ "init 0 0x40001000"
    ∷ "root 0 s2 - 0x40001000"
    ∷ "w 0 0x40000008 0x800007fd"
    ∷ "w 0 0x40000008 0x0"
    ∷ "dsb 0 ishst"
    ∷ "msr 1 vttbr_el2 0x5000040001000"
    ∷ []

unfoldable pub cover_of_tlbi : TlbiOp → ℕ → Option Cover
unfolding after tree
cover_of_tlbi op place =
    after two_vmids (λ heading h. cover_at heading Patterns (noted heading Patterns h) (Tlbi 1 op 0) place)

-- A TLBI that needs the VMID covers nothing.
pub tlbi_without_its_vmid_covers_nothing : cover_of_tlbi Vmalls12e1is 0x40000008 ≡ Some NoCover
unfolding cover_of_tlbi
tlbi_without_its_vmid_covers_nothing = refl

-- One that needs none covers the place.
pub tlbi_that_needs_no_vmid_covers : cover_of_tlbi Alle1is 0x40000008 ≡ Some Full
unfolding cover_of_tlbi
tlbi_that_needs_no_vmid_covers = refl

unfoldable pub takes_tag_after : TlbiOp → ℕ → Option Bool
unfolding after
takes_tag_after op number = after two_vmids (λ heading h. takes_tag heading (Tlbi 1 op 0) h (Vmid number))

-- It takes no tag whole either, under none of the two.
pub tlbi_without_its_vmid_takes_no_tag : takes_tag_after Vmalls12e1is 5 ≡ Some false
unfolding takes_tag_after
tlbi_without_its_vmid_takes_no_tag = refl

pub tlbi_without_its_vmid_takes_not_the_old_tag : takes_tag_after Vmalls12e1is 0 ≡ Some false
unfolding takes_tag_after
tlbi_without_its_vmid_takes_not_the_old_tag = refl

pub tlbi_that_needs_no_vmid_takes_the_tag : takes_tag_after Alle1is 5 ≡ Some true
unfolding takes_tag_after
tlbi_that_needs_no_vmid_takes_the_tag = refl
