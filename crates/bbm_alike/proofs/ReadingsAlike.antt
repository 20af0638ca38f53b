-- Where the same registers have the same readable values, and the same roots are declared, the same VMIDs and the same
-- tags are readable, and a TLBI names the same.
use Rattle.bbm_rules.proofs.Common.{◌≡◌, ℕ, ◌&&◌, ◌==◌, Bool, true, false, cond, List, ◌++◌, Option, Some, None, filter_map, flat_map}
use Rattle.bbm_rules.proofs.Common.{is_none, map, option_and_then, refl, ◌∙◌, ap, result_ok, scoped_by_vmid, AsidFrom}
use Rattle.bbm_rules.proofs.Common.{FromTtbr0, FromTtbr1, Reg, Ttbr0El2, VttbrEl2, Ttbr0El1, Ttbr1El1, Tag, El2Tag}
use Rattle.bbm_rules.proofs.Common.{Vmid, Asid, Ttbr1Tag, World, Hyp, Kernel, Heading, Event, Tlbi, TlbiOp, Scope, same_tag, any}
use Rattle.bbm_rules.proofs.Common.{if_so, one_number, base_of, kind_of_reg, lacks_vmid, named_scope, register_values}
use Rattle.bbm_rules.proofs.Common.{tag_number, vmid_of, Declared, is_at, roots_of, same_kind, Reading, asid_readings}
use Rattle.bbm_rules.proofs.Common.{readings, readings_in, readings_of, reads, reads_for_some, takes_tag, takes_whole_tag}
use Rattle.bbm_rules.specs.Prelude.{scope_of}
use Rattle.bbm_rules.specs.RegisterValues.{Standing, standings, vmid_in}
use Rattle.bbm_rules.specs.Tags.{reading_of, second_readings, standing_reading}
use Rattle.bbm_alike.specs.Alike.{SameRegisters}
use Rattle.bbm_alike.proofs.ListsAlike.{same_filter_map, same_flat}

module _ (h h' : List Event) (registers : SameRegisters h h') where
  vmid_in_alike : (world : World) (p : ℕ) → vmid_in world h p ≡ vmid_in world h' p
  vmid_in_alike (Hyp world) p = ap (λ (vs : List ℕ). one_number (map tag_number vs)) (registers.values p VttbrEl2)
  vmid_in_alike (Kernel world) p = refl

  pub vmid_alike : (heading : Heading) (p : ℕ) → vmid_of heading h p ≡ vmid_of heading h' p
  vmid_alike heading p = vmid_in_alike heading.world p

  pub lacks_alike : (heading : Heading) (pe : ℕ) (op : TlbiOp) → lacks_vmid heading h pe op ≡ lacks_vmid heading h' pe op
  lacks_alike heading pe op = ap (λ (o : Option ℕ). scoped_by_vmid op && is_none o) (vmid_alike heading pe)

  pub scope_alike : (heading : Heading) (pe : ℕ) (op : TlbiOp) (xt : ℕ)
      → named_scope heading h pe op xt ≡ named_scope heading h' pe op xt
  scope_alike heading pe op xt = ap (λ (b : Bool). cond b None (result_ok (scope_of op xt))) (lacks_alike heading pe op)

  -- a TLBI takes the same whole tags
  pub takes_alike : (heading : Heading) (e : Event) (tag : Tag) → takes_tag heading e h tag ≡ takes_tag heading e h' tag
  takes_alike heading (Tlbi pe op xt) tag =
      ap (λ (o : Option Scope). elim o as (λ x. Bool) [
        | None ↦ false
        | Some scope ↦ takes_whole_tag scope (vmid_of heading h pe) tag
      ]) (scope_alike heading pe op xt)
      ∙ ap (λ (v : Option ℕ). elim (named_scope heading h' pe op xt) as (λ x. Bool) [
        | None ↦ false
        | Some scope ↦ takes_whole_tag scope v tag
      ]) (vmid_alike heading pe)
  takes_alike heading e tag = refl

  module _ (roots : roots_of h ≡ roots_of h') where
    reading_alike : (reg : Reg) (tag : ℕ → Tag) (value : ℕ) → reading_of h reg tag value ≡ reading_of h' reg tag value
    reading_alike reg tag value =
        ap (λ (rs : List Declared). option_and_then (λ base. if_so (any (λ r. is_at base r && same_kind r.kind (kind_of_reg reg)) rs)
        (record { tag = tag value; root = base })) (base_of value)) roots

    readings_of_alike : (p : ℕ) (reg : Reg) (tag : ℕ → Tag) → readings_of h p reg tag ≡ readings_of h' p reg tag
    readings_of_alike p reg tag =
        same_filter_map (reading_of h reg tag) (reading_of h' reg tag) (register_values h p reg)
        (λ value there. reading_alike reg tag value)
        ∙ ap (λ (vs : List ℕ). filter_map (reading_of h' reg tag) vs) (registers.values p reg)

    standing_alike : (s : Standing) → standing_reading h s ≡ standing_reading h' s
    standing_alike s = reading_alike Ttbr0El1 (λ value. Asid (tag_number s.second)) s.first

    second_alike : (inorder : Bool) (p : ℕ) → second_readings inorder h p ≡ second_readings inorder h' p
    second_alike true p =
        same_filter_map (standing_reading h) (standing_reading h') (standings h p) (λ s there. standing_alike s)
        ∙ ap (λ (ss : List Standing). filter_map (standing_reading h') ss) (registers.standings p)
    second_alike false p =
        same_flat (λ from. readings_of h p Ttbr0El1 (λ value. Asid (tag_number from)))
        (λ from. readings_of h' p Ttbr0El1 (λ value. Asid (tag_number from))) (register_values h p Ttbr1El1)
        (λ from there. readings_of_alike p Ttbr0El1 (λ value. Asid (tag_number from)))
        ∙ ap (λ (vs : List ℕ). flat_map (λ from. readings_of h' p Ttbr0El1 (λ value. Asid (tag_number from))) vs)
        (registers.values p Ttbr1El1)

    asid_alike : (inorder : Bool) (source : AsidFrom) (p : ℕ) → asid_readings inorder source h p ≡ asid_readings inorder source h' p
    asid_alike inorder FromTtbr0 p = readings_of_alike p Ttbr0El1 (λ value. Asid (tag_number value))
    asid_alike inorder FromTtbr1 p = second_alike inorder p

    both : (a b a' b' : List Reading) → a ≡ a' → b ≡ b' → a ++ b ≡ a' ++ b'
    both a b a' b' p q = rw (p, q) refl

    readings_in_alike : (inorder : Bool) (world : World) (p : ℕ) → readings_in inorder world h p ≡ readings_in inorder world h' p
    readings_in_alike inorder (Hyp world) p =
        both (readings_of h p Ttbr0El2 (λ value. El2Tag)) (readings_of h p VttbrEl2 (λ value. Vmid (tag_number value)))
        (readings_of h' p Ttbr0El2 (λ value. El2Tag)) (readings_of h' p VttbrEl2 (λ value. Vmid (tag_number value)))
        (readings_of_alike p Ttbr0El2 (λ value. El2Tag)) (readings_of_alike p VttbrEl2 (λ value. Vmid (tag_number value)))
    readings_in_alike inorder (Kernel world) p =
        both (asid_readings inorder world.asid_from h p) (readings_of h p Ttbr1El1 (λ value. Ttbr1Tag))
        (asid_readings inorder world.asid_from h' p) (readings_of h' p Ttbr1El1 (λ value. Ttbr1Tag))
        (asid_alike inorder world.asid_from p) (readings_of_alike p Ttbr1El1 (λ value. Ttbr1Tag))

    pub readings_alike : (heading : Heading) (p : ℕ) → readings heading h p ≡ readings heading h' p
    readings_alike heading p = readings_in_alike heading.words.inorder heading.world p

    pub reads_alike : (heading : Heading) (p : ℕ) (tag : Tag) (root : ℕ) → reads heading h p tag root ≡ reads heading h' p tag root
    reads_alike heading p tag root =
        ap (λ (rs : List Reading). any (λ r. same_tag r.tag tag && r.root == root) rs) (readings_alike heading p)

    pub reads_some_alike : (heading : Heading) (p : ℕ) (tag : Tag) → reads_for_some heading h p tag ≡ reads_for_some heading h' p tag
    reads_some_alike heading p tag = ap (λ (rs : List Reading). any (λ r. same_tag r.tag tag) rs) (readings_alike heading p)
