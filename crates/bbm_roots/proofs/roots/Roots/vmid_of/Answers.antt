use Rattle.bbm_roots.proofs.Common.{◌≡◌, ◌∙◌, sym, ap, List, ◌<◌, map, World, Hyp, Kernel, VttbrEl2, second_reg, RootValue}
use Rattle.bbm_roots.proofs.Common.{register_values, loads_after, arith, rules, length, refl, Bool, true, false, cond, ℕ}
use Rattle.bbm_roots.proofs.Common.{Heading, Event, in_order, own_asids, Roots, Stands, world_of}
use Rattle.bbm_lemmas.specs.ListWords.{one_number}
use Rattle.bbm_rules.specs.RegisterValues.{vmid_in}
use Rattle.bbm_roots.proofs.Judge.{of_state}
use Rattle.bbm_roots.proofs.Numbers.{numbers-are}
use Rattle.bbm_roots.proofs.roots.Roots.vmid_of.Goals as goal

-- what doesn't ask of a world which register names its ASIDs, asks the same of the world by which readings go
by-world : {X : Type 0} (f : World → X) → ((w : World) → f (own_asids w) ≡ f w) → {roots : Roots} {heading : Heading} {h : List Event}
    → Stands roots heading h → (world : World) → world_of roots ≡ world → f heading.world ≡ f world
by-world f own {heading = heading} stands world is = by (in_order heading) ∙ ap f (sym stands.world ∙ is)
  where
    by : (b : Bool) → f heading.world ≡ f (cond b (own_asids heading.world) heading.world)
    by true = sym (own heading.world)
    by false = refl

same-second : (w : World) → second_reg (own_asids w) ≡ second_reg w
same-second (Hyp w) = refl
same-second (Kernel w) = refl

same-vmid : (h : List Event) (p : ℕ) (w : World) → vmid_in (own_asids w) h p ≡ vmid_in w h p
same-vmid h p (Hyp w) = refl
same-vmid h p (Kernel w) = refl

pub loads_at-requires : goal.loads_at-requires
loads_at-requires c =
    let less = of_state c.requires.2 c.requires.3 in
    let pes = c.args.self.now.registers.second_pes in
    let known : c.args.pe < length c.args.self.now.registers.second.items = omega (arith, less, pes) in (search rules, known)

pub returns-in-Hyp : goal.returns-in-Hyp
returns-in-Hyp c = λ heading h stands.
    let pe = c.args.pe in
    let less : pe < heading.pes = let n = stands.pes in omega (arith, of_state c.requires.2 c.requires.3) in
    let same : c.loads_at.result.now ≡ loads_after h pe VttbrEl2 =
    c.loads_at.ensures.value ∙ stands.second pe less
    ∙ ap (loads_after h pe) (by-world second_reg same-second stands (Hyp c.in-Hyp.field-0) c.in-Hyp.is) in
    c.one_number.ensures
    ∙ ap (λ (ls : List RootValue). one_number (map (λ (l : RootValue). l.number) ls)) same
    ∙ ap one_number (numbers-are h VttbrEl2 (register_values h pe VttbrEl2))
    ∙ sym (by-world (λ (w : World). vmid_in w h pe) (same-vmid h pe) stands (Hyp c.in-Hyp.field-0) c.in-Hyp.is)

pub returns-in-Kernel : goal.returns-in-Kernel
returns-in-Kernel c = λ heading h stands.
    sym (by-world (λ (w : World). vmid_in w h c.args.pe) (same-vmid h c.args.pe) stands (Kernel c.in-Kernel.field-0) c.in-Kernel.is)
