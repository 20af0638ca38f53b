-- The readable standings of a PE of the Kernel world: fewer than the readable values of its two registers together.
use Rattle.bbm_roots.proofs.Common.{◌≡◌, ℕ, ◌<◌, ◌≤◌, ◌+◌, Bool, true, false, ◌&&◌, ◌==◌, List, [], ◌∷◌, length}
use Rattle.bbm_roots.proofs.Common.{refl, sym, ap, ◌∙◌, arith, cond, take, false≢true, first_none, not-false, Heading, RootValue}
use Rattle.bbm_roots.proofs.Common.{Event, Msr, Patterns, Reg, Ttbr0El1, Ttbr1El1, World, Hyp, Kernel, kind_in_world}
use Rattle.bbm_roots.proofs.Common.{kind_of_reg, register_values, by_standings, in_order, is_first, Laws, Roots}
use Rattle.bbm_roots.proofs.Common.{Stands, loads_in, standing_in, standings_of, load_in, other_loads}
use Rattle.bbm_roots.proofs.Common.{first_reg, second_reg, same_reg, loads_after}
use Rattle.std.proofs.lemmas.List.{length-map}
use Rattle.bbm_events.specs.declared.event.Event.TheVariants.{Isb}
use Rattle.bbm_histories.proofs.Induction.{kept_before}
use Rattle.bbm_regimes.specs.declared.regime.KernelWorld.{KernelWorld}
use Rattle.bbm_roots.specs.LoadsOf.{loads_of, HasSpace}
use Rattle.bbm_rules.proofs.RegisterLaw.{first}
use Rattle.bbm_rules.proofs.RuleLemmas.{if_none}
use Rattle.bbm_rules.proofs.StandingLaw.{first_standing}
use Rattle.bbm_rules.specs.Broken.{keeps}
use Rattle.bbm_rules.specs.RegisterValues.{Standing, register_value, standing_of, standings}
use Rattle.bbm_rules.specs.declared.rule.Rule.TheVariants.{WrongWorld}

module _ (heading : Heading) (laws : Laws heading) (p : ℕ) where
  abbrev count : List Event → Reg → ℕ
  count h reg = length (register_values h p reg)

  abbrev Fits : List Event → Type 0
  Fits h = length (standings h p) < count h Ttbr0El1 + count h Ttbr1El1

  written : (h : List Event) (pe : ℕ) (reg : Reg) (v : ℕ) → keeps heading Patterns (Msr pe reg v ∷ h) ≡ true
      → kind_in_world heading.world (kind_of_reg reg) ≡ true
  written h pe reg v kept =
      not-false (kind_in_world heading.world (kind_of_reg reg))
      (first_none _ _ (if_none _ 0 (laws.each_rule.sound (Msr pe reg v ∷ h) [] h (Msr pe reg v) kept refl WrongWorld)))

  module _ (world : KernelWorld) (is : heading.world ≡ Kernel world) where
    fit : (h : List Event) → keeps heading Patterns h ≡ true → Fits h
    fit [] kept = omega arith
    fit (Msr pe reg v ∷ h) kept =
        by (pe == p) reg (ap (λ (w : World). kind_in_world w (kind_of_reg reg)) (sym is) ∙ written h pe reg v kept)
        (standing_of (Msr pe reg v ∷ h) p) (fit h (kept_before heading Patterns (Msr pe reg v ∷ []) h kept))
      where
        by : (b : Bool) (r : Reg) → kind_in_world (Kernel world) (kind_of_reg r) ≡ true → (s : Standing) → Fits h
            → length (cond b (s ∷ standings h p) (standings h p))
            < length (cond (b && same_reg r Ttbr0El1) (v ∷ register_values h p Ttbr0El1) (register_values h p Ttbr0El1))
            + length (cond (b && same_reg r Ttbr1El1) (v ∷ register_values h p Ttbr1El1) (register_values h p Ttbr1El1))
        by true Ttbr0El1 e s less = omega (arith, less)
        by true Ttbr1El1 e s less = omega (arith, less)
        by true _ e s less = absurd (false≢true e)
        by false r e s less = less
    fit (Isb pe ∷ h) kept = by (pe == p) (fit h (kept_before heading Patterns (Isb pe ∷ []) h kept))
      where
        one : {X : Type 0} (xs : List X) (x : X) → take 1 xs ≡ x ∷ [] → length (take 1 xs) ≡ 1
        one xs x e = rw e refl

        by : (b : Bool) → Fits h → length (cond b (take 1 (standings h p)) (standings h p))
            < length (cond b (take 1 (register_values h p Ttbr0El1)) (register_values h p Ttbr0El1))
            + length (cond b (take 1 (register_values h p Ttbr1El1)) (register_values h p Ttbr1El1))
        by true less =
            omega (
              arith,
              one (standings h p) (standing_of h p) (first_standing p h),
              one (register_values h p Ttbr0El1) (register_value h p Ttbr0El1) (first p Ttbr0El1 h),
              one (register_values h p Ttbr1El1) (register_value h p Ttbr1El1) (first p Ttbr1El1 h),
            )
        by false less = less
    fit (e ∷ h) kept = fit h (kept_before heading Patterns (e ∷ []) h kept)

-- There is room for one more standing where there is for one more value of a register, and the other has nine at most.
module _ (roots : Roots) (heading : Heading) (laws : Laws heading) (h : List Event) (stands : Stands roots heading h)
    (p : ℕ) (less : p < heading.pes) (reg : Reg) where
  pub space : length (loads_of roots.registers p reg) < 9
      → (roots.registers.in_order ≡ true → length (other_loads roots.registers p reg) ≤ 9) → HasSpace roots.registers p reg
  space room others = (
    room,
    λ ordered. let order : in_order heading ≡ true = sym stands.order ∙ ordered in
        by heading.world refl order (is_first reg) room (others ordered),
  )
    where
      both : (b : Bool) (ss xs ys : List RootValue) (s v w : ℕ) → s < v + w → length ss ≡ s → length xs ≡ v → length ys ≡ w
          → length (cond b xs ys) < 9 → length (cond b ys xs) ≤ 9 → length ss < 17
      both true ss xs ys s v w few stood one two room others = omega (arith, few, stood, one, two, room, others)
      both false ss xs ys s v w few stood one two room others = omega (arith, few, stood, one, two, room, others)

      by : (world : World) → heading.world ≡ world → by_standings world heading.words.inorder ≡ true → (b : Bool)
          → length (cond b (loads_in roots.registers.first.items p) (loads_in roots.registers.second.items p)) < 9
          → length (cond b (loads_in roots.registers.second.items p) (loads_in roots.registers.first.items p)) ≤ 9
          → length (standings_of roots.registers p) < 17
      by (Hyp world) is order b room others = absurd (false≢true order)
      by (Kernel world) is order b room others =
          let stood : length (standings_of roots.registers p) ≡ length (standings h p) =
          ap (length {A = RootValue}) (stands.standings (ap (λ (w : World). by_standings w heading.words.inorder) is ∙ order) p less)
          ∙ length-map (standings h p) (standing_in h) in
          let one : length (loads_in roots.registers.first.items p) ≡ length (register_values h p Ttbr0El1) =
          ap (length {A = RootValue}) (stands.first p less ∙ ap (λ (w : World). loads_after h p (first_reg w)) is)
          ∙ length-map (register_values h p Ttbr0El1) (load_in h Ttbr0El1) in
          let two : length (loads_in roots.registers.second.items p) ≡ length (register_values h p Ttbr1El1) =
          ap (length {A = RootValue}) (stands.second p less ∙ ap (λ (w : World). loads_after h p (second_reg w)) is)
          ∙ length-map (register_values h p Ttbr1El1) (load_in h Ttbr1El1) in
          both b _ _ _ _ _ _ (fit heading laws p world is h stands.kept) stood one two room others
