-- A register write: roots after one that is taken stand for the history with it, and it is judged as the history says.
use Rattle.bbm_roots.proofs.Common.{reg_equal, same_swapped, ◌≡◌, ℕ, Bool, true, false, ◌&&◌, not, nat_eq, List, arith}
use Rattle.bbm_roots.proofs.Common.{base_of, tag_number, kind_in_world, Heading, Event, Msr, readings, names_null}
use Rattle.bbm_roots.proofs.Common.{load_in, loads_after, root_in, ◌∷◌, refl, sym, ◌∙◌, ap, cond, Option, None}
use Rattle.bbm_roots.proofs.Common.{false≢true, eqb-true, Reg, Ttbr0El2, VttbrEl2, Ttbr0El1, Ttbr1El1, World, Hyp}
use Rattle.bbm_roots.proofs.Common.{Kernel, readings_of, first_reg, second_reg, is_first, same_reg, kind_of_reg}
use Rattle.bbm_roots.proofs.Common.{root_of, missing_root, RootValue, ◌<◌, ◌≤◌, ◌||◌, Result, register_values, Laws}
use Rattle.bbm_roots.proofs.Common.{TakesWhere, loads_in, Marks, pending_in, has_reading, Writes, Stands, has_null_base}
use Rattle.bbm_roots.proofs.Common.{pes_of, Reading, Roots, length, subst, fun_ext, conflict_in, conflicts}
use Rattle.bbm_roots.proofs.Common.{readings_after, nat_tests, first_none, has_tag, not-false, not-true, Patterns, []}
use Rattle.bbm_roots.proofs.Common.{and-true, by_standings, firsts_after, firsts_with, firsts_written, front, in_order, map, new_standing}
use Rattle.bbm_roots.proofs.Common.{reading_world, standing_in, standings_after, standings_of, take, ◌==◌}
use Rattle.bbm_regimes.specs.declared.regime.KernelWorld.{KernelWorld}
use Rattle.bbm_rules.proofs.RegisterLaw.{first}
use Rattle.bbm_rules.specs.RegisterValues.{register_value, standing_of, standings}
use Rattle.bbm_roots.proofs.Readable.{readings-same, readings-stay}
use Rattle.bbm_roots.proofs.Entries.{marked-kept}
use Rattle.bbm_roots.proofs.Steps.{holds-written, left-stay, waits-written}
use Rattle.bbm_lemmas.proofs.Bools.{not_from}
use Rattle.std.proofs.Common.{Ok}
use Rattle.bbm_histories.proofs.Induction.{kept_next}
use Rattle.bbm_locks.specs.declared.locks.Locks.{Locks}
use Rattle.bbm_locks.specs.Holders.{holder_at}
use Rattle.bbm_rules.proofs.Common.{Answers, if_so, limit_of}
use Rattle.bbm_rules.specs.Broken.{broken}
use Rattle.bbm_rules.specs.Rules.{asks_to_share}
use Rattle.bbm_rules.specs.declared.step_fault.StepFault.{StepFault}
use Rattle.bbm_roots.specs.Refusals.{JudgesReadings}
use Rattle.bbm_roots.proofs.Conflicts.{conflict-is}
use Rattle.bbm_roots.proofs.RegisterWrites.{null_names_none, write_judged}
use Rattle.bbm_roots.proofs.Numbers.{length-loads}
use Rattle.bbm_roots.specs.LoadsOf.{loads_of}
use Rattle.bbm_roots.proofs.Changes.{room-same}

-- what a value names, by its parts, where its root isn't missing
pub load-is : (heading : Heading) (h : List Event) (number : ℕ) (root : Option ℕ) (reg : Reg) (value : ℕ) (null : Bool) → number ≡ tag_number value →
    root ≡ root_of heading reg value null → missing_root heading h reg value null ≡ None →
    (names_null heading reg null ≡ true → root_in h (kind_of_reg reg) (base_of value) ≡ None) →
    let load : RootValue = record { number = number; root = root } in load ≡ load_in h reg value
load-is heading h number root reg value null same_number same_root there none =
    let same : root_of heading reg value null ≡ root_in h (kind_of_reg reg) (base_of value) = grind (arith) in
    rw (same_number, same_root, same) refl

-- a register of the world is its first or its second
pub of_world_is : (world : World) (reg : Reg) → kind_in_world world (kind_of_reg reg) ≡ true →
    (same_reg reg (first_reg world) ≡ is_first reg) × (same_reg reg (second_reg world) ≡ not (is_first reg)) ×
    ((f : Reg → List RootValue) → cond (is_first reg) (f (first_reg world)) (f (second_reg world)) ≡ f reg)
of_world_is (Hyp w) Ttbr0El2 e = (refl, refl, λ f. refl)
of_world_is (Hyp w) VttbrEl2 e = (refl, refl, λ f. refl)
of_world_is (Kernel w) Ttbr0El1 e = (refl, refl, λ f. refl)
of_world_is (Kernel w) Ttbr1El1 e = (refl, refl, λ f. refl)
of_world_is _ _ e = absurd (false≢true e)

-- the newest readable value is the present one
front-is : (h : List Event) (p : ℕ) (reg : Reg) → front (loads_after h p reg) ≡ load_in h reg (register_value h p reg)
front-is h p reg = by (register_values h p reg) (register_value h p reg) (first p reg h)
  where
    by : (vs : List ℕ) (v : ℕ) → take 1 vs ≡ v ∷ [] → front (map (load_in h reg) vs) ≡ load_in h reg v
    by [] v e = absurd (cc)
    by (w ∷ vs) v e = let same : w ≡ v = cc in ap (load_in h reg) same

-- the new value stands in front in its register
module _ (h : List Event) (pe : ℕ) (reg : Reg) (value : ℕ) where
  abbrev after : List Event
  after = Msr pe reg value ∷ h

  pub loads-written : (p : ℕ) (other : Reg) → loads_after after p other
      ≡ cond (nat_eq p pe && same_reg reg other) (load_in h reg value ∷ loads_after h p other) (loads_after h p other)
  loads-written p other = let swapped = same_swapped pe p in let same = reg_equal reg other in grind (arith)

  -- the standing that comes of it
  new-is : (kernel : KernelWorld) (p : ℕ) → kind_in_world (Kernel kernel) (kind_of_reg reg) ≡ true → (pe == p) ≡ true
      → standing_in h (standing_of after p)
      ≡ new_standing (is_first reg) (load_in h reg value)
      (front (cond (is_first reg) (loads_after h p Ttbr1El1) (loads_after h p Ttbr0El1)))
  new-is kernel p in_world at = by reg in_world
    where
      by : (reg : Reg) → kind_in_world (Kernel kernel) (kind_of_reg reg) ≡ true
          → standing_in h (standing_of (Msr pe reg value ∷ h) p)
          ≡ new_standing (is_first reg) (load_in h reg value)
          (front (cond (is_first reg) (loads_after h p Ttbr1El1) (loads_after h p Ttbr0El1)))
      by Ttbr0El1 e = rw (at, front-is h p Ttbr1El1) refl
      by Ttbr1El1 e = rw (at, front-is h p Ttbr0El1) refl
      by _ e = absurd (false≢true e)

module _ (heading : Heading) (h : List Event) (pe : ℕ) (reg : Reg) (value : ℕ) where
  -- the values of the other register
  abbrev others : ℕ → List RootValue
  others p = cond (is_first reg) (loads_after h p (second_reg heading.world)) (loads_after h p (first_reg heading.world))

  abbrev stood : ℕ → Bool → List RootValue
  stood p b = map (standing_in h) (cond b (standing_of (Msr pe reg value ∷ h) p ∷ standings h p) (standings h p))

  -- at another PE the same stays readable
  same-there : (p : ℕ) → nat_eq p pe ≡ false → standings_after (Msr pe reg value ∷ h) p ≡ standings_after h p
  same-there p e = ap (stood p) (same_swapped pe p ∙ e)

  pub elsewhere : (p : ℕ) → nat_eq p pe ≡ false → readings heading (Msr pe reg value ∷ h) p ≡ readings heading h p
  elsewhere p e = readings-stay heading h (Msr pe reg value) p (same (first_reg heading.world)) (same (second_reg heading.world))
      (same-there p e)
    where
      same : (other : Reg) → loads_after (Msr pe reg value ∷ h) p other ≡ loads_after h p other
      same other = rw (loads-written h pe reg value p other, e) refl

  module _ (of_world : kind_in_world heading.world (kind_of_reg reg) ≡ true) where
    -- at the PE the new value is in front, and the new standing
    same-here : in_order heading ≡ true → (p : ℕ) → nat_eq p pe ≡ true → standings_after (Msr pe reg value ∷ h) p
        ≡ new_standing (is_first reg) (load_in h reg value) (front (others p)) ∷ standings_after h p
    same-here ordered p e = by heading.world ordered of_world
      where
        at : (pe == p) ≡ true
        at = same_swapped pe p ∙ e

        by : (world : World) → by_standings world heading.words.inorder ≡ true → kind_in_world world (kind_of_reg reg) ≡ true
            → standings_after (Msr pe reg value ∷ h) p ≡ new_standing (is_first reg) (load_in h reg value)
            (front (cond (is_first reg) (loads_after h p (second_reg world)) (loads_after h p (first_reg world)))) ∷ standings_after h p
        by (Hyp world) ordered of_world = absurd (false≢true ordered)
        by (Kernel world) ordered of_world =
            ap (stood p) at ∙ ap (λ (s : RootValue). s ∷ standings_after h p) (new-is h pe reg value world p of_world at)

    pub standings-written : in_order heading ≡ true → (p : ℕ) → standings_after (Msr pe reg value ∷ h) p
        ≡ cond (nat_eq p pe) (new_standing (is_first reg) (load_in h reg value) (front (others p)) ∷ standings_after h p)
        (standings_after h p)
    standings-written ordered p = by (nat_eq p pe) refl
      where
        by : (b : Bool) → nat_eq p pe ≡ b → standings_after (Msr pe reg value ∷ h) p
            ≡ cond b (new_standing (is_first reg) (load_in h reg value) (front (others p)) ∷ standings_after h p) (standings_after h p)
        by true e = same-here ordered p e
        by false e = same-there p e

    firsts-written : (p : ℕ) → nat_eq p pe ≡ true → firsts_after heading (Msr pe reg value ∷ h) p
        ≡ firsts_written (in_order heading) (is_first reg) (load_in h reg value) (loads_after h p (first_reg heading.world))
        (others p) (standings_after h p)
    firsts-written p e = by (in_order heading) (λ ordered. same-here ordered p e)
      where
        is : loads_after (Msr pe reg value ∷ h) p (first_reg heading.world)
            ≡ cond (is_first reg) (load_in h reg value ∷ loads_after h p (first_reg heading.world)) (loads_after h p (first_reg heading.world))
        is = rw (loads-written h pe reg value p (first_reg heading.world), e, (of_world_is heading.world reg of_world).0) refl

        by : (b : Bool) → (b ≡ true → standings_after (Msr pe reg value ∷ h) p
            ≡ new_standing (is_first reg) (load_in h reg value) (front (others p)) ∷ standings_after h p)
            → cond b (standings_after (Msr pe reg value ∷ h) p) (loads_after (Msr pe reg value ∷ h) p (first_reg heading.world))
            ≡ firsts_written b (is_first reg) (load_in h reg value) (loads_after h p (first_reg heading.world)) (others p)
            (standings_after h p)
        by true stood = stood refl
        by false stood = is

    pub right-here : (p : ℕ) (load : RootValue) → load ≡ load_in h reg value → nat_eq p pe ≡ true →
        readings heading (Msr pe reg value ∷ h) p
        ≡ readings_of (reading_world heading) (firsts_written (in_order heading) (is_first reg) load
        (loads_after h pe (first_reg heading.world)) (others pe) (standings_after h pe))
        (cond (is_first reg) (loads_after h pe (second_reg heading.world)) (load ∷ loads_after h pe (second_reg heading.world)))
    right-here p load is_load at =
        let is = of_world_is heading.world reg of_world in
        sym (readings-same heading (Msr pe reg value ∷ h) p)
        ∙ rw (firsts-written p at, loads-written h pe reg value p (second_reg heading.world), at, is.1, eqb-true p pe at, ← is_load)
        (ap (readings_of (reading_world heading) (firsts_written (in_order heading) (is_first reg) load
        (loads_after h pe (first_reg heading.world)) (others pe) (standings_after h pe)))
        (turned (is_first reg) (load ∷ loads_after h pe (second_reg heading.world)) (loads_after h pe (second_reg heading.world))))
      where
        turned : (b : Bool) (xs ys : List RootValue) → cond (not b) xs ys ≡ cond b ys xs
        turned b xs ys = grind (arith)

-- The write of a value with this number, which names this root: the register is one of the world and the value doesn't ask
-- to share, the root isn't missing, and these tags are readable after it.
module _ (laws : (heading : Heading) → Laws heading) (old : Roots) (pe : ℕ) (reg : Reg) (value : ℕ) (null : Bool) (number : ℕ)
    (root : Option ℕ) (seen : List Reading) (known : pe < pes_of old)
    (right : (not (kind_in_world old.header.world (kind_of_reg reg)) || asks_to_share old.header Patterns [] value) ≡ false)
    (is_number : number ≡ tag_number value)
    (named : (heading : Heading) (h : List Event) → Stands old heading h → root ≡ root_of heading reg value null)
    (found : (heading : Heading) (h : List Event) → Stands old heading h → missing_root heading h reg value null ≡ None)
    (is_seen : seen ≡ readings_after old.registers pe reg (record { number = number; root = root })) where
  abbrev load : RootValue
  load = record { number = number; root = root }

  module _ (heading : Heading) (h : List Event) (stands : Stands old heading h) (told : null ≡ has_null_base h value) where
    less : pe < heading.pes
    less = let n = stands.pes in omega (arith, known)

    right_here : (not (kind_in_world heading.world (kind_of_reg reg)) || asks_to_share heading Patterns [] value) ≡ false
    right_here = ap (λ (g : Heading). not (kind_in_world g.world (kind_of_reg reg)) || asks_to_share g Patterns [] value)
        (sym stands.header) ∙ right

    in_world : kind_in_world heading.world (kind_of_reg reg) ≡ true
    in_world = not-false (kind_in_world heading.world (kind_of_reg reg)) (first_none _ _ right_here)

    is_load : load ≡ load_in h reg value
    is_load = load-is heading h number root reg value null is_number (named heading h stands) (found heading h stands)
        (null_names_none heading h reg value null told ((laws heading).bases.null h ((laws heading).proper stands.proper) stands.kept))

    abbrev unwritten : List RootValue
    unwritten = others heading h pe reg value pe

    abbrev after_all : Bool → List RootValue → List RootValue
    after_all b stood = firsts_written b (is_first reg) load (loads_after h pe (first_reg heading.world)) unwritten stood

    -- by what the readings of the first register go then
    firsts-with : firsts_with old.registers pe reg load ≡ after_all (in_order heading) (standings_after h pe)
    firsts-with =
        rw (stands.first pe less, stands.second pe less)
        (ap (λ (b : Bool). after_all b (standings_of old.registers pe)) stands.order
        ∙ by (in_order heading) (λ ordered. stands.standings ordered pe less))
      where
        by : (b : Bool) → (b ≡ true → standings_of old.registers pe ≡ standings_after h pe)
            → after_all b (standings_of old.registers pe) ≡ after_all b (standings_after h pe)
        by true stood = ap (after_all true) (stood refl)
        by false stood = refl

    here : (p : ℕ) → nat_eq p pe ≡ true → readings heading (Msr pe reg value ∷ h) p ≡ seen
    here p at =
        right-here heading h pe reg value in_world p load is_load at
        ∙ sym (is_seen
        ∙ ap (λ (w : World). readings_of w (firsts_with old.registers pe reg load) (cond (is_first reg)
        (loads_in old.registers.second.items pe) (load ∷ loads_in old.registers.second.items pe))) stands.world
        ∙ ap (λ (ys : List RootValue). readings_of (reading_world heading) (firsts_with old.registers pe reg load)
        (cond (is_first reg) ys (load ∷ ys))) (stands.second pe less)
        ∙ ap (λ (xs : List RootValue). readings_of (reading_world heading) xs (cond (is_first reg)
        (loads_after h pe (second_reg heading.world)) (load ∷ loads_after h pe (second_reg heading.world)))) firsts-with)

    stands-taken : (new : Roots) → Writes pe reg load seen old new → Marks old.holds new.holds pe seen →
        broken heading Patterns h (Msr pe reg value) ≡ None → Stands new heading (Msr pe reg value ∷ h)
    stands-taken new taken marked keeps =
        let written = holds-written heading h pe reg value seen here (elsewhere heading h pe reg value) in
        let ne : (p : ℕ) → heading.pes ≤ p → nat_eq p pe ≡ false = λ p past. let n = stands.pes in grind (arith, nat_tests) in
        let is_in = of_world_is heading.world reg in_world in
        record {
          header = taken.roots.header ∙ stands.header;
          proper = stands.proper;
          kept = kept_next heading Patterns h (Msr pe reg value) stands.kept keeps;
          pes = taken.loads.same.pes ∙ stands.pes;
          world = taken.loads.same.world ∙ stands.world;
          order = taken.loads.same.in_order ∙ stands.order;
          first = λ p lt. let after = loads-written h pe reg value p (first_reg heading.world) in
              cc (taken.loads.first p, stands.first p lt, is_load, is_in.0, after);
          second = λ p lt. let after = loads-written h pe reg value p (second_reg heading.world) in
              cc (taken.loads.second p, stands.second p lt, is_load, is_in.1, after);
          standings = λ ordered p lt.
              taken.loads.standings p
              ∙ rw (
                stands.order,
                ordered,
                and-true (nat_eq p pe),
                stands.standings ordered p lt,
                stands.first p lt,
                stands.second p lt,
                is_load,
              )
              (sym (standings-written heading h pe reg value in_world ordered p));
          outside = λ p other past. rw (same_swapped pe p, ne p past) (stands.outside p other past);
          declared = λ q. let d = taken.roots.declared in let s = stands.declared q in cc;
          count = let d = taken.roots.declared in let s = stands.count in cc;
          locks = λ none. stands.locks (sym taken.roots.names ∙ none);
          holds = λ g r p.
              marked.held g r p
              ∙ ap (λ (b : Bool). b || (nat_eq p pe && has_reading g r seen)) (stands.holds g r p)
              ∙ written g r p;
          left = λ g r p.
              marked.left g r p ∙ stands.left g r p ∙ sym (left-stay heading h (Msr pe reg value) g r p refl refl);
          inside = λ g p past.
              not-true _ (not_from _ (λ kept. false≢true (sym (stands.inside g p past)
              ∙ marked-kept old.holds new.holds pe seen marked g p (ap (λ (b : Bool). b && has_tag g seen) (ne p past)) kept)));
          pendings = λ q b g p kept.
              taken.pendings q b g p
              ∙ waits-written heading h pe reg value seen here (elsewhere heading h pe reg value) q b g p
              (pending_in old.pendings q b g p)
              (λ none. stands.pendings q b g p (marked-kept old.holds new.holds pe seen marked g p none kept));
          holders = λ lock. ap (λ (l : Locks). holder_at l lock) taken.roots.locks ∙ stands.holders lock;
        }

    pub write-judged : (result : Result (Unit {0}) StepFault) →
        JudgesReadings (conflict_in old.holds (pes_of old) seen) (length (loads_of old.registers pe reg)) result →
        Answers result (broken heading Patterns h (Msr pe reg value)) (limit_of h (Msr pe reg value))
    write-judged result k =
        write_judged heading (laws heading) ((laws heading).proper stands.proper) h stands.kept pe reg value
        (ap (λ (b : Bool). if_so b 0) right_here)
        (ap (missing_root heading h reg value) (sym told) ∙ found heading h stands) result
        (subst (λ (f : Reading → Bool). JudgesReadings f (length (register_values h pe reg)) result) conflict
        (subst (λ (n : ℕ). JudgesReadings (conflict_in old.holds (pes_of old) seen) n result) count k))
      where
        conflict : conflict_in old.holds (pes_of old) seen ≡ conflicts heading (Msr pe reg value ∷ h) pe
        conflict =
            ap (λ (n : ℕ). conflict_in old.holds n seen) stands.pes
            ∙ fun_ext (conflict-is heading h pe reg value seen here (elsewhere heading h pe reg value) less old.holds stands.holds stands.left)

        count : length (loads_of old.registers pe reg) ≡ length (register_values h pe reg)
        count =
            rw (stands.first pe less, stands.second pe less)
            (ap (length {A = RootValue}) ((of_world_is heading.world reg in_world).2 (loads_after h pe))
            ∙ length-loads h reg (register_values h pe reg))

  pub write-taken : (new : Roots) → Writes pe reg load seen old new →
      ((heading : Heading) (h : List Event) → Stands old heading h → Marks old.holds new.holds pe seen) →
      ((heading : Heading) (h : List Event) → Stands old heading h → JudgesReadings {A = Unit {0}}
      (conflict_in old.holds (pes_of old) seen) (length (loads_of old.registers pe reg)) (Ok tt)) →
      TakesWhere (λ heading h. null ≡ has_null_base h value) (Msr pe reg value) old new
  write-taken new written marked clear = record {
    taken = λ heading h stands told. stands-taken heading h stands told new written (marked heading h stands)
        (write-judged heading h stands told (Ok tt) (clear heading h stands)).0;
    room = room-same old new written.roots.declared;
  }
