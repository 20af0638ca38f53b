-- The readable tags of a history are those of what its readable register values name, and its readable standings.
use Rattle.bbm_roots.proofs.Common.{◌≡◌, ℕ, ◌<◌, ◌≤◌, ⊎_elim, cases_lt, Bool, true, false, ◌&&◌, ◌==◌, List, [], ◌∷◌}
use Rattle.bbm_roots.proofs.Common.{map, option_and_then, base_of, tag_number, FromTtbr0, FromTtbr1, El2Tag, Ttbr1Tag}
use Rattle.bbm_histories.specs.TagSteps.{BasesStay}
use Rattle.bbm_roots.proofs.Common.{Heading, Event, register_values, is_root, load_in, loads_after, root_in, arith}
use Rattle.bbm_roots.proofs.Common.{◌++◌, take, Option, Some, None, refl, sym, ap, ◌∙◌, flat_map, eqb-true, subst}
use Rattle.bbm_roots.proofs.Common.{AsidFrom, Kind, El2, S2, Ttbr0, Ttbr1, Reg, Ttbr0El2, VttbrEl2, Ttbr0El1, Ttbr1El1}
use Rattle.bbm_roots.proofs.Common.{Tag, Vmid, Asid, World, Hyp, Kernel, readings_of, readings_with, cond, or-false}
use Rattle.bbm_roots.proofs.Common.{own_reading, reading_at, reading_under, has_reading, has_tag, first_reg, second_reg}
use Rattle.bbm_roots.proofs.Common.{newest, kind_of_reg, RootValue, Reading, reading_world, by_standings, is_second}
use Rattle.bbm_roots.proofs.Common.{own_asids, standing_in, standings_after, firsts_after, firsts_of, in_order, loads_in}
use Rattle.bbm_roots.proofs.Common.{standings_of, Roots, Stands}
use Rattle.std.proofs.Common.{inl, inr}
use Rattle.std.specs.List.{cons_option, filter_map}
use Rattle.bbm_lemmas.specs.Elements.{In}
use Rattle.bbm_lemmas.specs.ListWords.{among, if_so}
use Rattle.bbm_lemmas.proofs.Words.{among_in}
use Rattle.bbm_regimes.specs.declared.regime.KernelWorld.{KernelWorld}
use Rattle.bbm_rules.specs.RegisterValues.{Standing, standings}
use Rattle.bbm_rules.specs.Tags as tags
use Rattle.bbm_rules.proofs.StandingLaw.{standing_readable}

-- ---- values

pub newest-map : {X : Type 0} (f : X → RootValue) (vs : List X) → newest (map f vs) ≡ map f (take 1 vs)
newest-map f [] = refl
newest-map f (v ∷ vs) = refl

map-same : {X : Type 0} (f g : X → RootValue) (xs : List X) → ((x : X) → In xs x → f x ≡ g x) → map f xs ≡ map g xs
map-same f g [] k = refl
map-same f g (x ∷ xs) k =
    let here = k x (inl refl) in
    let rest = map-same f g xs (λ y i. k y (inr i)) in
    cc

load-root : (n : ℕ) (r s : Option ℕ) → r ≡ s
    → let a : RootValue = record { number = n; root = r } in let b : RootValue = record { number = n; root = s } in a ≡ b
load-root n r s e = ap (λ (o : Option ℕ). let l : RootValue = record { number = n; root = o } in l) e

-- What the base of a readable value is stays, also for a PE that the log doesn't have, which reads 0 alone.
module _ (heading : Heading) (h : List Event) (e : Event) (stay : BasesStay heading h e)
    (outside : (p : ℕ) (reg : Reg) → heading.pes ≤ p → register_values h p reg ≡ 0 ∷ []) (p : ℕ) where
  root-stays : (reg : Reg) (v : ℕ) → among v (register_values h p reg) ≡ true
      → root_in (e ∷ h) (kind_of_reg reg) (base_of v) ≡ root_in h (kind_of_reg reg) (base_of v)
  root-stays reg v readable =
      ⊎_elim (λ (less : p < heading.pes). by less (base_of v) refl)
      (λ (past : heading.pes ≤ p).
      let zero : 0 ≡ v = eqb-true 0 v (sym (or-false (0 == v)) ∙ sym (ap (among v) (outside p reg past)) ∙ readable) in
      subst (λ (n : ℕ). root_in (e ∷ h) (kind_of_reg reg) (base_of n) ≡ root_in h (kind_of_reg reg) (base_of n)) zero refl)
      (cases_lt p heading.pes)
    where
      by : p < heading.pes → (base : Option ℕ) → base_of v ≡ base
          → root_in (e ∷ h) (kind_of_reg reg) base ≡ root_in h (kind_of_reg reg) base
      by less None is = refl
      by less (Some b) is = ap (λ (x : Bool). if_so x b) (stay p v b reg less readable is)

  pub loads-stay : (reg : Reg) → map (load_in (e ∷ h) reg) (register_values h p reg) ≡ loads_after h p reg
  loads-stay reg =
      map-same (load_in (e ∷ h) reg) (load_in h reg) (register_values h p reg) (λ v i.
      load-root (tag_number v) _ _ (root-stays reg v (among_in v (register_values h p reg) i)))

  pub standings-stay : map (standing_in (e ∷ h)) (standings h p) ≡ standings_after h p
  standings-stay =
      map-same (standing_in (e ∷ h)) (standing_in h) (standings h p) (λ s i.
      load-root (tag_number s.second) _ _ (root-stays Ttbr0El1 s.first (standing_readable p h s i)))

-- ---- readable tags

one-reading : (tag : Tag) (h : List Event) (kind : Kind) (base : Option ℕ) (rest : List Reading)
    → reading_at tag (root_in h kind base) ++ rest
    ≡ cons_option (option_and_then (λ b. if_so (is_root h kind b) (record { tag = tag; root = b })) base) rest
one-reading tag h kind None rest = refl
one-reading tag h kind (Some b) rest = grind (arith)

own-same : (h : List Event) (reg : Reg) (tag : ℕ → Tag) (f : RootValue → List Reading)
    → ((v : ℕ) → f (load_in h reg v) ≡ reading_at (tag v) (root_in h (kind_of_reg reg) (base_of v))) → (vs : List ℕ)
    → flat_map f (map (load_in h reg) vs) ≡ filter_map (tags.reading_of h reg tag) vs
own-same h reg tag f k [] = refl
own-same h reg tag f k (v ∷ vs) =
    rw (k v, own-same h reg tag f k vs)
    (one-reading (tag v) h (kind_of_reg reg) (base_of v) (filter_map (tags.reading_of h reg tag) vs))

under-same : (h : List Event) (vs ws : List ℕ)
    → flat_map (readings_with (map (load_in h Ttbr0El1) vs)) (map (load_in h Ttbr1El1) ws)
    ≡ flat_map (λ from. filter_map (tags.reading_of h Ttbr0El1 (λ value. Asid (tag_number from))) vs) ws
under-same h vs [] = refl
under-same h vs (w ∷ ws) =
    rw (own-same h Ttbr0El1 (λ value. Asid (tag_number w)) (reading_under (Asid (tag_number w))) (λ v. refl) vs)
    (rw (under-same h vs ws) refl)

-- what the standings give is what as many values of TTBR0_EL1 with their own ASIDs give
standing-same : (h : List Event) (ss : List Standing)
    → flat_map (own_reading Ttbr0) (map (standing_in h) ss) ≡ filter_map (tags.standing_reading h) ss
standing-same h [] = refl
standing-same h (s ∷ ss) =
    rw (standing-same h ss) (one-reading (Asid (tag_number s.second)) h Ttbr0 (base_of s.first) (filter_map (tags.standing_reading h) ss))

module _ (h : List Event) (p : ℕ) where
  abbrev values : Reg → List RootValue
  values reg = loads_after h p reg

  own : (reg : Reg) (tag : ℕ → Tag) (f : RootValue → List Reading)
      → ((v : ℕ) → f (load_in h reg v) ≡ reading_at (tag v) (root_in h (kind_of_reg reg) (base_of v)))
      → flat_map f (values reg) ≡ tags.readings_of h p reg tag
  own reg tag f k = own-same h reg tag f k (register_values h p reg)

  kernel-same : (inorder : Bool) (world : KernelWorld) (from : AsidFrom)
      → readings_of (cond (is_second from && inorder) (Kernel (record world { asid_from = FromTtbr0 })) (Kernel (record world { asid_from = from })))
      (cond (is_second from && inorder) (standings_after h p) (values Ttbr0El1)) (values Ttbr1El1)
      ≡ tags.asid_readings inorder from h p ++ tags.readings_of h p Ttbr1El1 (λ value. Ttbr1Tag)
  kernel-same inorder world FromTtbr0 =
      rw (
        own Ttbr0El1 (λ value. Asid (tag_number value)) (own_reading Ttbr0) (λ v. refl),
        own Ttbr1El1 (λ value. Ttbr1Tag) (own_reading Ttbr1) (λ v. refl),
      ) refl
  kernel-same true world FromTtbr1 =
      rw (standing-same h (standings h p), own Ttbr1El1 (λ value. Ttbr1Tag) (own_reading Ttbr1) (λ v. refl)) refl
  kernel-same false world FromTtbr1 =
      rw (
        under-same h (register_values h p Ttbr0El1) (register_values h p Ttbr1El1),
        own Ttbr1El1 (λ value. Ttbr1Tag) (own_reading Ttbr1) (λ v. refl),
      ) refl

  world-same : (inorder : Bool) (world : World)
      → readings_of (cond (by_standings world inorder) (own_asids world) world)
      (cond (by_standings world inorder) (standings_after h p) (values (first_reg world))) (values (second_reg world))
      ≡ tags.readings_in inorder world h p
  world-same inorder (Hyp world) =
      rw (
        own Ttbr0El2 (λ value. El2Tag) (own_reading El2) (λ v. refl),
        own VttbrEl2 (λ value. Vmid (tag_number value)) (own_reading S2) (λ v. refl),
      ) refl
  world-same inorder (Kernel world) = kernel-same inorder world world.asid_from

pub readings-same : (heading : Heading) (h : List Event) (p : ℕ)
    → readings_of (reading_world heading) (firsts_after heading h p) (loads_after h p (second_reg heading.world))
    ≡ tags.readings heading h p
readings-same heading h p = world-same h p heading.words.inorder heading.world

-- roots keep by what the readings of the first register go
pub firsts-are : {roots : Roots} {heading : Heading} {h : List Event} → Stands roots heading h → (p : ℕ) → p < heading.pes
    → firsts_of roots.registers p ≡ firsts_after heading h p
firsts-are {roots} {heading} {h} s p less = rw (s.order) (by (in_order heading) (λ ordered. s.standings ordered p less))
  where
    by : (b : Bool) → (b ≡ true → standings_of roots.registers p ≡ standings_after h p)
        → cond b (standings_of roots.registers p) (loads_in roots.registers.first.items p)
        ≡ cond b (standings_after h p) (loads_after h p (first_reg heading.world))
    by true stood = stood refl
    by false stood = s.first p less

-- an event that leaves what the values of a PE name, and what its standings give
module _ (heading : Heading) (h : List Event) (e : Event) (p : ℕ)
    (first : loads_after (e ∷ h) p (first_reg heading.world) ≡ loads_after h p (first_reg heading.world))
    (second : loads_after (e ∷ h) p (second_reg heading.world) ≡ loads_after h p (second_reg heading.world))
    (stood : standings_after (e ∷ h) p ≡ standings_after h p) where
  pub readings-stay : tags.readings heading (e ∷ h) p ≡ tags.readings heading h p
  readings-stay =
      sym (readings-same heading (e ∷ h) p) ∙ rw (first, second, stood) (readings-same heading h p)

  pub reads-stay : (g : Tag) (r : ℕ) → tags.reads heading (e ∷ h) p g r ≡ tags.reads heading h p g r
  reads-stay g r = ap (has_reading g r) readings-stay

  pub some-stay : (g : Tag) → tags.reads_for_some heading (e ∷ h) p g ≡ tags.reads_for_some heading h p g
  some-stay g = ap (has_tag g) readings-stay
