-- From the starts on.
use Rattle.bbm_tree_index.proofs.Common.{IndexMap, get, Heading, spot_with, Counts, Goes, Plain, Reached, Starting}
use Rattle.bbm_tree_index.proofs.Common.{Surveyed, Uniform, Well, role_as, spot_as, Mark}
use Rattle.bbm_rules.proofs.Common.{◌≡◌, ℕ, zero, suc, ◌+◌, Bool, List, [], ◌∷◌, ◌++◌, Option, Some, Contains, length}
use Rattle.bbm_rules.proofs.Common.{nat_eq, slice_get, refl, sym, ap, ◌∙◌, subst, arith, none-some, same_Some, Node}
use Rattle.bbm_tree_index.proofs.Counting.{counts_same}
use Rattle.bbm_tree_index.proofs.Levels.{start_is}

module _ (fresh : ℕ → Bool) (value : ℕ → ℕ) where
  pub goes_kind : (s m : Node) (places : List ℕ) → Goes fresh value s places m → (m.kind ≡ s.kind) × (m.level ≡ s.level + length places)
  goes_kind s m [] g = (ap (λ x. x.kind) (sym g), omega (arith, ap (λ x. x.level) (sym g)))
  goes_kind s m (place ∷ places) g = let r = goes_kind g.0 m places g.2 in
      (r.0 ∙ ap (λ x. x.kind) g.1.below, omega (arith, r.1, ap (λ x. x.level) g.1.below))

  pub goes_plain : (heading : Heading) (s m : Node) (places : List ℕ) → Goes fresh value s places m
      → spot_with heading (role_as s s.above) ≡ Some (spot_as s) → spot_with heading (role_as m m.above) ≡ Some (spot_as m)
  goes_plain heading s m [] g e = subst (λ x. spot_with heading (role_as x x.above) ≡ Some (spot_as x)) g e
  goes_plain heading s m (place ∷ places) g e = goes_plain heading g.0 m places g.2
      (subst (λ x. spot_with heading (role_as x x.above) ≡ Some (spot_as x)) (sym g.1.below) refl)

  module _ (heading : Heading) (first : ℕ → Option Mark) (starts : List Node) (s : Starting heading first starts) where
    pub uniform : (k : ℕ) → Uniform fresh value starts k
    uniform k n n' r r' = let a = goes_kind r.start n r.places r.goes in let b = goes_kind r'.start n' r'.places r'.goes in
        let c = s.alike r.start r'.start r.is_start r'.is_start in
        (a.0 ∙ c.0 ∙ sym b.0, omega (arith, a.1, b.1, c.1, r.count, r'.count))

    pub plain : (k : ℕ) → Plain heading (Reached fresh value starts k)
    plain k m r = goes_plain heading r.start m r.places r.goes (s.plain r.start r.is_start)

    pub at_start : (q : ℕ) → Counts (Reached fresh value starts 0) q (first q)
    at_start q = counts_same (Contains starts) (Reached fresh value starts 0) q (first q)
        (λ m at c. record { start = m; is_start = c; places = []; count = refl; goes = refl })
        (λ m at r. subst (Contains starts) (start_is fresh value starts m r) r.is_start) (s.told q)

-- one more table at the end
pushed : {X : Type 0} (xs : List X) (x y : X) (k : ℕ) → slice_get (xs ++ x ∷ []) k ≡ Some y
    → (P : Type 0) → (slice_get xs k ≡ Some y → P) → (k ≡ length xs → x ≡ y → P) → P
pushed [] x y zero e P f g = g refl (same_Some x y e)
pushed [] x y (suc k) e P f g = absurd (none-some y e)
pushed (a ∷ xs) x y zero e P f g = f e
pushed (a ∷ xs) x y (suc k) e P f g = pushed xs x y k e P f (λ h. g (omega (arith, h)))

module _ {S : Type 0} (heading : Heading) (fresh : ℕ → Bool) (value : ℕ → ℕ) where
  pub one_table : (table : IndexMap ℕ Mark S) → Well heading (get nat_eq table)
      → Surveyed heading fresh value (get nat_eq table) (table ∷ [])
  one_table table w = record {
    wells = λ k t e. pushed [] table t k e (Well heading (get nat_eq t)) (λ h. absurd (none-some t h))
        (λ z h. subst (λ x. Well heading (get nat_eq x)) h w);
    levels = λ starts s k t e. pushed [] table t k e ((q : ℕ) → Counts (Reached fresh value starts k) q (get nat_eq t q))
        (λ h. absurd (none-some t h))
        (λ z h q. subst (λ j. Counts (Reached fresh value starts j) q (get nat_eq t q)) (sym z)
        (subst (λ x. Counts (Reached fresh value starts 0) q (get nat_eq x q)) h (at_start fresh value heading (get nat_eq table) starts s q)));
  }

  pub more_tables : (first : ℕ → Option Mark) (tables : List (IndexMap ℕ Mark S)) (last next : IndexMap ℕ Mark S) (k : ℕ) → length tables ≡ suc k
      → slice_get tables k ≡ Some last → Surveyed heading fresh value first tables → Well heading (get nat_eq next)
      → ((starts : List Node) (j : ℕ) → Uniform fresh value starts j → Plain heading (Reached fresh value starts j)
      → ((q : ℕ) → Counts (Reached fresh value starts j) q (get nat_eq last q))
      → (q : ℕ) → Counts (Reached fresh value starts (suc j)) q (get nat_eq next q))
      → Surveyed heading fresh value first (tables ++ next ∷ [])
  more_tables first tables last next k count at s w step = record {
    wells = λ j t e. pushed tables next t j e (Well heading (get nat_eq t)) (s.wells j t) (λ z h. subst (λ x. Well heading (get nat_eq x)) h w);
    levels = λ starts g j t e. pushed tables next t j e ((q : ℕ) → Counts (Reached fresh value starts j) q (get nat_eq t q))
        (s.levels starts g j t)
        (λ z h q. subst (λ i. Counts (Reached fresh value starts i) q (get nat_eq t q)) (sym (z ∙ count))
        (subst (λ x. Counts (Reached fresh value starts (suc k)) q (get nat_eq x q)) h
        (step starts k (uniform fresh value heading first starts g k) (plain fresh value heading first starts g k) (s.levels starts g k last at) q)));
  }
