-- What is due at an event: one claim at most for a place or a tag at a PE.
use Rattle.bbm_certify.proofs.Common.{Known, IsCleansed, IsDue, IsLeast, OneAt, TakenAt, TwoAt, claim_key, less}
use Rattle.bbm_rules.proofs.Common.{◌≡◌, ℕ, false, true, List, [], ◌∷◌, ◌++◌, nat_tests, length, refl, sym, ◌∙◌, ap}
use Rattle.bbm_rules.proofs.Common.{subst, arith, keeps, Claim, Place, Two, Taken, Patterns, noted, ValidWrite}
use Rattle.bbm_rules.proofs.Common.{last_valid, Noted, OneStep, Heading, Event, Tag, El2Tag, Vmid, Asid, Ttbr1Tag, Node}
use Rattle.bbm_rules.proofs.Common.{same_Some}
use Rattle.bbm_certify.specs.LeastClaims.{tag_key}

-- ---- lists of numbers

-- of two lists of one length neither of which is less the one is the other
pub less_neither : (ms ns : List ℕ) → length ms ≡ length ns → less ms ns ≡ false → less ns ms ≡ false → ms ≡ ns
less_neither [] [] size a b = refl
less_neither (m ∷ ms) (n ∷ ns) size a b = grind (arith, nat_tests, less_neither ms ns)
less_neither ms ns size a b = absurd (omega (arith, size))

-- the least list is one
one_least : (Holds : List ℕ → Type 0) (ms ns : List ℕ) → length ms ≡ length ns → IsLeast Holds ms → IsLeast Holds ns → ms ≡ ns
one_least Holds ms ns size a b = less_neither ms ns size (b.least ms a.holds) (a.least ns b.holds)

-- a place and a tag, with the PE, by the key
tag_parts : (g k : Tag) (p r : ℕ) → 1 ∷ (tag_key g ++ p ∷ []) ≡ 1 ∷ (tag_key k ++ r ∷ []) → (p ≡ r) × (g ≡ k)
tag_parts El2Tag El2Tag p r e = ((cc), refl)
tag_parts (Vmid m) (Vmid n) p r e = let same : m ≡ n = cc in ((cc), (cc))
tag_parts (Asid m) (Asid n) p r e = let same : m ≡ n = cc in ((cc), (cc))
tag_parts Ttbr1Tag Ttbr1Tag p r e = ((cc), refl)
tag_parts g k p r e = absurd (cc)

place_parts : (p a p' a' : ℕ) → 0 ∷ a ∷ 0 ∷ p ∷ [] ≡ 0 ∷ a' ∷ 0 ∷ p' ∷ [] → (p ≡ p') × (a ≡ a')
place_parts p a p' a' k = ((cc), (cc))

-- a claim by its place or tag, its PE and its positions
same_place : (p a b t d p' a' b' t' d' : ℕ) → (p ≡ p') × (a ≡ a') → b ∷ t ∷ d ∷ [] ≡ b' ∷ t' ∷ d' ∷ []
    → Place p a b t d ≡ Place p' a' b' t' d'
same_place p a b t d p' a' b' t' d' same numbers = cc

same_two : (p a b t1 d1 t2 d2 p' a' b' t1' d1' t2' d2' : ℕ) → (p ≡ p') × (a ≡ a')
    → b ∷ t1 ∷ d1 ∷ t2 ∷ d2 ∷ [] ≡ b' ∷ t1' ∷ d1' ∷ t2' ∷ d2' ∷ [] → Two p a b t1 d1 t2 d2 ≡ Two p' a' b' t1' d1' t2' d2'
same_two p a b t1 d1 t2 d2 p' a' b' t1' d1' t2' d2' same numbers = cc

same_taken : (p t d p' t' d' : ℕ) (tag tag' : Tag) → (p ≡ p') × (tag ≡ tag') → (t ∷ [] ≡ t' ∷ []) × (d ≡ d')
    → Taken p tag t d ≡ Taken p' tag' t' d'
same_taken p t d p' t' d' tag tag' same numbers = cc

-- every key has four numbers
pub key_size : (c : Claim) → length (claim_key c) ≡ 4
key_size (Place p a b t d) = refl
key_size (Two p a b t1 d1 t2 d2) = refl
key_size (Taken p El2Tag t d) = refl
key_size (Taken p (Vmid n) t d) = refl
key_size (Taken p (Asid n) t d) = refl
key_size (Taken p Ttbr1Tag t d) = refl

-- ---- claims of one event

module _ (heading : Heading) (known : Known heading) (h : List Event) (e : Event) (kept : keeps heading Patterns (e ∷ h) ≡ true) where
  abbrev after : List Noted
  after = noted heading Patterns (e ∷ h)

  -- the last valid write of a place of a tree is one
  one_write : (a p : ℕ) (w v : ValidWrite) → IsCleansed heading after a p w → IsCleansed heading after a p v → w ≡ v
  one_write a p w v k l =
      let same : k.node ≡ l.node
      = known.one_node.at_most_one (e ∷ h) kept k.node l.node k.in_tree l.in_tree (sym k.inside ∙ l.inside) in
      same_Some w v (sym k.is_last ∙ (ap (λ (n : Node). last_valid n.kind n.level a after) same ∙ l.is_last))

  -- a place that is cleansed in one step has no claim of two
  one_and_two : (p a b t d b' t1 d1 t2 d2 : ℕ) → IsDue heading h e (Place p a b t d) → IsDue heading h e (Two p a b' t1 d1 t2 d2) → ⊥
  one_and_two p a b t d b' t1 d1 t2 d2 x y =
      y.1.2 (subst (λ (w : ValidWrite). OneStep heading Patterns a p w.since) (one_write a p x.1.0 y.1.0 x.1.1 y.1.1) x.1.2.holds.0)

  one_place : (p a b t d b' t' d' : ℕ) → IsDue heading h e (Place p a b t d) → IsDue heading h e (Place p a b' t' d')
      → b ∷ t ∷ d ∷ [] ≡ b' ∷ t' ∷ d' ∷ []
  one_place p a b t d b' t' d' x y =
      one_least (OneAt heading a p y.1.0.since) (b ∷ t ∷ d ∷ []) (b' ∷ t' ∷ d' ∷ []) refl
      (subst (λ (w : ValidWrite). IsLeast (OneAt heading a p w.since) (b ∷ t ∷ d ∷ [])) (one_write a p x.1.0 y.1.0 x.1.1 y.1.1) x.1.2)
      y.1.2

  one_two : (p a b t1 d1 t2 d2 b' t1' d1' t2' d2' : ℕ) → IsDue heading h e (Two p a b t1 d1 t2 d2)
      → IsDue heading h e (Two p a b' t1' d1' t2' d2')
      → b ∷ t1 ∷ d1 ∷ t2 ∷ d2 ∷ [] ≡ b' ∷ t1' ∷ d1' ∷ t2' ∷ d2' ∷ []
  one_two p a b t1 d1 t2 d2 b' t1' d1' t2' d2' x y =
      one_least (TwoAt heading a p y.1.0.since) (b ∷ t1 ∷ d1 ∷ t2 ∷ d2 ∷ []) (b' ∷ t1' ∷ d1' ∷ t2' ∷ d2' ∷ []) refl
      (subst (λ (w : ValidWrite). IsLeast (TwoAt heading a p w.since) (b ∷ t1 ∷ d1 ∷ t2 ∷ d2 ∷ []))
      (one_write a p x.1.0 y.1.0 x.1.1 y.1.1) x.1.3) y.1.3

  one_taken : (p t d t' d' : ℕ) (tag : Tag) → IsDue heading h e (Taken p tag t d) → IsDue heading h e (Taken p tag t' d')
      → (t ∷ [] ≡ t' ∷ []) × (d ≡ d')
  one_taken p t d t' d' tag x y =
      (one_least (TakenAt heading p tag (e ∷ h)) (t ∷ []) (t' ∷ []) refl x.4 y.4, x.3 ∙ sym y.3)

  moved : {A : Type 0} (f : ℕ → A → Claim) (p p' : ℕ) (a a' : A) → (p ≡ p') × (a ≡ a') → IsDue heading h e (f p a)
      → IsDue heading h e (f p' a')
  moved {A} f p p' a a' same k =
      subst (λ (x : A). IsDue heading h e (f p' x)) same.1 (subst (λ (n : ℕ). IsDue heading h e (f n a)) same.0 k)

  pub one_due : (c c' : Claim) → IsDue heading h e c → IsDue heading h e c' → claim_key c ≡ claim_key c' → c ≡ c'
  one_due (Place p a b t d) (Place p' a' b' t' d') x x' k =
      let same = place_parts p a p' a' k in
      same_place p a b t d p' a' b' t' d' same
      (one_place p' a' b t d b' t' d' (moved (λ n m. Place n m b t d) p p' a a' same x) x')
  one_due (Place p a b t d) (Two p' a' b' t1 d1 t2 d2) x x' k =
      absurd (one_and_two p' a' b t d b' t1 d1 t2 d2
      (moved (λ n m. Place n m b t d) p p' a a' (place_parts p a p' a' k) x) x')
  one_due (Two p a b t1 d1 t2 d2) (Place p' a' b' t' d') x x' k =
      absurd (one_and_two p a b' t' d' b t1 d1 t2 d2
      (moved (λ n m. Place n m b' t' d') p' p a' a (place_parts p' a' p a (sym k)) x') x)
  one_due (Two p a b t1 d1 t2 d2) (Two p' a' b' t1' d1' t2' d2') x x' k =
      let same = place_parts p a p' a' k in
      same_two p a b t1 d1 t2 d2 p' a' b' t1' d1' t2' d2' same
      (one_two p' a' b t1 d1 t2 d2 b' t1' d1' t2' d2' (moved (λ n m. Two n m b t1 d1 t2 d2) p p' a a' same x) x')
  one_due (Taken p tag t d) (Taken p' tag' t' d') x x' k =
      let same = tag_parts tag tag' p p' k in
      same_taken p t d p' t' d' tag tag' same
      (one_taken p' t d t' d' tag' (moved (λ n g. Taken n g t d) p p' tag tag' same x) x')
  one_due c c' _ _ k = absurd (cc)
