-- What `find` finds, lists of numbers, and lists of ends that lie in pages of their own.
use Rattle.bbm_rules.proofs.Common.{◌≡◌, ℕ, Bool, true, false, cond, ◌⊎◌, List, [], ◌∷◌, ◌++◌, Option, Some, None}
use Rattle.bbm_rules.proofs.Common.{is_some, find, flat_map, filter_map, refl, sym, ◌∙◌, ap, subst, inl, inr}
use Rattle.bbm_rules.proofs.Common.{true≢false, cons_option, In, in_left, in_right, to_flat, End, pages_of, least}
use Rattle.bbm_lemmas.proofs.Words.{Apart}
use Rattle.bbm_lemmas.proofs.Elements.{to_filter_map}

-- what `find` finds
found_one : {X : Type 0} (test : X → Bool) (x : X) (rest : Option X) (y : X) (b : Bool) → test x ≡ b
    → cond b (Some x) rest ≡ Some y → ((x ≡ y) × (test y ≡ true)) ⊎ (rest ≡ Some y)
found_one test x rest y true t e = let same : x ≡ y = cc in inl (same, sym (ap test same) ∙ t)
found_one test x rest y false t e = inr e

pub found : {X : Type 0} (test : X → Bool) (xs : List X) (y : X) → find test xs ≡ Some y → In xs y × (test y ≡ true)
found test [] y e = cc
found test (x ∷ xs) y e =
    elim (found_one test x (find test xs) y (test x) refl e) [
      | inl here ↦ (inl here.0, here.1)
      | inr there ↦ let r = found test xs y there in (inr r.0, r.1)
    ]

find_here : {X : Type 0} (x : X) (rest : Option X) (b : Bool) → b ≡ true → is_some (cond b (Some x) rest) ≡ true
find_here x rest true e = refl
find_here x rest false e = absurd (true≢false (sym e))

find_there : {X : Type 0} (x : X) (rest : Option X) (b : Bool) → is_some rest ≡ true → is_some (cond b (Some x) rest) ≡ true
find_there x rest true e = refl
find_there x rest false e = e

pub finds : {X : Type 0} (test : X → Bool) (xs : List X) (y : X) → In xs y → test y ≡ true → is_some (find test xs) ≡ true
finds test [] y i k = absurd i
finds test (x ∷ xs) y (inl e) k = find_here x (find test xs) (test x) (ap test e ∙ k)
finds test (x ∷ xs) y (inr i) k = find_there x (find test xs) (test x) (finds test xs y i k)

-- ---- numbers

pub least_none : (ms : List ℕ) → least ms ≡ None → ms ≡ []
least_none [] e = refl
least_none (m ∷ ms) e = cc

pub append_none : {X : Type 0} (xs ys : List X) → xs ++ ys ≡ [] → (xs ≡ []) × (ys ≡ [])
append_none [] ys e = (refl, e)
append_none (x ∷ xs) ys e = cc

-- ---- ends in pages of their own

pub in_pages : (ends : List End) (e : End) → In ends e → In (pages_of ends) e.page
in_pages [] e i = absurd i
in_pages (d ∷ ends) e (inl same) = inl (ap (λ (x : End). x.page) same)
in_pages (d ∷ ends) e (inr i) = inr (in_pages ends e i)

pub from_pages : (ends : List End) (page : ℕ) → In (pages_of ends) page → (e : End) × In ends e × (e.page ≡ page)
from_pages [] page i = absurd i
from_pages (d ∷ ends) page (inl same) = (d, inl refl, same)
from_pages (d ∷ ends) page (inr i) = let r = from_pages ends page i in (r.0, inr r.1, r.2)

-- no end of one list lies in the page of an end of the other
abbrev pub Disjoint : List End → List End → Type 0
Disjoint xs ys = (x y : End) → In xs x → In ys y → x.page ≡ y.page → ⊥

pub record Parted (xs ys : List End) : Type 0 where
  pub first : Apart (pages_of xs)
  pub second : Apart (pages_of ys)
  pub between : Disjoint xs ys

pub parted : (xs ys : List End) → Apart (pages_of (xs ++ ys)) → Parted xs ys
parted [] ys a = record { first = tt; second = a; between = λ x y i j e. absurd i }
parted (z ∷ xs) ys a =
    let r : Parted xs ys = parted xs ys a.1 in
    record {
      first = (
        λ i. let k = from_pages xs z.page i in
            a.0 (subst (λ (page : ℕ). In (pages_of (xs ++ ys)) page) k.2 (in_pages (xs ++ ys) k.0 (in_left xs ys k.0 k.1))),
        r.first,
      );
      second = r.second;
      between = λ x y i j e. by_place x y i j e r.between;
    }
  where
    by_place : (x y : End) → In (z ∷ xs) x → In ys y → x.page ≡ y.page → Disjoint xs ys → ⊥
    by_place x y (inl same) j e rest =
        a.0 (subst (λ (page : ℕ). In (pages_of (xs ++ ys)) page) (sym e ∙ ap (λ (d : End). d.page) (sym same))
        (in_pages (xs ++ ys) y (in_right xs ys y j)))
    by_place x y (inr i) j e rest = rest x y i j e

-- the ends that a list of places gives, each place those of a list of its own
module _ (f : ℕ → Option ℕ) (g : ℕ → List End) where
  pub of_place : (ps : List ℕ) (a x : ℕ) (e : End) → In ps a → f a ≡ Some x → In (g x) e → In (flat_map g (filter_map f ps)) e
  of_place ps a x e i k j = to_flat g (filter_map f ps) x e (to_filter_map f ps a x i k) j

  at_head : (p x : ℕ) (ps : List ℕ) → f p ≡ Some x → flat_map g (filter_map f (p ∷ ps)) ≡ g x ++ flat_map g (filter_map f ps)
  at_head p x ps k = ap (λ (o : Option ℕ). flat_map g (cons_option o (filter_map f ps))) k

  head_parted : (p x : ℕ) (ps : List ℕ) → f p ≡ Some x → Apart (pages_of (flat_map g (filter_map f (p ∷ ps))))
      → Parted (g x) (flat_map g (filter_map f ps))
  head_parted p x ps k a =
      parted (g x) (flat_map g (filter_map f ps))
      (subst (λ (es : List End). Apart (pages_of es)) (at_head p x ps k) a)

  tail_by : (o : Option ℕ) (ps : List ℕ) → Apart (pages_of (flat_map g (cons_option o (filter_map f ps))))
      → Apart (pages_of (flat_map g (filter_map f ps)))
  tail_by None ps a = a
  tail_by (Some x) ps a = (parted (g x) (flat_map g (filter_map f ps)) a).second

  -- the ends of one place are apart
  pub place_apart : (ps : List ℕ) (a x : ℕ) → Apart (pages_of (flat_map g (filter_map f ps))) → In ps a → f a ≡ Some x
      → Apart (pages_of (g x))
  place_apart [] a x h i k = absurd i
  place_apart (p ∷ ps) a x h (inl same) k = (head_parted p x ps (ap f same ∙ k) h).first
  place_apart (p ∷ ps) a x h (inr i) k = place_apart ps a x (tail_by (f p) ps h) i k

  -- two ends in one page are of one place
  pub same_place : (ps : List ℕ) (a b x y : ℕ) (s t : End) → Apart (pages_of (flat_map g (filter_map f ps)))
      → In ps a → In ps b → f a ≡ Some x → f b ≡ Some y → In (g x) s → In (g y) t → s.page ≡ t.page → a ≡ b
  same_place [] a b x y s t h i j k l u v e = absurd i
  same_place (p ∷ ps) a b x y s t h (inl same) (inl same') k l u v e = sym same ∙ same'
  same_place (p ∷ ps) a b x y s t h (inl same) (inr j) k l u v e =
      absurd ((head_parted p x ps (ap f same ∙ k) h).between s t u (of_place ps b y t j l v) e)
  same_place (p ∷ ps) a b x y s t h (inr i) (inl same) k l u v e =
      absurd ((head_parted p y ps (ap f same ∙ l) h).between t s v (of_place ps a x s i k u) (sym e))
  same_place (p ∷ ps) a b x y s t h (inr i) (inr j) k l u v e =
      same_place ps a b x y s t (tail_by (f p) ps h) i j k l u v e
