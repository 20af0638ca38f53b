-- Pages in which two ends of a list lie.
use Rattle.bbm_rules.proofs.Common.{◌≡◌, ℕ, ◌⊎◌, Bool, true, false, cond, ◌==◌, List, [], ◌∷◌, ◌++◌, Option, Some, None}
use Rattle.bbm_rules.proofs.Common.{flat_map, filter_map, refl, sym, ◌∙◌, ap, subst, inl, inr, true≢false, In}
use Rattle.bbm_rules.proofs.Common.{in_append, in_left, in_right, Event, Write, End, pages_of, among, repeated, page_of}
use Rattle.bbm_rules.proofs.Common.{places_in, written_places}
use Rattle.bbm_lemmas.proofs.Words.{Apart, among_in, in_among, filter_apart, with_apart}
use Rattle.bbm_lemmas.proofs.Elements.{from_flat}
use Rattle.bbm_rules.proofs.ListLemmas.{in_pages, from_pages}

-- some end lies in the page; and two of them do
pub record InPage (page : ℕ) (ends : List End) : Type 0 where
  pub end : End
  pub there : In ends end
  pub lies : end.page ≡ page

abbrev pub Twice : ℕ → List End → Type 0
Twice page [] = ⊥
Twice page (e ∷ ends) = ((e.page ≡ page) × InPage page ends) ⊎ Twice page ends

-- ---- repeated

repeated_twice : (page : ℕ) (ends : List End) → In (repeated (pages_of ends)) page → Twice page ends
repeated_twice page [] i = absurd i
repeated_twice page (e ∷ ends) i = by (among e.page (pages_of ends)) refl i (repeated_twice page ends)
  where
    by : (c : Bool) → among e.page (pages_of ends) ≡ c
        → In (cond c (e.page ∷ repeated (pages_of ends)) (repeated (pages_of ends))) page
        → (In (repeated (pages_of ends)) page → Twice page ends) → Twice page (e ∷ ends)
    by true k (inl same) rest =
        let f = from_pages ends e.page (in_among e.page (pages_of ends) k) in
        inl (same, record { end = f.0; there = f.1; lies = f.2 ∙ same })
    by true k (inr i) rest = inr (rest i)
    by false k i rest = inr (rest i)

twice_repeated : (page : ℕ) (ends : List End) → Twice page ends → In (repeated (pages_of ends)) page
twice_repeated page [] t = absurd t
twice_repeated page (e ∷ ends) (inl t) = by (among e.page (pages_of ends)) refl
  where
    by : (c : Bool) → among e.page (pages_of ends) ≡ c
        → In (cond c (e.page ∷ repeated (pages_of ends)) (repeated (pages_of ends))) page
    by true k = inl t.0
    by false k =
        let p : InPage page ends = t.1 in
        absurd (true≢false (sym (among_in e.page (pages_of ends)
        (subst (λ (x : ℕ). In (pages_of ends) x) (p.lies ∙ sym t.0) (in_pages ends p.end p.there))) ∙ k))
twice_repeated page (e ∷ ends) (inr t) = by (among e.page (pages_of ends)) (twice_repeated page ends t)
  where
    by : (c : Bool) → In (repeated (pages_of ends)) page
        → In (cond c (e.page ∷ repeated (pages_of ends)) (repeated (pages_of ends))) page
    by true i = inr i
    by false i = i

pub from_repeated : (page : ℕ) (ends : List End) → among page (repeated (pages_of ends)) ≡ true → Twice page ends
from_repeated page ends k = repeated_twice page ends (in_among page (repeated (pages_of ends)) k)

pub to_repeated : (page : ℕ) (ends : List End) → Twice page ends → among page (repeated (pages_of ends)) ≡ true
to_repeated page ends t = among_in page (repeated (pages_of ends)) (twice_repeated page ends t)

-- ---- two lists

pub page_left : (page : ℕ) (xs ys : List End) → InPage page xs → InPage page (xs ++ ys)
page_left page xs ys p = record { end = p.end; there = in_left xs ys p.end p.there; lies = p.lies }

pub page_right : (page : ℕ) (xs ys : List End) → InPage page ys → InPage page (xs ++ ys)
page_right page xs ys p = record { end = p.end; there = in_right xs ys p.end p.there; lies = p.lies }

page_append : (page : ℕ) (xs ys : List End) → InPage page (xs ++ ys) → InPage page xs ⊎ InPage page ys
page_append page xs ys p =
    elim (in_append xs ys p.end p.there) [
      | inl i ↦ inl (record { end = p.end; there = i; lies = p.lies })
      | inr i ↦ inr (record { end = p.end; there = i; lies = p.lies })
    ]

-- both in one of the lists, or one in each
pub data Parts (page : ℕ) (xs ys : List End) : Type 0 where
  left : Twice page xs → Parts page xs ys
  right : Twice page ys → Parts page xs ys
  each : InPage page xs → InPage page ys → Parts page xs ys

pub twice_parts : (page : ℕ) (xs ys : List End) → Twice page (xs ++ ys) → Parts page xs ys
twice_parts page [] ys t = Parts.right t
twice_parts page (x ∷ xs) ys (inl t) =
    elim (page_append page xs ys t.1) [
      | inl p ↦ Parts.left (inl (t.0, p))
      | inr p ↦ Parts.each (record { end = x; there = inl refl; lies = t.0 }) p
    ]
twice_parts page (x ∷ xs) ys (inr t) =
    elim (twice_parts page xs ys t) [
      | Parts.left k ↦ Parts.left (inr k)
      | Parts.right k ↦ Parts.right k
      | Parts.each p r ↦ Parts.each (record { end = p.end; there = inr p.there; lies = p.lies }) r
    ]

pub twice_left : (page : ℕ) (xs ys : List End) → Twice page xs → Twice page (xs ++ ys)
twice_left page [] ys t = absurd t
twice_left page (x ∷ xs) ys (inl t) = inl (t.0, page_left page xs ys t.1)
twice_left page (x ∷ xs) ys (inr t) = inr (twice_left page xs ys t)

pub twice_right : (page : ℕ) (xs ys : List End) → Twice page ys → Twice page (xs ++ ys)
twice_right page [] ys t = t
twice_right page (x ∷ xs) ys t = inr (twice_right page xs ys t)

pub twice_each : (page : ℕ) (xs ys : List End) → InPage page xs → InPage page ys → Twice page (xs ++ ys)
twice_each page xs ys p r = by xs p.end p.there p.lies
  where
    by : (xs : List End) (e : End) → In xs e → e.page ≡ page → Twice page (xs ++ ys)
    by [] e i lies = absurd i
    by (x ∷ xs) e (inl same) lies = inl (ap (λ (y : End). y.page) same ∙ lies, page_right page xs ys r)
    by (x ∷ xs) e (inr i) lies = inr (by xs e i lies)

-- ---- a list of lists, each of a number; the numbers are different ones

pub record OfOne (page : ℕ) (k : ℕ → List End) (ns : List ℕ) : Type 0 where
  pub n : ℕ
  pub there : In ns n
  pub twice : Twice page (k n)

pub record OfTwo (page : ℕ) (k : ℕ → List End) (ns : List ℕ) : Type 0 where
  pub n : ℕ
  pub m : ℕ
  pub n_there : In ns n
  pub m_there : In ns m
  pub apart : n ≡ m → ⊥
  pub n_in : InPage page (k n)
  pub m_in : InPage page (k m)

module _ (page : ℕ) (k : ℕ → List End) where
  of_page : (ns : List ℕ) → InPage page (flat_map k ns) → (n : ℕ) × In ns n × InPage page (k n)
  of_page ns p =
      let f = from_flat k ns p.end p.there in (f.0, f.1, record { end = p.end; there = f.2; lies = p.lies })

  pub to_page : (ns : List ℕ) (n : ℕ) → In ns n → InPage page (k n) → InPage page (flat_map k ns)
  to_page [] n i p = absurd i
  to_page (m ∷ ns) n (inl same) p =
      page_left page (k m) (flat_map k ns) (subst (λ (x : ℕ). InPage page (k x)) (sym same) p)
  to_page (m ∷ ns) n (inr i) p = page_right page (k m) (flat_map k ns) (to_page ns n i p)

  pub of_flat : (ns : List ℕ) → Apart ns → Twice page (flat_map k ns) → OfOne page k ns ⊎ OfTwo page k ns
  of_flat [] a t = absurd t
  of_flat (n ∷ ns) a t =
      elim (twice_parts page (k n) (flat_map k ns) t) [
        | Parts.left s ↦ inl (record { n = n; there = inl refl; twice = s })
        | Parts.right s ↦ elim (of_flat ns a.1 s) [
          | inl o ↦ inl (record { n = o.n; there = inr o.there; twice = o.twice })
          | inr o ↦ inr (record {
            n = o.n;
            m = o.m;
            n_there = inr o.n_there;
            m_there = inr o.m_there;
            apart = o.apart;
            n_in = o.n_in;
            m_in = o.m_in;
          })
        ]
        | Parts.each p r ↦
            let f = of_page ns r in
            inr (record {
              n = n;
              m = f.0;
              n_there = inl refl;
              m_there = inr f.1;
              apart = λ same. a.0 (subst (λ (x : ℕ). In ns x) (sym same) f.1);
              n_in = p;
              m_in = f.2;
            })
      ]

  pub of_one : (ns : List ℕ) (n : ℕ) → In ns n → Twice page (k n) → Twice page (flat_map k ns)
  of_one [] n i t = absurd i
  of_one (m ∷ ns) n (inl same) t =
      twice_left page (k m) (flat_map k ns) (subst (λ (x : ℕ). Twice page (k x)) (sym same) t)
  of_one (m ∷ ns) n (inr i) t = twice_right page (k m) (flat_map k ns) (of_one ns n i t)

  pub of_two : (ns : List ℕ) (n m : ℕ) → In ns n → In ns m → (n ≡ m → ⊥) → InPage page (k n) → InPage page (k m)
      → Twice page (flat_map k ns)
  of_two [] n m i j apart p r = absurd i
  of_two (x ∷ ns) n m (inl same) (inl same') apart p r = absurd (apart (sym same ∙ same'))
  of_two (x ∷ ns) n m (inl same) (inr j) apart p r =
      twice_each page (k x) (flat_map k ns) (subst (λ (y : ℕ). InPage page (k y)) (sym same) p) (to_page ns m j r)
  of_two (x ∷ ns) n m (inr i) (inl same) apart p r =
      twice_each page (k x) (flat_map k ns) (subst (λ (y : ℕ). InPage page (k y)) (sym same) r) (to_page ns n i p)
  of_two (x ∷ ns) n m (inr i) (inr j) apart p r =
      twice_right page (k x) (flat_map k ns) (of_two ns n m i j apart p r)

-- ---- the ends of places that may have none

abbrev pub via : (ℕ → List End) → Option ℕ → List End
via g None = []
via g (Some x) = g x

pub flat_via : (f : ℕ → Option ℕ) (g : ℕ → List End) (ps : List ℕ)
    → flat_map g (filter_map f ps) ≡ flat_map (λ p. via g (f p)) ps
flat_via f g [] = refl
flat_via f g (p ∷ ps) = by (f p) refl (flat_via f g ps)
  where
    by : (o : Option ℕ) → f p ≡ o → flat_map g (filter_map f ps) ≡ flat_map (λ p. via g (f p)) ps
        → flat_map g (filter_map f (p ∷ ps)) ≡ via g (f p) ++ flat_map (λ p. via g (f p)) ps
    by None k rest = rw (k) (rest)
    by (Some x) k rest = rw (k) (ap (λ (es : List End). g x ++ es) rest)

-- ---- different numbers

pub apart_written : (h : List Event) → Apart (written_places h)
apart_written [] = tt
apart_written (Write pe at value ∷ h) = with_apart at (written_places h) (apart_written h)
apart_written (e ∷ h) = apart_written h

pub apart_places : (h : List Event) (page : ℕ) → Apart (places_in h page)
apart_places h page = filter_apart (λ place. page_of place == page) (written_places h) (apart_written h)
