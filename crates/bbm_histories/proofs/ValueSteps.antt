-- The root of a page, and the readable values of a place, after an event.
use Rattle.bbm_histories.proofs.Common.{and-false, and-true, or-false, Heading, Kind}
use Rattle.bbm_rules.proofs.Common.{option_map_or, ◌≡◌, ℕ, ◌&&◌, ◌||◌, not, Bool, true, false, cond, ◌==◌, List, []}
use Rattle.bbm_rules.proofs.Common.{◌∷◌, Option, Some, None, find, map, refl, sym, ◌∙◌, ap, true≢false, eq-eqb}
use Rattle.bbm_rules.proofs.Common.{eqb-true, Barrier, Event, Init, Root, Unroot, Write, Dsb, any, page_of, Declared}
use Rattle.bbm_rules.proofs.Common.{is_at, is_root, retired, root_at, roots_of, same_kind, published, publishes_to}
use Rattle.bbm_rules.proofs.Common.{readable_before}
use Rattle.bbm_histories.specs.ValueSteps.{Written, first_zero, is_by, is_root_after, readable_writes, root_after}
use Rattle.bbm_histories.specs.ValueSteps.{up_to}
use Rattle.bbm_lemmas.proofs.Tests.{any_filter, any_never, any_same}

-- ---- roots

find_retired : (page at : ℕ) (rs : List Declared)
    → find (is_at page) (retired at rs) ≡ cond (at == page) None (find (is_at page) rs)
find_retired page at [] = by (at == page)
  where
    by : (c : Bool) → find (is_at page) [] ≡ cond c None (find (is_at page) [])
    by true = refl
    by false = refl
find_retired page at (r ∷ rs) = by (r.page == at) (at == page) (r.page == page) refl refl refl (find_retired page at rs)
  where
    by : (a b c : Bool) → (r.page == at) ≡ a → (at == page) ≡ b → (r.page == page) ≡ c
        → find (is_at page) (retired at rs) ≡ cond (at == page) None (find (is_at page) rs)
        → find (is_at page) (cond (not a) (r ∷ retired at rs) (retired at rs)) ≡ cond b None (cond c (Some r) (find (is_at page) rs))
    by true true c k l m rest = rest ∙ ap (λ (x : Bool). cond x None (find (is_at page) rs)) l
    by true false true k l m rest =
        absurd (true≢false (sym (eq-eqb at page (sym (eqb-true r.page at k) ∙ eqb-true r.page page m)) ∙ l))
    by true false false k l m rest = rest ∙ ap (λ (x : Bool). cond x None (find (is_at page) rs)) l
    by false true true k l m rest =
        absurd (true≢false (sym (eq-eqb r.page at (eqb-true r.page page m ∙ sym (eqb-true at page l))) ∙ k))
    by false true false k l m rest =
        ap (λ (x : Bool). cond x (Some r) (find (is_at page) (retired at rs))) m
        ∙ (rest ∙ ap (λ (x : Bool). cond x None (find (is_at page) rs)) l)
    by false false c k l m rest =
        ap (λ (x : Bool). cond x (Some r) (find (is_at page) (retired at rs))) m
        ∙ ap (λ (o : Option Declared). cond c (Some r) o) (rest ∙ ap (λ (x : Bool). cond x None (find (is_at page) rs)) l)

pub root_step : (e : Event) (h : List Event) (page : ℕ) → root_at (e ∷ h) page ≡ root_after page e (root_at h page)
root_step (Root pe kind lock at) h page =
    by (at == page) refl
  where
    by : (c : Bool) → (at == page) ≡ c
        → cond c (Some (record { page = at; kind = kind; lock = lock })) (find (is_at page) (retired at (roots_of h)))
        ≡ cond c (Some (record { page = at; kind = kind; lock = lock })) (root_at h page)
    by true k = refl
    by false k = find_retired page at (roots_of h) ∙ ap (λ (x : Bool). cond x None (root_at h page)) k
root_step (Unroot pe at) h page = find_retired page at (roots_of h)
root_step e h page = refl

module _ (kind : Kind) (page : ℕ) where
  abbrev is_one : Declared → Bool
  is_one r = is_at page r && same_kind r.kind kind

  any_retired : (at : ℕ) (rs : List Declared) → any is_one (retired at rs) ≡ cond (at == page) false (any is_one rs)
  any_retired at rs =
      any_filter is_one (λ (r : Declared). not (is_at at r)) rs ∙ by (at == page) refl
    where
      by : (c : Bool) → (at == page) ≡ c → any (λ (r : Declared). not (is_at at r) && is_one r) rs ≡ cond c false (any is_one rs)
      by true k = any_same (λ (r : Declared). not (is_at at r) && is_one r) (λ r. false) rs
          (λ r. go r (r.page == at) (r.page == page) refl refl) ∙ any_never rs
        where
          go : (r : Declared) (a b : Bool) → (r.page == at) ≡ a → (r.page == page) ≡ b → (not a && (b && same_kind r.kind kind)) ≡ false
          go r true b l m = refl
          go r false false l m = refl
          go r false true l m =
              absurd (true≢false (sym (eq-eqb r.page at (eqb-true r.page page m ∙ sym (eqb-true at page k))) ∙ l))
      by false k = any_same (λ (r : Declared). not (is_at at r) && is_one r) is_one rs
          (λ r. go r (r.page == at) (r.page == page) refl refl)
        where
          go : (r : Declared) (a b : Bool) → (r.page == at) ≡ a → (r.page == page) ≡ b
              → (not a && (b && same_kind r.kind kind)) ≡ (b && same_kind r.kind kind)
          go r false b l m = refl
          go r true false l m = refl
          go r true true l m =
              absurd (true≢false (sym (eq-eqb at page (sym (eqb-true r.page at l) ∙ eqb-true r.page page m)) ∙ k))

  pub is_root_step : (e : Event) (h : List Event) → is_root (e ∷ h) kind page ≡ is_root_after kind page e (is_root h kind page)
  is_root_step (Root pe other lock at) h = by (at == page) refl
    where
      by : (c : Bool) → (at == page) ≡ c → ((c && same_kind other kind) || any is_one (retired at (roots_of h)))
          ≡ cond c (same_kind other kind) (is_root h kind page)
      by true k =
          ap (λ (b : Bool). same_kind other kind || b)
          (any_retired at (roots_of h) ∙ ap (λ (b : Bool). cond b false (is_root h kind page)) k) ∙ or-false (same_kind other kind)
      by false k = any_retired at (roots_of h) ∙ ap (λ (b : Bool). cond b false (is_root h kind page)) k
  is_root_step (Unroot pe at) h = any_retired at (roots_of h)
  is_root_step e h = refl

-- ---- readable values

module _ (heading : Heading) (place p : ℕ) where
  -- a later DSB published the value
  abbrev is_out : List Event → Written → Bool
  is_out later w = option_map_or (λ q. published heading q p later) w.by false

  -- what stays readable after these later events
  abbrev cut : List Event → List Written → List Written
  cut later [] = []
  cut later (w ∷ ws) = w ∷ cond (is_out later w) [] (cut later ws)

  abbrev AsPublished : List Event → List Event → Type 0
  AsPublished later other = (q : ℕ) → published heading q p later ≡ published heading q p other

  same_out : (later other : List Event) → AsPublished later other → (o : Option ℕ)
      → option_map_or (λ q. published heading q p later) o false ≡ option_map_or (λ q. published heading q p other) o false
  same_out later other same None = refl
  same_out later other same (Some q) = same q

  cut_same : (later other : List Event) → AsPublished later other → (ws : List Written) → cut later ws ≡ cut other ws
  cut_same later other same [] = refl
  cut_same later other same (w ∷ ws) =
      ap (λ (c : Bool). w ∷ cond c [] (cut later ws)) (same_out later other same w.by)
      ∙ ap (λ (xs : List Written). w ∷ cond (is_out other w) [] xs) (cut_same later other same ws)

  cut_none : (ws : List Written) → cut [] ws ≡ ws
  cut_none [] = refl
  cut_none (w ∷ ws) =
      ap (λ (c : Bool). w ∷ cond c [] (cut [] ws)) (by w.by) ∙ ap (λ (xs : List Written). w ∷ xs) (cut_none ws)
    where
      by : (o : Option ℕ) → option_map_or (λ q. published heading q p []) o false ≡ false
      by None = refl
      by (Some q) = refl

  -- a DSB that publishes to p
  out_after : (q : ℕ) (dsb : Barrier) (later : List Event) → publishes_to heading dsb q p ≡ true → (o : Option ℕ)
      → option_map_or (λ r. published heading r p (Dsb q dsb ∷ later)) o false
      ≡ (option_map_or (λ r. q == r) o false || option_map_or (λ r. published heading r p later) o false)
  out_after q dsb later k None = refl
  out_after q dsb later k (Some r) =
      ap (λ (c : Bool). (q == r && c) || published heading r p later) k
      ∙ ap (λ (c : Bool). c || published heading r p later) (and-true (q == r))

  cut_up : (q : ℕ) (dsb : Barrier) (later : List Event) → publishes_to heading dsb q p ≡ true → (ws : List Written)
      → cut (Dsb q dsb ∷ later) ws ≡ cut later (up_to q ws)
  cut_up q dsb later k [] = refl
  cut_up q dsb later k (w ∷ ws) =
      ap (λ (c : Bool). w ∷ cond c [] (cut (Dsb q dsb ∷ later) ws)) (out_after q dsb later k w.by)
      ∙ ap (λ (xs : List Written). w ∷ xs) (go (is_by q w) (is_out later w) (cut_up q dsb later k ws))
    where
      go : (c o : Bool) → cut (Dsb q dsb ∷ later) ws ≡ cut later (up_to q ws)
          → cond (c || o) [] (cut (Dsb q dsb ∷ later) ws) ≡ cond o [] (cut later (cond c [] (up_to q ws)))
      go true true rest = refl
      go true false rest = refl
      go false true rest = refl
      go false false rest = rest

  cut_dsb : (q : ℕ) (dsb : Barrier) (later : List Event) (ws : List Written)
      → cut (Dsb q dsb ∷ later) ws ≡ cut later (cond (publishes_to heading dsb q p) (up_to q ws) ws)
  cut_dsb q dsb later ws = by (publishes_to heading dsb q p) refl
    where
      by : (c : Bool) → publishes_to heading dsb q p ≡ c → cut (Dsb q dsb ∷ later) ws ≡ cut later (cond c (up_to q ws) ws)
      by true k = cut_up q dsb later k ws
      by false k = cut_same (Dsb q dsb ∷ later) later (λ r. ap (λ (c : Bool). (q == r && c) || published heading r p later) k
          ∙ ap (λ (c : Bool). c || published heading r p later) (and-false (q == r))) ws

  abbrev values_of : List Written → List ℕ
  values_of ws = map (λ w. w.value) ws

  readable_cut : (later h : List Event)
      → readable_before heading later h place p ≡ values_of (cut later (readable_writes heading place p h))
  readable_cut later [] = refl
  readable_cut later (Write q at value ∷ h) =
      by (at == place) (readable_cut (Write q at value ∷ later) h
      ∙ ap values_of (cut_same (Write q at value ∷ later) later (λ r. refl) (readable_writes heading place p h)))
    where
      by : (c : Bool) → readable_before heading (Write q at value ∷ later) h place p ≡ values_of (cut later (readable_writes heading place p h))
          → cond c (value ∷ cond (published heading q p later) [] (readable_before heading (Write q at value ∷ later) h place p))
          (readable_before heading (Write q at value ∷ later) h place p)
          ≡ values_of (cut later (cond c (record { by = Some q; value = value } ∷ readable_writes heading place p h) (readable_writes heading place p h)))
      by false rest = rest
      by true rest = go (published heading q p later)
        where
          go : (o : Bool) → value ∷ cond o [] (readable_before heading (Write q at value ∷ later) h place p)
              ≡ value ∷ values_of (cond o [] (cut later (readable_writes heading place p h)))
          go true = refl
          go false = ap (λ (vs : List ℕ). value ∷ vs) rest
  readable_cut later (Init q page ∷ h) =
      by (page == page_of place) (readable_cut (Init q page ∷ later) h
      ∙ ap values_of (cut_same (Init q page ∷ later) later (λ r. refl) (readable_writes heading place p h)))
    where
      by : (c : Bool) → readable_before heading (Init q page ∷ later) h place p ≡ values_of (cut later (readable_writes heading place p h))
          → cond c (0 ∷ []) (readable_before heading (Init q page ∷ later) h place p)
          ≡ values_of (cut later (cond c (first_zero ∷ []) (readable_writes heading place p h)))
      by true rest = refl
      by false rest = rest
  readable_cut later (Dsb q dsb ∷ h) =
      readable_cut (Dsb q dsb ∷ later) h ∙ ap values_of (cut_dsb q dsb later (readable_writes heading place p h))
  readable_cut later (e ∷ h) =
      readable_cut (e ∷ later) h ∙ ap values_of (cut_same (e ∷ later) later (λ r. refl) (readable_writes heading place p h))

  pub readable_step : (h : List Event)
      → readable_before heading [] h place p ≡ values_of (readable_writes heading place p h)
  readable_step h = readable_cut [] h ∙ ap values_of (cut_none (readable_writes heading place p h))
