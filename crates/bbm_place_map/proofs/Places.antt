-- Places and their cells.
use Rattle.bbm_place_map.proofs.Common.{◌≡◌, ◌≢◌, ℕ, ◌+◌, ◌-◌, ◌*◌, ◌/◌, ◌%◌, ◌<◌, ◌≤◌, Bool, true, false, nat_eq, ◌==◌}
use Rattle.bbm_place_map.proofs.Common.{Option, Some, None, refl, ap, sym, ◌∙◌, arith, inl, inr, if◌then◌else◌}
use Rattle.bbm_place_map.proofs.Common.{option_map, cases_lt, cases_Bool, eq-eqb, eqb-true, cond-true, cond-false}
use Rattle.bbm_place_map.proofs.Common.{same_Some, none-some, in_page, Numbered, index_of, at_index, put_here, put_away}
use Rattle.bbm_place_map.proofs.Common.{split_at}
use Rattle.bbm_place_map.proofs.Pages.{inside, before, behind}

-- the page's base of a place that has a cell
pub record Found (base : ℕ → Option ℕ) (a j : ℕ) : Type 0 where
  pub aligned : a % 8 ≡ 0
  pub start : ℕ
  pub is : base (a / 4096 * 4096) ≡ Some start
  pub sum : start + a % 4096 / 8 ≡ j

found_at : (base : ℕ → Option ℕ) (a j : ℕ) (t : Bool) (o : Option ℕ) → (a % 8 == 0) ≡ t → base (a / 4096 * 4096) ≡ o
    → (if t then option_map (λ b. b + a % 4096 / 8) o else None) ≡ Some j → Found base a j
found_at base a j true (Some b) is at h = record { aligned = eqb-true (a % 8) 0 is; start = b; is = at; sum = same_Some (b + a % 4096 / 8) j h }
found_at base a j _ _ is at h = absurd (none-some j h)

pub found : (base : ℕ → Option ℕ) (a j : ℕ) → index_of base a ≡ Some j → Found base a j
found base a j h = found_at base a j (a % 8 == 0) (base (a / 4096 * 4096)) refl refl h

pub index_from : (base : ℕ → Option ℕ) (a b : ℕ) → a % 8 ≡ 0 → base (a / 4096 * 4096) ≡ Some b → index_of base a ≡ Some (b + a % 4096 / 8)
index_from base a b aligned is =
    cond-true (a % 8 == 0) (option_map (λ n. n + a % 4096 / 8) (base (a / 4096 * 4096))) None (eq-eqb (a % 8) 0 aligned)
    ∙ ap (option_map (λ n. n + a % 4096 / 8)) is

pub index_none : (base : ℕ → Option ℕ) (a : ℕ) → base (a / 4096 * 4096) ≡ None → index_of base a ≡ None
index_none base a is =
    elim (cases_Bool (a % 8 == 0)) [
      | inl t ↦
          cond-true (a % 8 == 0) (option_map (λ n. n + a % 4096 / 8) (base (a / 4096 * 4096))) None t
          ∙ ap (option_map (λ n. n + a % 4096 / 8)) is
      | inr f ↦ cond-false (a % 8 == 0) (option_map (λ n. n + a % 4096 / 8) (base (a / 4096 * 4096))) None f
    ]

-- a place of a page that has a cell has the one of its number
pub cell_of : (base : ℕ → Option ℕ) (page b a j : ℕ) → base page ≡ Some b → a / 4096 * 4096 ≡ page
    → index_of base a ≡ Some j → b + a % 4096 / 8 ≡ j
cell_of base page b a j is same h =
    let w = found base a j h in
    let start : w.start ≡ b = same_Some w.start b (sym w.is ∙ ap base same ∙ is) in
    let sum : w.start + a % 4096 / 8 ≡ j = w.sum in
    omega arith

same_address : (a a' : ℕ) → a / 4096 * 4096 ≡ a' / 4096 * 4096 → a % 8 ≡ 0 → a' % 8 ≡ 0 → a % 4096 / 8 ≡ a' % 4096 / 8 → a ≡ a'
same_address a a' page aligned aligned' same = omega arith

-- the places of a page from its first one on
pub page_at : (page i : ℕ) → page % 4096 ≡ 0 → i < 512 → (page + 8 * i) / 4096 * 4096 ≡ page
page_at page i first below = omega (arith, first, below)

pub eighth_at : (page i : ℕ) → page % 4096 ≡ 0 → (page + 8 * i) % 8 ≡ 0
eighth_at page i first = omega (arith, first)

pub number_at : (page i : ℕ) → page % 4096 ≡ 0 → i < 512 → (page + 8 * i) % 4096 / 8 ≡ i
number_at page i first below = omega (arith, first, below)

whole : (page : ℕ) → page % 4096 ≡ 0 → page / 4096 * 4096 ≡ page
whole page first = omega (arith, first)

none_before : (page : ℕ) → page % 4096 ≡ 0 → page % 4096 / 8 ≡ 0
none_before page first = omega (arith, first)

module _ (base : ℕ → Option ℕ) (count : ℕ) (numbered : Numbered base count) where
  -- the places of a page have the cells from that of its first place on
  page_start : (page j : ℕ) → index_of base page ≡ Some j → page % 4096 ≡ 0 → base page ≡ Some j
  page_start page j h first =
      let f = found base page j h in
      let sum : f.start + page % 4096 / 8 ≡ j = f.sum in
      let start : f.start ≡ j = omega (arith, sum, none_before page first) in
      sym (ap base (whole page first)) ∙ f.is ∙ ap (λ (n : ℕ). Some n) start

  pub page_inside : (page j i : ℕ) → index_of base page ≡ Some j → page % 4096 ≡ 0 → i < 512 → j + i < count
  page_inside page j i h first below =
      let in' : j + 512 ≤ count = numbered.within page j (page_start page j h first) in
      omega arith

  pub index_behind : (page j i : ℕ) → index_of base page ≡ Some j → page % 4096 ≡ 0 → i < 512
      → index_of base (page + 8 * i) ≡ Some (j + i)
  index_behind page j i h first below =
      index_from base (page + 8 * i) j (eighth_at page i first)
      (ap base (page_at page i first below) ∙ page_start page j h first)
      ∙ ap (λ (n : ℕ). Some (j + n)) (number_at page i first below)

  -- two bases with a cell in common are one, and of one page
  pub one_page : (p q b c m n : ℕ) → base p ≡ Some b → base q ≡ Some c → m < 512 → n < 512 → b + m ≡ c + n → p ≡ q
  one_page p q b c m n is is' low low' same =
      elim (cases_lt c b) [
        | inl more ↦ sym (numbered.apart q p c b is' is (omega arith) (omega arith))
        | inr less ↦ numbered.apart p q b c is is' less (omega arith)
      ]

  pub index_once : (a a' j : ℕ) → index_of base a ≡ Some j → index_of base a' ≡ Some j → a ≡ a'
  index_once a a' j h h' =
      let f = found base a j h in
      let g = found base a' j h' in
      let page : a / 4096 * 4096 ≡ a' / 4096 * 4096
      = one_page (a / 4096 * 4096) (a' / 4096 * 4096) f.start g.start (a % 4096 / 8) (a' % 4096 / 8) f.is g.is
      (omega arith) (omega arith) (f.sum ∙ sym g.sum) in
      let start : f.start ≡ g.start = same_Some f.start g.start (sym f.is ∙ ap base page ∙ g.is) in
      same_address a a' page f.aligned g.aligned (let sum : f.start + a % 4096 / 8 ≡ j = f.sum in let sum' : g.start + a' % 4096 / 8 ≡ j = g.sum in omega arith)

  elsewhere : {X : Type 0} (d v : X) (f g : ℕ → X) (place j : ℕ) → index_of base place ≡ Some j
      → ((i : ℕ) → g i ≡ (if nat_eq i j then v else f i)) → (a : ℕ) → a ≢ place
      → (o : Option ℕ) → index_of base a ≡ o → at_index d g o ≡ at_index d f o
  elsewhere d v f g place j here new a other None h = refl
  elsewhere d v f g place j here new a other (Some i) h =
      put_away _ _ new i (λ same. other (index_once a place j (h ∙ ap (λ (n : ℕ). Some n) same) here))

  -- a cell changes: so does its place
  pub at_place : {X : Type 0} (d v : X) (f g : ℕ → X) (place j : ℕ) → index_of base place ≡ Some j
      → ((i : ℕ) → g i ≡ (if nat_eq i j then v else f i))
      → (a : ℕ) → at_index d g (index_of base a) ≡ (if nat_eq a place then v else at_index d f (index_of base a))
  at_place d v f g place j here new a =
      split_at a place (λ same. ap (at_index d g) (ap (index_of base) same ∙ here) ∙ put_here _ _ new j refl)
      (λ other. elsewhere d v f g place j here new a other (index_of base a) refl)

  within_page : {X : Type 0} (d : X) (f g : ℕ → X) (page b : ℕ) → base page ≡ Some b
      → ((i : ℕ) → g i ≡ (if in_page b 512 i then d else f i)) → (a : ℕ) → a / 4096 * 4096 ≡ page
      → (o : Option ℕ) → index_of base a ≡ o → at_index d g o ≡ d
  within_page d f g page b is new a same None h = refl
  within_page d f g page b is new a same (Some i) h =
      let sum : b + a % 4096 / 8 ≡ i = cell_of base page b a i is same h in
      let below : a % 4096 / 8 < 512 = omega arith in
      new i ∙ cond-true (in_page b 512 i) d (f i) (inside b 512 i (omega arith) (omega arith))

  not_in_page : (page b a i : ℕ) → base page ≡ Some b → a / 4096 * 4096 ≢ page → index_of base a ≡ Some i → in_page b 512 i ≡ false
  not_in_page page b a i is other h =
      let w = found base a i h in
      let sum : w.start + a % 4096 / 8 ≡ i = w.sum in
      let below : a % 4096 / 8 < 512 = omega arith in
      elim (cases_lt i b) [
        | inl low ↦ before b 512 i low
        | inr at ↦
            elim (cases_lt i (b + 512)) [
              | inr past ↦ behind b 512 i past
              | inl in' ↦
                  absurd (other (one_page (a / 4096 * 4096) page w.start b (a % 4096 / 8) (i - b) w.is is below (omega arith) (omega arith)))
            ]
      ]

  out_of_page : {X : Type 0} (d : X) (f g : ℕ → X) (page b : ℕ) → base page ≡ Some b
      → ((i : ℕ) → g i ≡ (if in_page b 512 i then d else f i)) → (a : ℕ) → a / 4096 * 4096 ≢ page
      → (o : Option ℕ) → index_of base a ≡ o → at_index d g o ≡ at_index d f o
  out_of_page d f g page b is new a other None h = refl
  out_of_page d f g page b is new a other (Some i) h =
      new i ∙ cond-false (in_page b 512 i) d (f i) (not_in_page page b a i is other h)

  -- the cells of a page change: so do its places
  pub at_page : {X : Type 0} (d : X) (f g : ℕ → X) (page b : ℕ) → base page ≡ Some b
      → ((i : ℕ) → g i ≡ (if in_page b 512 i then d else f i))
      → (a : ℕ) → at_index d g (index_of base a) ≡ (if nat_eq (a / 4096 * 4096) page then d else at_index d f (index_of base a))
  at_page d f g page b is new a =
      split_at (a / 4096 * 4096) page (λ same. within_page d f g page b is new a same (index_of base a) refl)
      (λ other. out_of_page d f g page b is new a other (index_of base a) refl)

pub at_same : {X : Type 0} (d : X) (f g : ℕ → X) → ((i : ℕ) → g i ≡ f i) → (o : Option ℕ) → at_index d g o ≡ at_index d f o
at_same d f g same None = refl
at_same d f g same (Some j) = same j
