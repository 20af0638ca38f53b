-- Numbers of values, and the cells that they have.
use Rattle.bbm_place_map.proofs.Common.{◌≡◌, ℕ, ◌+◌, ◌-◌, ◌/◌, ◌%◌, ◌<◌, ◌≤◌, Bool, true, nat_eq, List, Option, Some}
use Rattle.bbm_place_map.proofs.Common.{None}
use Rattle.bbm_place_map.proofs.Common.{refl, ap, sym, ◌∙◌, arith, inl, inr, if◌then◌else◌, option_map, cases_eq}
use Rattle.bbm_place_map.proofs.Common.{cases_lt, eq-eqb, eqb-true}
use Rattle.bbm_place_map.proofs.Common.{ne_eqb, same_Some, none-some, cell_by, in_page, slot_in, Numbered, at_index}
use Rattle.bbm_place_map.proofs.Common.{split_by}
use Rattle.bbm_place_map.proofs.Pages.{inside, before, behind}
use Rattle.bbm_place_map.proofs.Places.{one_page}

-- what is kept of each key changes as what is kept of its cell does, where the cells that change are those of the keys that do
through : {X : Type 0} (key : ℕ → Option ℕ) (d v : X) (f g : ℕ → X) (these those : ℕ → Bool)
    → ((i : ℕ) → g i ≡ (if those i then v else f i)) → ((j c : ℕ) → key j ≡ Some c → those c ≡ these j)
    → ((j : ℕ) → key j ≡ None → these j ≡ true → d ≡ v) → (j : ℕ) → (o : Option ℕ) → key j ≡ o
    → at_index d g o ≡ (if these j then v else at_index d f o)
through key d v f g these those is same none j None at = split_by (these j) (λ t. none j at t) (λ _. refl)
through key d v f g these those is same none j (Some c) at = is c ∙ ap (λ (b : Bool). if b then v else f c) (same j c at)

-- the cell of one key changes
pub put_through : {X : Type 0} (key : ℕ → Option ℕ) (d v : X) (f g : ℕ → X) (x c : ℕ) → key x ≡ Some c
    → ((y : ℕ) → key y ≡ Some c → y ≡ x) → ((i : ℕ) → g i ≡ (if nat_eq i c then v else f i)) → (y : ℕ)
    → at_index d g (key y) ≡ (if nat_eq y x then v else at_index d f (key y))
put_through key d v f g x c here once is y =
    through key d v f g (λ j. nat_eq j x) (λ i. nat_eq i c) is
    (λ j i at.
    elim (cases_eq j x) [
      | inl same ↦ eq-eqb i c (same_Some i c (sym at ∙ ap key same ∙ here)) ∙ sym (eq-eqb j x same)
      | inr other ↦ ne_eqb i c (λ is'. other (once j (at ∙ ap (λ (n : ℕ). Some n) is'))) ∙ sym (ne_eqb j x other)
    ])
    (λ j at t. absurd (none-some c (sym at ∙ ap key (eqb-true j x t) ∙ here))) y (key y) refl

-- what holds of each cell holds of each key
pub at_each : {X : Type 0} (R : X → X → Type 0) (d : X) (f g : ℕ → X) → R d d → ((c : ℕ) → R (f c) (g c)) → (o : Option ℕ)
    → R (at_index d f o) (at_index d g o)
at_each R d f g none each None = none
at_each R d f g none each (Some c) = each c

start_from : (parts : List ℕ) (j c : ℕ) (o : Option ℕ) → slot_in parts (j / 512) ≡ o → option_map (λ start. start + j % 512) o ≡ Some c
    → (s : ℕ) × (slot_in parts (j / 512) ≡ Some s) × (s + j % 512 ≡ c)
start_from parts j c None is h = absurd (none-some c h)
start_from parts j c (Some s) is h = (s, is, same_Some (s + j % 512) c h)

-- where the cells of its page start
pub cell_start : (parts : List ℕ) (j c : ℕ) → cell_by parts j ≡ Some c → (s : ℕ) × (slot_in parts (j / 512) ≡ Some s) × (s + j % 512 ≡ c)
cell_start parts j c h = start_from parts j c (slot_in parts (j / 512)) refl h

-- the numbers of a page
page_test : (b j : ℕ) → b % 512 ≡ 0 → in_page b 512 j ≡ nat_eq (j / 512) (b / 512)
page_test b j whole =
    elim (cases_eq (j / 512) (b / 512)) [
      | inl same ↦ inside b 512 j (omega arith) (omega arith) ∙ sym (eq-eqb (j / 512) (b / 512) same)
      | inr other ↦
          elim (cases_lt j b) [
            | inl low ↦ before b 512 j low ∙ sym (ne_eqb (j / 512) (b / 512) other)
            | inr high ↦ behind b 512 j (omega arith) ∙ sym (ne_eqb (j / 512) (b / 512) other)
          ]
    ]

module _ (parts : List ℕ) (count : ℕ) (numbered : Numbered (slot_in parts) count) where
  pub cell_among : (j c : ℕ) → cell_by parts j ≡ Some c → c < count
  cell_among j c h =
      let f = cell_start parts j c h in
      let within : f.0 + 512 ≤ count = numbered.within (j / 512) f.0 f.1 in
      let sum : f.0 + j % 512 ≡ c = f.2 in
      omega arith

  pub cell_once : (i j c : ℕ) → cell_by parts i ≡ Some c → cell_by parts j ≡ Some c → i ≡ j
  cell_once i j c h h' =
      let f = cell_start parts i c h in
      let g = cell_start parts j c h' in
      let page : i / 512 ≡ j / 512
      = one_page (slot_in parts) count numbered (i / 512) (j / 512) f.0 g.0 (i % 512) (j % 512) f.1 g.1 (omega arith) (omega arith) (f.2 ∙ sym g.2) in
      let start : f.0 ≡ g.0 = same_Some f.0 g.0 (sym f.1 ∙ ap (slot_in parts) page ∙ g.1) in
      let sum : f.0 + i % 512 ≡ c = f.2 in
      let sum' : g.0 + j % 512 ≡ c = g.2 in
      omega (arith, page, start, sum, sum')

  cells_of_page : (b s j c : ℕ) → slot_in parts (b / 512) ≡ Some s → cell_by parts j ≡ Some c → in_page s 512 c ≡ nat_eq (j / 512) (b / 512)
  cells_of_page b s j c at h =
      let f = cell_start parts j c h in
      let sum : f.0 + j % 512 ≡ c = f.2 in
      elim (cases_eq (j / 512) (b / 512)) [
        | inl same ↦
            let start : f.0 ≡ s = same_Some f.0 s (sym f.1 ∙ ap (slot_in parts) same ∙ at) in
            inside s 512 c (omega (arith, sum, start)) (omega (arith, sum, start)) ∙ sym (eq-eqb (j / 512) (b / 512) same)
        | inr other ↦
            elim (cases_lt c s) [
              | inl low ↦ before s 512 c low ∙ sym (ne_eqb (j / 512) (b / 512) other)
              | inr high ↦
                  elim (cases_lt c (s + 512)) [
                    | inl within ↦
                        absurd (other (one_page (slot_in parts) count numbered (j / 512) (b / 512) f.0 s (j % 512) (c - s) f.1 at (omega arith)
                        (omega arith) (omega (arith, sum, high))))
                    | inr past ↦ behind s 512 c past ∙ sym (ne_eqb (j / 512) (b / 512) other)
                  ]
            ]
      ]

  -- the cells of a page change
  pub page_through : {X : Type 0} (d : X) (f g : ℕ → X) (b s : ℕ) → b % 512 ≡ 0 → slot_in parts (b / 512) ≡ Some s
      → ((i : ℕ) → g i ≡ (if in_page s 512 i then d else f i)) → (j : ℕ)
      → at_index d g (cell_by parts j) ≡ (if in_page b 512 j then d else at_index d f (cell_by parts j))
  page_through d f g b s whole at is j =
      through (cell_by parts) d d f g (in_page b 512) (in_page s 512) is (λ x c h. cells_of_page b s x c at h ∙ sym (page_test b x whole))
      (λ x _ _. refl) j (cell_by parts j) refl

-- a page has no cells
pub page_none : {X : Type 0} (parts : List ℕ) (d : X) (f : ℕ → X) (b : ℕ) → b % 512 ≡ 0 → slot_in parts (b / 512) ≡ None → (j : ℕ)
    → at_index d f (cell_by parts j) ≡ (if in_page b 512 j then d else at_index d f (cell_by parts j))
page_none parts d f b whole at j =
    split_by (in_page b 512 j)
    (λ t. ap (at_index d f) (ap (option_map (λ start. start + j % 512))
    (ap (slot_in parts) (eqb-true (j / 512) (b / 512) (sym (page_test b j whole) ∙ t)) ∙ at)))
    (λ _. refl)
