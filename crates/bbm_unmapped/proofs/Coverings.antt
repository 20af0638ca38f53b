-- Leaves that come to be held one after another.
use Rattle.bbm_unmapped.proofs.Common.{AttachedPage, Covers, CoversAttached, HasListed, LeafOver, Outputs, PlaceMap}
use Rattle.bbm_unmapped.proofs.Common.{Unmapped, Grows, free_in, in_outputs, maps, may_map, pages_in, value_at}
use Rattle.bbm_unmapped.proofs.Common.{listed_as}
use Rattle.bbm_rules.proofs.Common.{◌≡◌, ℕ, ◌<◌, ◌≤◌, ◌+◌, ◌*◌, ◌/◌, ◌%◌, ◌⊎◌, Bool, true, not, ◌&&◌, List, Some}
use Rattle.bbm_rules.proofs.Common.{length, refl, sym, ap, ◌∙◌, subst, arith, inl, inr, true≢false, slice_get}
use Rattle.bbm_rules.proofs.Common.{slice_get_within, Kind, and_parts, not-true, Contains, same_Some}
use Rattle.std.proofs.lemmas.Bool.{cases_Bool}
use Rattle.bbm_tree_index.proofs.Places.{number_at, number_below, place_is}
use Rattle.bbm_unmapped.proofs.Lists.{from_index, over_from, over_of, to_index}

pub covers_none : (Maps : ℕ → ℕ → Type 0) (u : Unmapped) → ((table page : ℕ) → Maps table page → ⊥) → Covers Maps u u
covers_none Maps u none = record {
  pages = refl;
  free = λ page. (λ f. (f, λ table m. none table page m), λ h. h.0);
  grows = λ table page e. e;
  own = λ table page m. absurd (none table page m);
}

pub covers_same : (A B : ℕ → ℕ → Type 0) (u v : Unmapped) → ((table page : ℕ) → A table page → B table page)
    → ((table page : ℕ) → B table page → A table page) → Covers A u v → Covers B u v
covers_same A B u v to from c = record {
  pages = c.pages;
  free = λ page. (
    λ f. let h = (c.free page).0 f in (h.0, λ table b. h.1 table (from table page b)),
    λ h. (c.free page).1 (h.0, λ table a. h.1 table (to table page a)),
  );
  grows = c.grows;
  own = λ table page b. c.own table page (from table page b);
}

covers_more : (A B : ℕ → ℕ → Type 0) (u v w : Unmapped) → Covers A u v → Covers B v w
    → Covers (λ table page. A table page ⊎ B table page) u w
covers_more A B u v w a b = record {
  pages = b.pages ∙ a.pages;
  free = λ page. (
    λ f. let late = (b.free page).0 f in let early = (a.free page).0 late.0 in
        (early.0, λ table k. elim k [ inl x ↦ early.1 table x | inr y ↦ late.1 table y ]),
    λ h. (b.free page).1 ((a.free page).1 (h.0, λ table x. h.1 table (inl x)), λ table y. h.1 table (inr y)),
  );
  grows = λ table page e. b.grows table page (a.grows table page e);
  own = λ table page k. elim k [ inl x ↦ b.grows table page (a.own table page x) | inr y ↦ b.own table page y ];
}

-- what maps is among the first
pub record Among (At : ℕ → ℕ → ℕ → Type 0) (n table page : ℕ) : Type 0 where
  pub index : ℕ
  pub below : index < n
  pub that : At index table page

pub covers_step : (At : ℕ → ℕ → ℕ → Type 0) (n : ℕ) (u v w : Unmapped) → Covers (Among At n) u v → Covers (At n) v w
    → Covers (Among At (n + 1)) u w
covers_step At n u v w a b = covers_same (λ table page. Among At n table page ⊎ At n table page) (Among At (n + 1)) u w
    (λ table page k. elim k [
      | inl x ↦ record { index = x.index; below = omega (arith, x.below); that = x.that }
      | inr y ↦ record { index = n; below = omega arith; that = y }
    ])
    split (covers_more (Among At n) (At n) u v w a b)
  where
    split : (table page : ℕ) → Among At (n + 1) table page → Among At n table page ⊎ At n table page
    split table page m = grind arith

-- ---- one value

module _ (u v : Unmapped) (outputs : Outputs) (at : ℕ) (kind : Kind) (level value : ℕ)
    (is : (page : ℕ) → in_outputs outputs page ≡ maps kind level value page) where
  pub covers_value : pages_in v ≡ pages_in u → ((p : ℕ) → free_in v p ≡ (free_in u p && not (in_outputs outputs p)))
      → Grows (may_map u) (may_map v) → ((p : ℕ) → in_outputs outputs p ≡ true → may_map v at p ≡ true)
      → Covers (λ table page. (table ≡ at) × (maps kind level value page ≡ true)) u v
  covers_value pages free grows own = record {
    pages = pages;
    free = λ page. (λ f. (kept page f, λ table m. out page f m.1), λ h. back page h.0 (λ m. h.1 at (refl, m)));
    grows = grows;
    own = λ table page m. ap (λ t. may_map v t page) m.0 ∙ own page (is page ∙ m.1);
  }
    where
      both : (page : ℕ) → free_in v page ≡ true → (free_in u page && not (in_outputs outputs page)) ≡ true
      both page f = sym (free page) ∙ f

      kept : (page : ℕ) → free_in v page ≡ true → free_in u page ≡ true
      kept page f = (and_parts (free_in u page) (not (in_outputs outputs page)) (both page f)).0

      out : (page : ℕ) → free_in v page ≡ true → maps kind level value page ≡ true → ⊥
      out page f m = true≢false (sym (is page ∙ m)
          ∙ not-true (in_outputs outputs page) (and_parts (free_in u page) (not (in_outputs outputs page)) (both page
          f)).1)

      back : (page : ℕ) → free_in u page ≡ true → (maps kind level value page ≡ true → ⊥) → free_in v page ≡ true
      back page f none = elim (cases_Bool (in_outputs outputs page)) [
        | inl t ↦ absurd (none (sym (is page) ∙ t))
        | inr t ↦ free page ∙ ap (λ (b : Bool). b && not (in_outputs outputs page)) f ∙ ap (λ (b : Bool). not b) t
      ]

-- ---- the places of a page

module _ (map : PlaceMap) (listed : AttachedPage) where
  abbrev pub PlaceOver : ℕ → ℕ → ℕ → Type 0
  PlaceOver j table page = (table ≡ listed.page)
      × (maps listed.standing.kind listed.standing.level (value_at map (listed.page + 8 * j)) page ≡ true)

  pub to_places : (page : ℕ) → LeafOver map listed page
      → (j : ℕ) × (j < 512) × (maps listed.standing.kind listed.standing.level (value_at map (listed.page + 8 * j))
      page ≡ true)
  to_places page l = (
    l.place % 4096 / 8,
    number_below l.place,
    ap (λ (a : ℕ). maps listed.standing.kind listed.standing.level (value_at map a) page) (sym (place_is listed.page
        l.place l.inside))
        ∙ l.maps_page,
  )

  pub from_places : (page j : ℕ) → listed.page % 4096 ≡ 0 → j < 512
      → maps listed.standing.kind listed.standing.level (value_at map (listed.page + 8 * j)) page ≡ true
      → LeafOver map listed page
  from_places page j aligned below maps = record {
    place = listed.page + 8 * j;
    inside = number_at listed.page j aligned below;
    maps_page = maps;
  }

  pub covers_places : (n : ℕ) (u v : Unmapped) → listed.page % 4096 ≡ 0 → n ≡ 512 → Covers (Among PlaceOver n) u v
      → Covers (λ table page. (table ≡ listed.page) × LeafOver map listed page) u v
  covers_places n u v aligned end = covers_same (Among PlaceOver n) (λ table page. (table ≡ listed.page) × LeafOver map
      listed page) u v
      (λ table page m. (m.that.0, from_places page m.index aligned (omega (arith, m.below, end)) m.that.1))
      (λ table page m. let p = to_places page m.1 in record {
        index = p.0;
        below = omega (arith, p.1, end);
        that =
            (m.0, p.2);
      })

-- ---- the pages of a list

module _ (map : PlaceMap) (pages : List AttachedPage) where
  abbrev pub ListedOver : ℕ → ℕ → ℕ → Type 0
  ListedOver j table page = (a : AttachedPage) × (slice_get pages j ≡ Some a) × (table ≡ a.page) × LeafOver map a page

  pub listed_step : (n : ℕ) (a : AttachedPage) (u v w : Unmapped) → slice_get pages n ≡ Some a
      → Covers (Among ListedOver n) u v
      → Covers (λ table page. (table ≡ a.page) × LeafOver map a page) v w → Covers (Among ListedOver (n + 1)) u w
  listed_step n a u v w at before here = covers_step ListedOver n u v w before
      (covers_same (λ table page. (table ≡ a.page) × LeafOver map a page) (ListedOver n) v w
      (λ table page m. (a, at, m.0, m.1))
      (λ table page m. subst (λ (x : AttachedPage). (table ≡ x.page) × LeafOver map x page) (same_Some m.0 a (sym m.1 ∙
      at)) (m.2, m.3))
      here)

  pub covers_all : (n : ℕ) (u v : Unmapped) → length pages ≤ n → Covers (Among ListedOver n) u v
      → CoversAttached (HasListed pages) (value_at map) (free_in u) (free_in v) (may_map u) (may_map v)
  covers_all n u v end c = record {
    free = λ page. (
      λ f. let h = (c.free page).0 f in (
        h.0,
        λ over. let a = over_from map pages page over in
            h.1 a.0.page (among a.0.page page a.0 a.1 refl a.2),
      ),
      λ h. (c.free page).1 (
        h.0,
        λ table m. h.1 (over_of map pages m.that.0 page (from_index pages m.that.0 m.index
            m.that.1) m.that.3),
      ),
    );
    grows = c.grows;
    own = λ m place page has inside leaf.
        c.own m.page page (among m.page page (listed_as m) has refl (record {
          place = place;
          inside = inside;
          maps_page
              = leaf;
        }));
  }
    where
      among : (table page : ℕ) (a : AttachedPage) → Contains pages a → table ≡ a.page → LeafOver map a page
          → Among ListedOver n table page
      among table page a has is leaf = let k = to_index pages a has in
          record {
            index = k.0;
            below = omega (arith, slice_get_within pages k.0 a k.1, end);
            that = (a, k.1, is, leaf);
          }
