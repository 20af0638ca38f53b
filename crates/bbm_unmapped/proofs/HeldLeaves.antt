-- Held leaves over a page.
use Rattle.bbm_unmapped.proofs.Common.{HeldIn, HeldUnder, IsHeldOver, PlaceMap, Standing, TreeIndex, Unmapped, core_at}
use Rattle.bbm_unmapped.proofs.Common.{core_maps, get, is_at, keys, node_in}
use Rattle.bbm_unmapped.specs.Unmapped.{may_map, pages_in}
use Rattle.bbm_rules.proofs.Common.{◌≡◌, ℕ, ◌<◌, ◌≤◌, ◌+◌, ◌*◌, ◌/◌, ◌%◌, Bool, true, false, List, Option, Some, None}
use Rattle.bbm_rules.proofs.Common.{is_some, length, nat_eq, refl, sym, ap, ◌∙◌, subst, arith, true≢false, none-some}
use Rattle.bbm_rules.proofs.Common.{same_Some, slice_get, slice_get_within, Kind, Core, Node, page_of, option_map}
use Rattle.bbm_rules.proofs.Common.{option_map_or}
use Rattle.bbm_tree_index.proofs.Places.{at_page, number_below, place_is}
use Rattle.bbm_tree_index.proofs.Wrongs.{key_at}

module _ (map : PlaceMap) (read : Standing) (table page : ℕ) where
  abbrev pub maps_at : ℕ → Bool
  maps_at place = core_maps read.kind read.level (core_at map read.kind read.level place) page

  -- none of the places does
  pub none_held : (n : ℕ) → 512 ≤ n → ((j : ℕ) → j < n → maps_at (table + 8 * j) ≡ false)
      → HeldIn map read table page → ⊥
  none_held n end none h = true≢false (sym h.maps_page ∙ ap maps_at (place_is table h.place h.inside)
      ∙ none (h.place % 4096 / 8) (omega (arith, number_below h.place, end)))

  -- what is told of the place with a number
  pub maps_read : (first j : ℕ) (core held : Option Core) (told : Bool) → first ≡ table → core ≡ held
      → held ≡ core_at map read.kind read.level (first + 8 * j) → told ≡ core_maps read.kind read.level core page
      → told ≡ maps_at (table + 8 * j)
  maps_read first j core held told at is reads tells = tells ∙ ap (λ (o : Option Core). core_maps read.kind read.level
      o page) (is ∙ reads)
      ∙ ap (λ (a : ℕ). maps_at (a + 8 * j)) at

  pub one_held : (j : ℕ) → is_at table (table + 8 * j) ≡ true → maps_at (table + 8 * j) ≡ true
      → HeldIn map read table page
  one_held j inside maps = record { place = table + 8 * j; inside = inside; maps_page = maps }

module _ (unmapped : Unmapped) (index : TreeIndex) (map : PlaceMap) (page number : ℕ) where
  -- the page of the place stands there
  there : (h : HeldUnder unmapped index map page number) (table : ℕ) → slice_get (pages_in unmapped) number ≡ Some table
      → page_of h.held.place ≡ table
  there h table at = same_Some (page_of h.held.place) table (sym h.at ∙ at)

  module _ (table : ℕ) (at : slice_get (pages_in unmapped) number ≡ Some table) (n : Node) (is : node_in index table ≡
      Some n)
      (read : Standing) (kind : read.kind ≡ n.kind) (level : read.level ≡ n.level) where
    pub to_under : may_map unmapped table page ≡ true → HeldIn map read table page
        → HeldUnder unmapped index map page number
    to_under looked h = let at_table = at_page table h.place h.inside in record {
      held = record {
        stands = n;
        place = h.place;
        at = ap (node_in index) at_table ∙ is;
        inside = subst (λ (t : ℕ). is_at t h.place ≡ true) (sym at_table) h.inside;
        looked_for = ap (λ t. may_map unmapped t page) at_table ∙ looked;
        maps_page = sym (reads h.place) ∙ h.maps_page;
      };
      at = at ∙ ap (λ (t : ℕ). Some t) (sym at_table);
    }
      where
        reads : (place : ℕ) → core_maps read.kind read.level (core_at map read.kind read.level place) page
            ≡ core_maps n.kind n.level (core_at map n.kind n.level place) page
        reads place = ap (λ (k : Kind). core_maps k read.level (core_at map k read.level place) page) kind
            ∙ ap (λ (l : ℕ). core_maps n.kind l (core_at map n.kind l place) page) level

    pub from_under : HeldUnder unmapped index map page number → HeldIn map read table page
    from_under h = record {
      place = h.held.place;
      inside = subst (λ (t : ℕ). is_at t h.held.place ≡ true) at_table h.held.inside;
      maps_page = ap (λ (k : Kind). core_maps k read.level (core_at map k read.level h.held.place) page) (kind
          ∙ ap (λ (m : Node). m.kind) (sym same))
          ∙ ap (λ (l : ℕ). core_maps h.held.stands.kind l (core_at map h.held.stands.kind l h.held.place) page) (level
          ∙ ap (λ (m : Node). m.level) (sym same))
          ∙ h.held.maps_page;
    }
      where
        at_table : page_of h.held.place ≡ table
        at_table = there h table at

        same : h.held.stands ≡ n
        same = same_Some h.held.stands n (sym h.held.at ∙ ap (node_in index) at_table ∙ is)

-- the node of a page that is read so
pub stood : (index : TreeIndex) (ps qs : List ℕ) (number table page : ℕ) (o : Option Standing) (read : Standing)
    → ps ≡ qs
    → slice_get ps number ≡ Some table → slice_get qs number ≡ Some page
    → o ≡ option_map (λ (n : Node). record { kind = n.kind; level = n.level }) (node_in index page) → o ≡ Some read
    → (n : Node) × (node_in index table ≡ Some n) × (read.kind ≡ n.kind) × (read.level ≡ n.level)
stood index ps qs number table page o read same at is stands has = by (node_in index page) (ap (node_in index) here)
    (sym has ∙ stands)
  where
    here : table ≡ page
    here = same_Some table page (sym at ∙ ap (λ (xs : List ℕ). slice_get xs number) same ∙ is)

    by : (m : Option Node) → node_in index table ≡ m
        → Some read ≡ option_map (λ (n : Node). record { kind = n.kind; level = n.level }) m
        → (n : Node) × (node_in index table ≡ Some n) × (read.kind ≡ n.kind) × (read.level ≡ n.level)
    by None e none = absurd (none-some read (sym none))
    by (Some n) e some = (
      n,
      e,
      ap (λ (r : Standing). r.kind) (same_Some read (record { kind = n.kind; level = n.level }) some),
      ap (λ (r : Standing). r.level) (same_Some read (record { kind = n.kind; level = n.level }) some),
    )

-- a held leaf over a page is under some number
pub some_number : (unmapped : Unmapped) (index : TreeIndex) (map : PlaceMap) (page : ℕ)
    → IsHeldOver unmapped index map page
    → (n : ℕ) × (n < length (pages_in unmapped)) × HeldUnder unmapped index map page n
unfolding pages_in may_map
some_number unmapped index map page h =
    let k = key_at unmapped.pages (page_of h.place) (known _ (get nat_eq unmapped.pages (page_of h.place))
    h.looked_for) in
    (k.0, slice_get_within (keys unmapped.pages) k.0 (page_of h.place) k.2, record { held = h; at = k.2 })
  where
    known : {V : Type 0} (test : V → Bool) (o : Option V) → option_map_or test o false ≡ true → is_some o ≡ true
    known test None e = e
    known test (Some v) e = refl
