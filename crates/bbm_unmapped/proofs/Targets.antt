-- The least bad page.
use Rattle.bbm_unmapped.proofs.Common.{AttachedPage, BadTable, Before, HasListed, IsLeast, IsListed, IsFreeUnder}
use Rattle.bbm_unmapped.proofs.Common.{IsOver, IsTarget, IsUnclean, IsUnder, LeafOver, LeastOf, Outputs, PlaceMap}
use Rattle.bbm_unmapped.proofs.Common.{TreeIndex, Unmapped, attached, free_in, in_outputs, in_tree, lesser, maps}
use Rattle.bbm_unmapped.proofs.Common.{node_in, unclean, value_at}
use Rattle.bbm_rules.proofs.Common.{◌≡◌, ℕ, ◌≤◌, ◌+◌, ◌*◌, ◌%◌, ◌⊎◌, Bool, true, false, List, Option, Some, None}
use Rattle.bbm_rules.proofs.Common.{length, nat_lt, refl, sym, ◌∙◌, subst, arith, inl, inr, if◌then◌else◌, Kind}
use Rattle.bbm_rules.proofs.Common.{ltb-false, ltb-true}
use Rattle.std.proofs.lemmas.Bool.{cases_Bool}
use Rattle.bbm_tree_index.proofs.Leasts.{AtItem, item_all, least_same}
use Rattle.bbm_unmapped.proofs.Coverings.{from_places, to_places}
use Rattle.bbm_unmapped.proofs.Lists.{from_index, listed_page, node_as, over_from, over_of, to_index}

-- the lesser of two least numbers
module _ (P Q : ℕ → Type 0) where
  left : (n : ℕ) → IsLeast P n → ((m : ℕ) → Q m → n ≤ m) → IsLeast (λ m. P m ⊎ Q m) n
  left n p q = record { that = inl p.that; least = λ m k. elim k [ inl x ↦ p.least m x | inr y ↦ q m y ] }

  right : (n : ℕ) → IsLeast Q n → ((m : ℕ) → P m → n ≤ m) → IsLeast (λ m. P m ⊎ Q m) n
  right n q p = record { that = inr q.that; least = λ m k. elim k [ inl x ↦ p m x | inr y ↦ q.least m y ] }

  either : (o o' : Option ℕ) → LeastOf P o → LeastOf Q o' → LeastOf (λ m. P m ⊎ Q m) (lesser o o')
  either None None p q = λ m k. elim k [ inl x ↦ p m x | inr y ↦ q m y ]
  either None (Some n) p q = right n q (λ m x. absurd (p m x))
  either (Some n) None p q = left n p (λ m y. absurd (q m y))
  either (Some n) (Some n') p q = by (nat_lt n' n) refl
    where
      by : (b : Bool) → nat_lt n' n ≡ b → LeastOf (λ m. P m ⊎ Q m) (if b then Some n' else Some n)
      by true t = right n' q (λ m x. omega (arith, ltb-true n' n t, p.least m x))
      by false t = left n p (λ m y. omega (arith, ltb-false n' n t, q.least m y))

  pub least_either : (o o' r : Option ℕ) → r ≡ lesser o o' → LeastOf P o → LeastOf Q o' → LeastOf (λ m. P m ⊎ Q m) r
  least_either o o' r e p q = subst (LeastOf (λ m. P m ⊎ Q m)) (sym e) (either o o' p q)

-- a listed page that passes, by its index
abbrev pub PassesAt : (ℕ → Type 0) → ℕ → AttachedPage → ℕ → Type 0
PassesAt passes j a page = passes page × (a.page ≡ page)

module _ (pages : List AttachedPage) where
  pub all_listed : (passes : ℕ → Type 0) (n : ℕ) (o : Option ℕ) → length pages ≤ n
      → LeastOf (Before (AtItem pages (PassesAt passes)) n) o → LeastOf (λ page. passes page × IsListed pages page) o
  all_listed passes n o end = item_all pages (PassesAt passes) (λ page. passes page × IsListed pages page) n o end
      (λ j page w. (w.2.0, record { listed = w.0; has = from_index pages w.0 j w.1; is = w.2.1 }))
      (λ page l. let k = to_index pages l.1.listed l.1.has in (k.0, (l.1.listed, k.1, (l.0, l.1.is))))

  module _ (unmapped : Unmapped) (index : TreeIndex) where
    -- the least target that a value maps
    pub value_targets : (outputs : Outputs) (kind : Kind) (level value : ℕ)
        → ((page : ℕ) → in_outputs outputs page ≡ maps kind level value page) → (o o' r : Option ℕ) → r ≡ lesser o o'
        → LeastOf (IsUnder index outputs) o → LeastOf (λ page. IsFreeUnder unmapped outputs page × IsListed pages page)
        o'
        → LeastOf (λ page. (maps kind level value page ≡ true) × IsTarget unmapped pages index page) r
    value_targets outputs kind level value is o o' r e p q =
        least_same (λ page. IsUnder index outputs page ⊎ (IsFreeUnder unmapped outputs page × IsListed pages page))
        (λ page. (maps kind level value page ≡ true) × IsTarget unmapped pages index page) r
        (λ page k. elim k [
          | inl x ↦ (sym (is page) ∙ x.0, inl x.1)
          | inr y ↦ (
            sym (is page)
                ∙ y.0.0,
            inr (y.0.1, y.1),
          )
        ])
        (λ page t. elim t.1 [ inl x ↦ inl (is page ∙ t.0, x) | inr y ↦ inr ((is page ∙ t.0, y.0), y.1) ])
        (least_either (IsUnder index outputs) (λ page. IsFreeUnder unmapped outputs page × IsListed pages page) o o' r
        e p q)

    module _ (map : PlaceMap) where
      -- by the places of a page
      abbrev pub TargetAt : AttachedPage → ℕ → ℕ → Type 0
      TargetAt a j page = (maps a.standing.kind a.standing.level (value_at map (a.page + 8 * j)) page ≡ true)
          × IsTarget unmapped pages index page

      abbrev pub TargetOf : AttachedPage → ℕ → Type 0
      TargetOf a page = LeafOver map a page × IsTarget unmapped pages index page

      pub all_places : (a : AttachedPage) (n : ℕ) (o : Option ℕ) → a.page % 4096 ≡ 0 → n ≡ 512
          → LeastOf (Before (TargetAt a) n) o
          → LeastOf (TargetOf a) o
      all_places a n o aligned end = least_same (Before (TargetAt a) n) (TargetOf a) o
          (λ page b. (from_places map a page b.index aligned (omega (arith, b.below, end)) b.that.0, b.that.1))
          (λ page t. let p = to_places map a page t.0 in record {
            index = p.0;
            below = omega (arith, p.1, end);
            that =
                (p.2, t.1);
          })

      -- by the pages of the list
      abbrev pub TargetOver : ℕ → Type 0
      TargetOver page = IsOver map pages page × IsTarget unmapped pages index page

      pub all_targets : (n : ℕ) (o : Option ℕ) → length pages ≤ n
          → LeastOf (Before (AtItem pages (λ j. TargetOf)) n) o → LeastOf TargetOver o
      all_targets n o end = item_all pages (λ j. TargetOf) TargetOver n o end
          (λ j page w. (over_of map pages w.0 page (from_index pages w.0 j w.1) w.2.0, w.2.1))
          (λ page t. let a = over_from map pages page t.0 in let k = to_index pages a.0 a.1 in (
            k.0,
            (
              a.0,
              k.1,
              (
                a.2,
                t.1,
              ),
            ),
          ))

      -- the least bad page
      pub bad_tables : (o o' r : Option ℕ) → r ≡ lesser o o' → LeastOf (IsUnclean unmapped pages) o
          → LeastOf TargetOver o'
          → LeastOf (BadTable (HasListed pages) (value_at map) (free_in unmapped) (node_in index)) r
      bad_tables o o' r e p q = least_same (λ page. IsUnclean unmapped pages page ⊎ TargetOver page)
          (BadTable (HasListed pages) (value_at map) (free_in unmapped) (node_in index)) r to from
          (least_either (IsUnclean unmapped pages) TargetOver o o' r e p q)
        where
          target : (page : ℕ) → IsOver map pages page → IsTarget unmapped pages index page
              → BadTable (HasListed pages) (value_at map) (free_in unmapped) (node_in index) page
          target page over (inl there) = in_tree there over
          target page over (inr l) = attached (node_as l.1.listed) l.1.has l.1.is over

          to : (page : ℕ) → IsUnclean unmapped pages page ⊎ TargetOver page
              → BadTable (HasListed pages) (value_at map) (free_in unmapped) (node_in index) page
          to page (inl u) = unclean (node_as u.1.listed) u.1.has u.1.is u.0
          to page (inr t) = target page t.0 t.1

          from : (page : ℕ) → BadTable (HasListed pages) (value_at map) (free_in unmapped) (node_in index) page
              → IsUnclean unmapped pages page ⊎ TargetOver page
          from page (unclean m has is off) = inl (off, listed_page pages m page has is)
          from page (in_tree there over) = inr (over, inl there)
          from page (attached m has is over) = elim (cases_Bool (free_in unmapped page)) [
            | inl on ↦ inr (over, inr (on, listed_page pages m page has is))
            | inr off ↦ inl (off, listed_page pages m page has is)
          ]
