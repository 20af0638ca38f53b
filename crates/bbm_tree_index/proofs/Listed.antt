-- The list of the pages of a survey, where they can be attached.
use Rattle.bbm_tree_index.proofs.Common.{IndexMap, get, index_map_len, keys, PlaceMap, Heading, Attached, TreeIndex, Attach, Mark, Role}
use Rattle.bbm_tree_index.proofs.Common.{Spot, role_as, spot_with, starts_of, value_at}
use Rattle.bbm_rules.proofs.Common.{◌≡◌, ◌⊎◌, ℕ, ◌+◌, ◌≤◌, ◌||◌, ◌==◌, true, List, ◌∷◌, ◌++◌, [], Option, Some, None, is_some}
use Rattle.bbm_rules.proofs.Common.{Contains, length, nat_eq, slice_get, take, list_any, inl, inr, sym, ap, ◌∙◌, subst, arith}
use Rattle.bbm_rules.proofs.Common.{cases_eq, eqb-true, eq-eqb, none-some, or_cases, same_Some, Node}
use Rattle.std.specs.Prelude.{◌↔◌}
use Rattle.std.specs.Option.{option_map}
use Rattle.std.proofs.lemmas.List.Elements.{Contains-push, Contains-push_cases, Contains-append_left}
use Rattle.bbm_lemmas.proofs.Elements.{contains_none}
use Rattle.bbm_tree_index.specs.Index.{fresh_in, heading_of}
use Rattle.bbm_tree_index.specs.Listing.{Adds, ListedAt, ListedIn, listed_by}
use Rattle.bbm_tree_index.specs.Outputs.{Lists, HasListed, listed_as}
use Rattle.bbm_tree_index.specs.declared.standing.AttachedPage.{AttachedPage}
use Rattle.bbm_tree_index.proofs.Growing.{all_keys, first_more_keys}
use Rattle.bbm_tree_index.proofs.Levels.{told_node}
use Rattle.bbm_tree_index.proofs.Reaching.{Reach, Ready, attached_reach, reach_attached, reach_unique}
use Rattle.bbm_tree_index.proofs.Surveying.{Has, below, in_table, levels, reach_plain}

-- one more at the end
pub adds_pushed : (o : Option AttachedPage) (x : AttachedPage) (xs ys : List AttachedPage) → o ≡ Some x → ys ≡ xs ++ x ∷ []
    → Adds (λ a. o ≡ Some a) xs ys
adds_pushed o x xs ys is e a = (
  λ c. elim (Contains-push_cases xs x a (subst (λ zs. Contains zs a) e c)) [ inl h ↦ inl h | inr h ↦ inr (is ∙ ap (λ y. Some y) h) ],
  λ h. subst (λ zs. Contains zs a) (sym e) (back h),
)
  where
    back : Contains xs a ⊎ (o ≡ Some a) → Contains (xs ++ x ∷ []) a
    back (inl c) = Contains-append_left xs (x ∷ []) a c
    back (inr h) = subst (Contains (xs ++ x ∷ [])) (same_Some x a (sym is ∙ h)) (Contains-push xs x)

-- the same additions by another name
pub adds_same : (P Q : AttachedPage → Type 0) (xs ys : List AttachedPage) → ((a : AttachedPage) → P a ↔ Q a) → Adds P xs ys → Adds Q xs ys
adds_same P Q xs ys same adds a = (
  λ c. elim ((adds a).0 c) [ inl h ↦ inl h | inr p ↦ inr ((same a).0 p) ],
  λ h. (adds a).1 (elim h [ inl c ↦ inl c | inr q ↦ inr ((same a).1 q) ]),
)

-- nothing but additions
pub only_added : (P : AttachedPage → Type 0) (ys : List AttachedPage) → Adds P [] ys → (a : AttachedPage) → Contains ys a ↔ P a
only_added P ys adds a =
    (λ c. elim ((adds a).0 c) [ inl h ↦ absurd (contains_none a h) | inr p ↦ p ], λ p. (adds a).1 (inr p))

-- one addition after the other
pub adds_more : (P Q R : AttachedPage → Type 0) (xs ys zs : List AttachedPage) → ((a : AttachedPage) → R a ↔ (P a ⊎ Q a))
    → Adds P xs ys → Adds Q ys zs → Adds R xs zs
adds_more P Q R xs ys zs split first then a = (to, from)
  where
    second : Contains ys a → Contains xs a ⊎ R a
    second c = elim ((first a).0 c) [ inl h ↦ inl h | inr p ↦ inr ((split a).1 (inl p)) ]

    to : Contains zs a → Contains xs a ⊎ R a
    to c = elim ((then a).0 c) [ inl h ↦ second h | inr q ↦ inr ((split a).1 (inr q)) ]

    either : P a ⊎ Q a → Contains zs a
    either (inl p) = (then a).1 (inl ((first a).1 (inr p)))
    either (inr q) = (then a).1 (inr q)

    from : Contains xs a ⊎ R a → Contains zs a
    from (inl c) = (then a).1 (inl ((first a).1 (inl c)))
    from (inr r) = either ((split a).0 r)

-- what is listed of a page is that page
pub page_listed : (heading : Heading) (page : ℕ) (role : Role) (a : AttachedPage) → listed_by heading page role ≡ Some a → a.page ≡ page
page_listed heading page role a = by (spot_with heading role)
  where
    by : (o : Option Spot) → option_map (λ s. record { page = page; standing = record { kind = s.kind; level = s.level } }) o ≡ Some a
        → a.page ≡ page
    by None e = absurd (none-some a e)
    by (Some s) e = ap (λ (x : AttachedPage). x.page) (sym (same_Some _ a e))

module _ {S : Type 0} (heading : Heading) (table : IndexMap ℕ Mark S) where
  -- a page of the table that is among the first
  pub record FirstListed (index : ℕ) (a : AttachedPage) : Type 0 where
    pub first : list_any (nat_eq a.page) (take index (keys table)) ≡ true
    pub listed : ListedIn heading table a

  -- one more page of the table
  pub first_more : (index page : ℕ) (mark : Mark) → slice_get (keys table) index ≡ Some page → get nat_eq table page ≡ Some mark
      → (a : AttachedPage) → FirstListed (index + 1) a ↔ (FirstListed index a ⊎ (listed_by heading page mark.role ≡ Some a))
  first_more index page mark at has a = (to, from)
    where
      same : list_any (nat_eq a.page) (take (index + 1) (keys table)) ≡ (list_any (nat_eq a.page) (take index (keys table)) || a.page == page)
      same = first_more_keys (keys table) index page a.page at

      to : FirstListed (index + 1) a → FirstListed index a ⊎ (listed_by heading page mark.role ≡ Some a)
      to f = elim (or_cases (list_any (nat_eq a.page) (take index (keys table))) (a.page == page) (sym same ∙ f.first)) [
        | inl t ↦ inl (record { first = t; listed = f.listed })
        | inr t ↦ let e = eqb-true a.page page t in
            let marks : f.listed.mark ≡ mark = same_Some f.listed.mark mark (sym f.listed.has ∙ ap (get nat_eq table) e ∙ has) in
            inr ((λ i. listed_by heading (sym e i) (sym marks i).role) ∙ f.listed.is)
      ]

      from : FirstListed index a ⊎ (listed_by heading page mark.role ≡ Some a) → FirstListed (index + 1) a
      from (inl f) = record { first = same ∙ ap (λ b. b || a.page == page) f.first; listed = f.listed }
      from (inr e) = let p = page_listed heading page mark.role a e in record {
        first = same ∙ grind (arith, eq-eqb a.page page p);
        listed = record { mark = mark; has = ap (get nat_eq table) p ∙ has; is = ap (λ q. listed_by heading q mark.role) p ∙ e };
      }

  -- where each page of the table is among the first
  pub all_first : (index : ℕ) → index_map_len table ≤ index → (a : AttachedPage) → FirstListed index a ↔ ListedIn heading table a
  all_first index end a = (
    λ f. f.listed,
    λ l. record { first = all_keys table index end a.page ∙ ap (λ o. is_some o) l.has; listed = l },
  )

-- one more table
pub levels_more : {S : Type 0} (heading : Heading) (tables : List (IndexMap ℕ Mark S)) (index : ℕ) (table : IndexMap ℕ Mark S)
    → slice_get tables index ≡ Some table → (a : AttachedPage)
    → ListedAt heading tables (index + 1) a ↔ (ListedAt heading tables index a ⊎ ListedIn heading table a)
levels_more {S} heading tables index table at a = (to, from)
  where
    to : ListedAt heading tables (index + 1) a → ListedAt heading tables index a ⊎ ListedIn heading table a
    to f = elim (cases_eq f.level index) [
      | inl e ↦ inr (subst (λ t. ListedIn heading t a) (same_Some f.table table (sym f.at ∙ ap (slice_get tables) e ∙ at)) f.listed)
      | inr n ↦ inl (record { level = f.level; below = omega (arith, f.below, n); table = f.table; at = f.at; listed = f.listed })
    ]

    from : ListedAt heading tables index a ⊎ ListedIn heading table a → ListedAt heading tables (index + 1) a
    from (inl f) = record { level = f.level; below = omega (arith, f.below); table = f.table; at = f.at; listed = f.listed }
    from (inr f) = record { level = index; below = omega arith; table = table; at = at; listed = f }

module _ {S : Type 0} {tables : List (IndexMap ℕ Mark S)} {index : TreeIndex} {map : PlaceMap} {at : Attach}
    (ready : Ready tables index map at) where
  -- the role of a reached node tells how its page is listed
  listed_reach : (m : Node) → Reach index map at m → listed_by (heading_of index) m.page (role_as m m.above) ≡ Some (listed_as m)
  listed_reach m r =
      ap (λ o. option_map (λ s. record { page = m.page; standing = record { kind = s.kind; level = s.level } }) o) (reach_plain ready m r)

  module _ (pages : List AttachedPage)
      (all : (a : AttachedPage) → Contains pages a ↔ ListedAt (heading_of index) tables (length tables) a) where
    -- a page of a table is that of an attached node
    from_list : (m : Node) → HasListed pages m
        → (a : Node) × Attached (fresh_in index) (value_at map) (starts_of index at) a × (listed_as a ≡ listed_as m)
    from_list m c =
        let l = (all (listed_as m)).0 c in
        let t = told_node tables (Has ready) (levels ready) l.level m.page l.table l.at (ap (λ o. is_some o) l.listed.has) in
        let f = t.2 in
        let r : Reach index map at f.node = (l.level, f.is_there) in
        let same : t.0 ≡ l.listed.mark = same_Some t.0 l.listed.mark (sym t.1 ∙ l.listed.has) in (
          f.node,
          reach_attached ready f.node r,
          same_Some (listed_as f.node) (listed_as m)
              (sym (listed_reach f.node r) ∙ (λ i. listed_by (heading_of index) (f.at i) (sym f.role i)) ∙ ap (λ x. listed_by (heading_of index) m.page x.role) same
              ∙ l.listed.is),
        )

    to_list : (m : Node)
        → ((a : Node) × Attached (fresh_in index) (value_at map) (starts_of index at) a × (listed_as a ≡ listed_as m)) → HasListed pages m
    to_list m h =
        let r = attached_reach ready h.0 h.1 in
        let t = in_table ready h.0 r in
        let same : t.found.node ≡ h.0 = reach_unique ready t.found.node h.0 (r.0, t.found.is_there) r t.found.at in
        subst (Contains pages) h.2 ((all (listed_as h.0)).1 (record {
          level = r.0;
          below = below ready h.0 r;
          table = t.table;
          at = t.at;
          listed = record {
            mark = t.mark;
            has = t.has;
            is = ap (listed_by (heading_of index) h.0.page) (t.found.role ∙ ap (λ (x : Node). role_as x x.above) same) ∙ listed_reach h.0 r;
          };
        }))

    pub lists : Lists (Attached (fresh_in index) (value_at map) (starts_of index at)) pages
    lists m = (from_list m, to_list m)
