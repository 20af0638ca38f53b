-- What is wrong with a page, by the tables.
use Rattle.bbm_tree_index.proofs.Common.{length-map, IndexMap, get, index_map_len, keys, IsLeast, Never, is_at, Before}
use Rattle.bbm_tree_index.proofs.Common.{LeafOf, LeafPlace, LeastOf, WrongPage, Mark, LeafIn, WrongIn}
use Rattle.bbm_rules.proofs.Common.{◌≡◌, ℕ, ◌<◌, ◌≤◌, ◌+◌, ◌*◌, ◌/◌, ◌%◌, Bool, true, false, List, Option, Some}
use Rattle.bbm_rules.proofs.Common.{is_some, nat_eq, get_or, slice_get, length, sym, ap, ◌∙◌, subst, true≢false, arith}
use Rattle.bbm_rules.proofs.Common.{eqb-true, desc_of, Desc, Kind}
use Rattle.std.proofs.lemmas.Option.{slice_get-get_or}
use Rattle.bbm_tree_index.proofs.Growing.{all_keys, any_at}
use Rattle.bbm_tree_index.proofs.Leasts.{AtItem, item_all, least_same}
use Rattle.bbm_tree_index.proofs.Places.{place_is}

-- no table of another level among the first has the page
abbrev pub Clear : {S : Type 0} → List (IndexMap ℕ Mark S) → ℕ → ℕ → ℕ → Type 0
Clear {S} tables level page n = (j : ℕ) (table : IndexMap ℕ Mark S) → j < n → (j ≡ level → ⊥) → slice_get tables j ≡ Some table
    → is_some (get nat_eq table page) ≡ false

-- a page of a table stands at an index
pub key_at : {V S : Type 0} (table : IndexMap ℕ V S) (p : ℕ) → is_some (get nat_eq table p) ≡ true
    → (i : ℕ) × (i < index_map_len table) × (slice_get (keys table) i ≡ Some p)
key_at {V} {S} table p e =
    let size : length (keys table) ≡ index_map_len table = length-map table.entries (λ x. x.0) in
    let found = any_at p (keys table) (index_map_len table) (all_keys table (index_map_len table) (omega arith) p ∙ e) in (
      found.0,
      found.1,
      slice_get-get_or (keys table) found.0 0 (omega (arith, found.1, size))
          ∙ ap Some (sym (eqb-true p (get_or (keys table) found.0 0) found.2)),
    )

module _ {S : Type 0} (tables : List (IndexMap ℕ Mark S)) (fresh : ℕ → Bool) (named : Bool) where
  -- a page that stands at an index of a table, and what passes by the table of one level
  abbrev pub WrongKey : ℕ → IndexMap ℕ Mark S → ℕ → ℕ → Type 0
  WrongKey level table j p = (slice_get (keys table) j ≡ Some p) × WrongIn tables fresh named level table p

  pub all_wrong : (level : ℕ) (table : IndexMap ℕ Mark S) (n : ℕ) (o : Option ℕ) → index_map_len table ≤ n
      → LeastOf (Before (WrongKey level table) n) o → LeastOf (WrongIn tables fresh named level table) o
  all_wrong level table n o end = least_same (Before (WrongKey level table) n) (WrongIn tables fresh named level table) o
      (λ p b. b.that.1)
      (λ p w. let k = key_at table p (ap (λ x. is_some x) w.has) in record { index = k.0; below = omega (arith, k.1, end); that = (k.2, w) })

  pub all_tables : (n : ℕ) (o : Option ℕ) → length tables ≤ n → LeastOf (Before (AtItem tables (WrongIn tables fresh named)) n) o
      → LeastOf (WrongPage tables fresh named) o
  all_tables n o end = item_all tables (WrongIn tables fresh named) (WrongPage tables fresh named) n o end
      (λ j p w. record { level = j; table = w.0; at = w.1; wrong = w.2 }) (λ p w. (w.level, (w.table, w.at, w.wrong)))

module _ (value : ℕ → ℕ) (test : Kind → Desc → Bool) (kind : Kind) where
  module _ (level page : ℕ) where
    -- whether the place with this number passes
    abbrev pub passes_at : ℕ → Bool
    passes_at j = test kind (desc_of kind level (value (page + 8 * j)))

    module _ (n : ℕ) (before : (j : ℕ) → j < n → passes_at j ≡ false) where
      leaf_behind : (a : ℕ) → LeafOf value test kind level page a → a % 4096 / 8 < n → ⊥
      leaf_behind a l less = true≢false (sym l.passes
          ∙ ap (λ x. test kind (desc_of kind level (value x))) (place_is page a l.inside) ∙ before (a % 4096 / 8) less)

      -- the first place that passes is the least
      pub first_leaf : (place : ℕ) → place ≡ page + 8 * n → is_at page place ≡ true
          → test kind (desc_of kind level (value place)) ≡ true → IsLeast (LeafOf value test kind level page) place
      first_leaf place at inside passes = record {
        that = record { inside = inside; passes = passes };
        least = λ a l. omega (arith, leaf_behind a l, place_is page a l.inside, at);
      }

      pub no_leaves : 512 ≤ n → Never (LeafOf value test kind level page)
      no_leaves end a l = leaf_behind a l (omega arith)

  module _ {S : Type 0} where
    -- a place of a page of a table
    abbrev pub LeafKey : ℕ → IndexMap ℕ Mark S → ℕ → ℕ → ℕ → Type 0
    LeafKey level table j p a = (is_some (get nat_eq table p) ≡ true) × LeafOf value test kind level p a

    pub all_keyed : (level : ℕ) (table : IndexMap ℕ Mark S) (n : ℕ) (o : Option ℕ) → index_map_len table ≤ n
        → LeastOf (Before (AtItem (keys table) (LeafKey level table)) n) o → LeastOf (LeafIn value test kind level table) o
    all_keyed level table n o end = item_all (keys table) (LeafKey level table) (LeafIn value test kind level table) n o
        (subst (λ m. m ≤ n) (sym (length-map table.entries (λ e. e.0))) end)
        (λ j a k. record { page = k.0; has = k.2.0; leaf = k.2.1 })
        (λ a l. let k = key_at table l.page l.has in (k.0, (l.page, k.2, (l.has, l.leaf))))

    -- a place of a page of the table of a level
    abbrev pub LeafTable : ℕ → ℕ → IndexMap ℕ Mark S → ℕ → Type 0
    LeafTable start depth = LeafIn value test kind (start + depth)

    pub all_leaves : (tables : List (IndexMap ℕ Mark S)) (start n : ℕ) (o : Option ℕ) → length tables ≤ n
        → LeastOf (Before (AtItem tables (LeafTable start)) n) o → LeastOf (LeafPlace tables value test kind start) o
    all_leaves tables start n o end = item_all tables (LeafTable start) (LeafPlace tables value test kind start) n o end
        (λ j a l. record { depth = j; table = l.0; at = l.1; leaf = l.2 }) (λ a l. (l.depth, (l.table, l.at, l.leaf)))
