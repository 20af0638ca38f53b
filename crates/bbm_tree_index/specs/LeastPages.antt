-- The least page that keeps pages from being attached, and the least place, by the tables of a survey.
-- Source: project's own choice.
use Rattle.std.specs.Prelude.{◌≡◌, ℕ, ◌+◌, ◌<◌, Bool, true, false, List, Option, Some, None, Contains, length}
use Rattle.std.specs.Prelude.{is_some, nat_eq, nat_lt, slice_get, if◌then◌else◌, zero, suc, not}
use Rattle.std.specs.Prelude.{◌%◌, ◌==◌, ◌&&◌, ◌||◌}
use Rattle.indexmap.specs.IndexMap.{IndexMap, get}
use Rattle.bbm_descriptor.specs.Descriptor.{desc_of}
use Rattle.bbm_descriptor.specs.Fields.{contiguous_of, not_global}
use Rattle.bbm_descriptor.specs.declared.desc.Desc.{Desc}
use Rattle.bbm_regimes.specs.declared.regime.Kind.{Kind}
use Rattle.bbm_rules.specs.Tree.{Node}
use Rattle.bbm_place_map.specs.Map.{value_at}
use Rattle.bbm_place_map.specs.declared.map.PlaceMap.{PlaceMap}
use Rattle.bbm_tree_index.specs.Index.{fresh_in, heading_of}
use Rattle.bbm_tree_index.specs.declared.role.Attach.{Attach}
use Rattle.bbm_tree_index.specs.HeldCores.{is_at}
use Rattle.bbm_tree_index.specs.Attaching.{IsLeast, Never, is_bad, is_user_global}
use Rattle.bbm_tree_index.specs.PageTables.{HasPages}
use Rattle.bbm_tree_index.specs.Paths.{starts_of}
use Rattle.bbm_tree_index.specs.Survey.{Counts, Reached, Starting, Surveyed}
use Rattle.bbm_tree_index.specs.declared.index.TreeIndex.{TreeIndex}
use Rattle.bbm_tree_index.specs.declared.judge.Leaf.{Leaf}
use Rattle.bbm_tree_index.specs.declared.judge.Leaf.TheVariants.{Contiguous, UserGlobal}
use Rattle.bbm_tree_index.specs.declared.mark.Mark.{Mark}

-- the least number that passes, None where none does
abbrev pub LeastOf : (ℕ → Type 0) → Option ℕ → Type 0
LeastOf passes None = Never passes
LeastOf passes (Some n) = IsLeast passes n

abbrev pub lesser : Option ℕ → Option ℕ → Option ℕ
lesser None o = o
lesser (Some n) None = Some n
lesser (Some n) (Some m) = if nat_lt m n then Some m else Some n

-- it passes by one of the first indices
pub record Before (passes : ℕ → ℕ → Type 0) (n m : ℕ) : Type 0 where
  pub index : ℕ
  pub below : index < n
  pub that : passes index m

-- a leaf that is asked for
abbrev pub asks : Leaf → Kind → Desc → Bool
asks Contiguous kind desc = is_bad kind desc
asks UserGlobal kind desc = is_user_global kind desc

-- Bits [1:0] of a leaf, by its level; 4, which no value has there, where there is none.
-- Source: Arm ARM (DDI 0487), "VMSAv8-64 descriptor formats".
abbrev pub leaf_bits : ℕ → ℕ
leaf_bits zero = 4
leaf_bits (suc zero) = 1
leaf_bits (suc (suc zero)) = 1
leaf_bits _ = 3

-- A value isn't that of a leaf with the Contiguous hint, nor, in a tree of the lower range, that of one for every ASID.
-- Leaves have these bits [1:0].
abbrev pub spares : Bool → ℕ → ℕ → Bool
spares lower bits value = not (value % 4 == bits)
    || (not (contiguous_of value) && not (lower && not (not_global value)))

-- a place of the page, read at a kind and a level, has a descriptor that passes the test
pub record LeafOf (value : ℕ → ℕ) (test : Kind → Desc → Bool) (kind : Kind) (level page a : ℕ) : Type 0 where
  pub inside : is_at page a ≡ true
  pub passes : test kind (desc_of kind level (value a)) ≡ true

module _ {S : Type 0} where
  abbrev pub HavePages : List (IndexMap ℕ Mark S) → Type 0
  HavePages tables = (k : ℕ) (table : IndexMap ℕ Mark S) → slice_get tables k ≡ Some table → HasPages table

  -- a place of a page of the table
  pub record LeafIn (value : ℕ → ℕ) (test : Kind → Desc → Bool) (kind : Kind) (level : ℕ) (table : IndexMap ℕ Mark S)
      (a : ℕ) : Type 0 where
    pub page : ℕ
    pub has : is_some (get nat_eq table page) ≡ true
    pub leaf : LeafOf value test kind level page a

  module _ (tables : List (IndexMap ℕ Mark S)) where
    -- a place of a page of a table, where the first stands for this level
    pub record LeafPlace (value : ℕ → ℕ) (test : Kind → Desc → Bool) (kind : Kind) (start a : ℕ) : Type 0 where
      pub depth : ℕ
      pub table : IndexMap ℕ Mark S
      pub at : slice_get tables depth ≡ Some table
      pub leaf : LeafIn value test kind (start + depth) table a

    -- the page is in a table of another level
    pub record Elsewhere (level page : ℕ) : Type 0 where
      pub other : ℕ
      pub apart : other ≡ level → ⊥
      pub table : IndexMap ℕ Mark S
      pub at : slice_get tables other ≡ Some table
      pub has : is_some (get nat_eq table page) ≡ true

    module _ (fresh : ℕ → Bool) (named : Bool) where
      -- what is wrong with a page of a level
      pub data Wrong (level page : ℕ) (mark : Mark) : Type 0 where
        unfresh : fresh page ≡ false → (named ≡ true → level ≡ 0 → ⊥) → Wrong level page mark
        many : mark.many ≡ true → Wrong level page mark
        elsewhere : Elsewhere level page → Wrong level page mark

      -- a page with a wrong mark in the table of a level
      pub record WrongIn (level : ℕ) (table : IndexMap ℕ Mark S) (page : ℕ) : Type 0 where
        pub mark : Mark
        pub has : get nat_eq table page ≡ Some mark
        pub wrong : Wrong level page mark

      -- a page that is wrong at some level
      pub record WrongPage (page : ℕ) : Type 0 where
        pub level : ℕ
        pub table : IndexMap ℕ Mark S
        pub at : slice_get tables level ≡ Some table
        pub wrong : WrongIn level table page

    -- the tables tell the nodes that paths reach from the starts, which have this kind and this level, up to level 3
    pub record Told (fresh : ℕ → Bool) (value : ℕ → ℕ) (starts : List Node) (kind : Kind) (level : ℕ) : Type 0 where
      pub count : level + length tables ≡ 4
      pub same_kind : (s : Node) → Contains starts s → s.kind ≡ kind
      pub same_level : (s : Node) → Contains starts s → s.level ≡ level
      pub apart : (s s' : Node) → Contains starts s → Contains starts s' → s.page ≡ s'.page → s ≡ s'
      pub levels : (k : ℕ) (table : IndexMap ℕ Mark S) → slice_get tables k ≡ Some table
          → (q : ℕ) → Counts (Reached fresh value starts k) q (get nat_eq table q)

    -- The tables tell what paths reach from the starts of what is attached, up to level 3.
    pub record IsSurvey (index : TreeIndex) (map : PlaceMap) (at : Attach) : Type 0 where
      pub first : ℕ → Option Mark
      pub starting : Starting (heading_of index) first (starts_of index at)
      pub surveyed : Surveyed (heading_of index) (fresh_in index) (value_at map) first tables
      pub filled : 0 < length tables
      pub count : (s : Node) → Contains (starts_of index at) s → s.level + length tables ≡ 4
