-- Which tags a root may hold: a map from its first page to tags, by their keys. Source: project's own choice.
use Rattle.std.specs.Prelude.{◌≡◌, ℕ, Bool, true, false, nat_eq, Option, Some, None, is_some}
use Rattle.indexmap.specs.IndexMap.{IndexMap, get}
use Rattle.bbm_regimes.specs.declared.regime.Tag.{Tag}
use Rattle.bbm_roots.specs.Holds.{hold_in, tag_key}
use Rattle.bbm_roots.specs.declared.hold.Held.{Held}

-- whether the tags of a root have one with this key
abbrev pub has_key : {V S : Type 0} → ℕ → Option (IndexMap ℕ V S) → Bool
has_key key None = false
has_key key (Some tags) = is_some (get nat_eq tags key)

module _ {V S T : Type 0} where
  -- whether the root may hold the tag with this key
  abbrev pub is_listed : IndexMap ℕ (IndexMap ℕ V S) T → ℕ → ℕ → Bool
  is_listed by_root root key = has_key key (get nat_eq by_root root)

  -- what a root may hold it still may
  abbrev pub ListsMore : IndexMap ℕ (IndexMap ℕ V S) T → IndexMap ℕ (IndexMap ℕ V S) T → Type 0
  ListsMore old new = (root key : ℕ) → is_listed old root key ≡ true → is_listed new root key ≡ true

  -- each tag that a root holds is one that it may hold
  abbrev pub AreListed : {R : Type 0} → IndexMap ℕ Held R → IndexMap ℕ (IndexMap ℕ V S) T → Type 0
  AreListed holds by_root = (tag : Tag) (root p : ℕ) → hold_in holds tag root p ≡ true
      → is_listed by_root root (tag_key tag) ≡ true
