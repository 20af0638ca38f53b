-- The numbers of pages, and what a contract sees of values by them: the record that it sees of an `IndexMap`, with all
-- its words.
-- Source: project's own choice.
use Rattle.std.specs.Prelude.{◌≡◌, ℕ, zero, suc, ◌*◌, ◌/◌, ◌^◌, ◌≤◌, List, [], ◌∷◌, Option, None, Some, slice_get, length}
use Rattle.std.specs.Prelude.{IfSome, nat_eq, if◌then◌else◌}
use Rattle.std.specs.Option.{option_map}
use Rattle.indexmap.specs.IndexMap.{IndexMap}
use Rattle.bbm_page_map.specs.SlotNodes.{Fits, IsTree, reached}
use Rattle.bbm_page_map.specs.declared.nodes.LastNode.{LastNode}

-- a map from pages, as an `IndexMap` whose hasher tells nothing
abbrev pub PageMapValue : Type 0 → Type 0
PageMapValue V = IndexMap ℕ V (Unit {0})

-- the number of a page in a list: how many come before it; None where it isn't there
abbrev pub number_in : List ℕ → ℕ → Option ℕ
number_in [] page = None
number_in (p ∷ pages) page = if nat_eq p page then Some 0 else option_map (λ n. suc n) (number_in pages page)

-- the number that a slot tells: none where this is 0, else the one below it
abbrev pub entry_of : ℕ → Option ℕ
entry_of zero = None
entry_of (suc k) = Some k

-- the slots lead from each page of the list to its number, and from no other page anywhere
pub record Leads (slots pages : List ℕ) : Type 0 where
  pub tree : IsTree slots
  pub forth : (n k : ℕ) → Fits 5 n → entry_of (reached slots 5 n) ≡ Some k → slice_get pages k ≡ Some (n * 4096)
  pub back : (k page : ℕ) → slice_get pages k ≡ Some page
      → Fits 5 (page / 4096) × (page / 4096 * 4096 ≡ page) × (entry_of (reached slots 5 (page / 4096)) ≡ Some k)

-- The pages have the numbers to which the slots lead. What is kept of look-ups is what they find: where the digits before
-- the last one lead, and the number of a page.
pub record IsNumbering (slots pages : List ℕ) (last : LastNode) (recent : Option (ℕ × ℕ)) : Type 0 where
  pub leads : Leads slots pages
  pub few : length pages ≤ 2 ^ 22
  pub node : last.node ≡ reached slots 4 last.prefix
  pub found : IfSome recent (λ r. number_in pages r.0 ≡ Some r.1)
