-- What the slots of the nodes lead to, and which slots are sound.
-- Source: project's own choice.
use Rattle.std.specs.Prelude.{◌≡◌, ℕ, zero, suc, ◌+◌, ◌*◌, ◌/◌, ◌%◌, ◌^◌, ◌<◌, ◌≤◌, List, slice_index_or, length, Vec}
use Rattle.std.specs.Prelude.{vec_len, vec_capacity}
use Rattle.std.specs.declared.alloc.Global.{Global}

-- what stands in a slot; 0 past the last one
abbrev pub slot : List ℕ → ℕ → ℕ
slot slots i = slice_index_or slots i 0

-- A number has six digits in base 64 or fewer; a prefix of it has the first of them. What a prefix leads to after
-- `depth` steps, one for each of its digits but the first: that one chooses a first node, and each further one a slot
-- of the 64 of a node, in which a number stands. Node 0 leads nowhere.
unfoldable pub reached : List ℕ → ℕ → ℕ → ℕ
reached slots zero prefix = 1 + prefix
reached slots (suc depth) prefix = slot slots (64 * reached slots depth (prefix / 64) + prefix % 64)

-- the prefix has no more digits than the first and `depth` more
unfoldable pub Fits : ℕ → ℕ → Type 0
Fits zero prefix = prefix < 64
Fits (suc depth) prefix = Fits depth (prefix / 64)

-- The slots are whole nodes, from where there are any the first 64 among them, and node 0, which leads nowhere. What a
-- prefix of one to five digits leads to is a node, and no two lead to the same one.
pub record IsTree (slots : List ℕ) : Type 0 where
  pub whole : length slots % 64 ≡ 0
  pub blank : (i : ℕ) → i < 64 → slot slots i ≡ 0
  pub within : (depth prefix : ℕ) → depth < 5 → Fits depth prefix → 0 < length slots
      → 64 * reached slots depth prefix + 64 ≤ length slots
  pub apart : (d e m n : ℕ) → d < 5 → e < 5 → Fits d m → Fits e n → reached slots d m ≡ reached slots e n
      → 0 < reached slots d m → (d ≡ e) × (m ≡ n)

-- what all six digits of a number lead to stays
abbrev pub LeadsAlike : List ℕ → List ℕ → Type 0
LeadsAlike old new = (number : ℕ) → Fits 5 number → reached new 5 number ≡ reached old 5 number

-- there is room for the nodes that a further page may take, and their numbers are small
pub record HasSlots (slots : Vec ℕ Global) : Type 0 where
  pub some : 0 < vec_len slots
  pub room : vec_len slots + 256 ≤ vec_capacity slots
  pub few : vec_len slots + 256 ≤ 2 ^ 32
