-- Which PEs hold a tag for a root, or keep one that a root left: a map from the key of a tag to the root and the set of
-- them.
use Rattle.std.specs.Prelude.{◌≡◌, ℕ, zero, suc, ◌+◌, ◌*◌, Bool, true, false, not, ◌&&◌, ◌||◌, nat_eq, ◌==◌, List}
use Rattle.std.specs.Prelude.{Option, Some, None, is_some}
pub use Rattle.bbm_lemmas.specs.ListWords.{same_flag, some_pe}
use Rattle.bbm_regimes.specs.PeMask.{pe_in}
use Rattle.indexmap.specs.IndexMap.{IndexMap, get}
use Rattle.bbm_regimes.specs.declared.regime.Tag.{Tag}
use Rattle.bbm_regimes.specs.declared.regime.Tag.TheVariants.{El2 as El2Tag, Vmid, Asid, Ttbr1 as Ttbr1Tag}
use Rattle.bbm_roots.specs.declared.hold.Held.{Held}
use Rattle.bbm_roots.specs.Readings.{has_reading, has_other, has_tag, is_reading, is_of_tag, is_other}
use Rattle.bbm_roots.specs.declared.reading.Reading.{Reading}

-- Whether an entry is that of the root: of one that holds the tag, or, where `left`, of one that was given up and left
-- it. And whether it is so with the PE p in it.
abbrev pub is_kept_by : Bool → ℕ → Held → Bool
is_kept_by left root held = held.root == root && same_flag left held.left

abbrev pub is_hold : ℕ → Held → Bool
is_hold root held = is_kept_by false root held

abbrev pub keeps_bit : Bool → ℕ → ℕ → Held → Bool
keeps_bit left root p held = is_kept_by left root held && pe_in held.pes p

-- The key of a tag, and the tag with a key: each number is the key of one tag. Source: project's own choice.
abbrev pub tag_key : Tag → ℕ
tag_key El2Tag = 0
tag_key Ttbr1Tag = 1
tag_key (Vmid v) = 2 * v + 2
tag_key (Asid a) = 2 * a + 3

abbrev pub tag_after : Tag → Tag
tag_after El2Tag = Vmid zero
tag_after Ttbr1Tag = Asid zero
tag_after (Vmid v) = Vmid (suc v)
tag_after (Asid a) = Asid (suc a)

abbrev pub tag_with : ℕ → Tag
tag_with zero = El2Tag
tag_with (suc zero) = Ttbr1Tag
tag_with (suc (suc key)) = tag_after (tag_with key)

abbrev pub entry_bit : Bool → ℕ → ℕ → Option Held → Bool
entry_bit left root p None = false
entry_bit left root p (Some held) = keeps_bit left root p held

-- whether an entry has p in it, whosever it is
abbrev pub entry_keeps : ℕ → Option Held → Bool
entry_keeps p None = false
entry_keeps p (Some held) = pe_in held.pes p

-- whether the root holds the entry's tag, or left it, at one of the first n PEs
abbrev pub is_kept_somewhere : Bool → ℕ → ℕ → Held → Bool
is_kept_somewhere left n root held = is_kept_by left root held && some_pe n (pe_in held.pes)

-- whether it holds it there, by the entry under a key, where that is the key of the tag
abbrev pub is_held_under : ℕ → Tag → ℕ → ℕ → Held → Bool
is_held_under n tag root key held = tag_key tag == key && is_kept_somewhere false n root held

abbrev pub entry_kept : Bool → ℕ → ℕ → Option Held → Bool
entry_kept left n root None = false
entry_kept left n root (Some held) = is_kept_somewhere left n root held

module _ {S : Type 0} (holds : IndexMap ℕ Held S) where
  -- whether there is an entry of the tag
  abbrev pub has_entry : Tag → Bool
  has_entry tag = is_some (get nat_eq holds (tag_key tag))

  -- whether the tag is held or left at p, by any root
  abbrev pub kept_in : Tag → ℕ → Bool
  kept_in tag p = entry_keeps p (get nat_eq holds (tag_key tag))

  -- whether the root keeps it at p: it holds it, or, where `left`, it was given up and left it
  abbrev pub keeps_in : Bool → Tag → ℕ → ℕ → Bool
  keeps_in left tag root p = entry_bit left root p (get nat_eq holds (tag_key tag))

  abbrev pub hold_in : Tag → ℕ → ℕ → Bool
  hold_in tag root p = keeps_in false tag root p

  abbrev pub left_in : Tag → ℕ → ℕ → Bool
  left_in tag root p = keeps_in true tag root p

  -- and at one of the first n PEs
  abbrev pub kept_tag : Bool → ℕ → Tag → ℕ → Bool
  kept_tag left n tag root = entry_kept left n root (get nat_eq holds (tag_key tag))

  abbrev pub tag_in : ℕ → Tag → ℕ → Bool
  tag_in n tag root = kept_tag false n tag root

  -- whether the root holds its tag, or is about to, while the tag is about to be readable for another root; or it left
  -- the tag, which is about to be readable
  abbrev pub conflict_in : ℕ → List Reading → Reading → Bool
  conflict_in n seen x =
      (has_other x.tag x.root seen && (has_reading x.tag x.root seen || tag_in n x.tag x.root))
      || (has_tag x.tag seen && kept_tag true n x.tag x.root)

  -- whether the root keeps the tag of a reading that is about to be readable: another root that holds it, or one that
  -- left it
  abbrev pub keeps_other : ℕ → Reading → Reading → Bool
  keeps_other n reading x = (is_other x.tag x.root reading && tag_in n x.tag x.root)
      || (is_of_tag x.tag reading && kept_tag true n x.tag x.root)

  -- the same as `conflict_in`, as one of the tags that are about to be readable shows it
  abbrev pub is_clash : ℕ → List Reading → Reading → Reading → Bool
  is_clash n seen x reading =
      (is_reading x.tag x.root reading && has_other x.tag x.root seen) || keeps_other n reading x

  -- no tag that is about to be readable for one root is held for another, or about to be, or left
  pub record IsCalm (seen : List Reading) : Type 0 where
    pub others : (tag : Tag) (root : ℕ) → has_other tag root seen ≡ true
        → (has_reading tag root seen ≡ false) × ((p : ℕ) → hold_in tag root p ≡ false)
    pub none_left : (tag : Tag) (root p : ℕ) → has_tag tag seen ≡ true → left_in tag root p ≡ false

module _ {S : Type 0} (old new : IndexMap ℕ Held S) where
  -- nobody holds more or less, and no more or less is left
  abbrev pub SameHolds : Type 0
  SameHolds = (left : Bool) (tag : Tag) (root p : ℕ) → keeps_in new left tag root p ≡ keeps_in old left tag root p

  -- the PE holds the tags of the readings for their roots, and nothing else changes
  pub record Marks (pe : ℕ) (readings : List Reading) : Type 0 where
    pub held : (tag : Tag) (root p : ℕ) → hold_in new tag root p
        ≡ (hold_in old tag root p || (nat_eq p pe && has_reading tag root readings))
    pub left : (tag : Tag) (root p : ℕ) → left_in new tag root p ≡ left_in old tag root p

  -- the root with this first page leaves what it held of the tags that pass the test, and nothing else changes
  pub record LeavesThose (page : ℕ) (test : Tag → Bool) : Type 0 where
    pub held : (tag : Tag) (root p : ℕ) → hold_in new tag root p
        ≡ (hold_in old tag root p && not (nat_eq root page && test tag))
    pub left : (tag : Tag) (root p : ℕ) → left_in new tag root p
        ≡ (left_in old tag root p || ((nat_eq root page && test tag) && hold_in old tag root p))

  -- it leaves all that it held
  abbrev pub Leaves : ℕ → Type 0
  Leaves page = LeavesThose page (λ tag. true)
