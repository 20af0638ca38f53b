-- The entries of the tags that are held, found by the key of a tag or one after another.
use Rattle.bbm_roots.proofs.Common.{tag_equal, ◌≡◌, ◌+◌, ◌<◌, ◌≤◌, ℕ, Bool, true, false, ◌&&◌, ◌||◌, nat_eq, List}
use Rattle.bbm_roots.proofs.Common.{slice_get, get_or_from_slice_get, arith, nat_tests, [], ◌∷◌, Option, Some}
use Rattle.bbm_roots.proofs.Common.{None, cond, refl, sym, ◌∙◌, ap, take, length, list_any, lookup, false≢true}
use Rattle.bbm_roots.proofs.Common.{take_all, IndexMap, get, keys, Tag, entry_bit, entry_kept, is_held_under, is_of_tag}
use Rattle.bbm_roots.proofs.Common.{hold_in, tag_in, tag_key, tag_with, same_tag, has_other, is_reading, Held, Reading}
use Rattle.bbm_roots.proofs.Common.{not, entry_keeps, keeps_in, kept_in, kept_tag, LeavesThose, Marks, has_tag, has_reading}
use Rattle.bbm_roots.proofs.Common.{eq-eqb, eqb-true, first_true, left_in, same_flag, same_swapped, subst, Leaves}
use Rattle.std.specs.List.{AllByRecursion, IsDistinct}
use Rattle.std.specs.Map.{keys_of}
use Rattle.bbm_roots.specs.Holds.{is_kept_somewhere, keeps_other}
use Rattle.bbm_roots.specs.Keyed.{OthersStay}
use Rattle.bbm_roots.proofs.Keys.{same-key}
use Rattle.bbm_roots.proofs.Tests.{and_right, as-same, any-next, any-front, any-weaker, or-split}

-- what finds an entry, one of the keys passes
found-among : (test : ℕ → Bool) (p : ℕ) (es : List (ℕ × Held)) → entry_keeps p (lookup test es) ≡ true →
    list_any test (keys_of es) ≡ true
found-among test p [] e = absurd (false≢true e)
found-among test p (x ∷ xs) e = grind (arith, found-among test p xs)

-- whether a key is that of the tag
abbrev pub is_key_of : Tag → ℕ → Bool
is_key_of g key = same_tag (tag_with key) g

-- the key of a tag that is held is there
pub held-among : {S : Type 0} (hs : IndexMap ℕ Held S) (g : Tag) (p : ℕ) → kept_in hs g p ≡ true → list_any (is_key_of g) (keys hs) ≡ true
held-among hs g p e =
    any-weaker (nat_eq (tag_key g)) (is_key_of g) (λ (key : ℕ) k. sym (same-key g key) ∙ k) (keys hs)
    (found-among (nat_eq (tag_key g)) p hs.entries e)

-- what a root keeps is kept
pub by-root : {S : Type 0} (hs : IndexMap ℕ Held S) (l : Bool) (g : Tag) (r p : ℕ) → keeps_in hs l g r p ≡ true
    → kept_in hs g p ≡ true
by-root hs l g r p = by (get nat_eq hs (tag_key g))
  where
    by : (o : Option Held) → entry_bit l r p o ≡ true → entry_keeps p o ≡ true
    by None e = e
    by (Some held) e = grind (arith)

-- and a root keeps what is kept
pub some-root : {S : Type 0} (hs : IndexMap ℕ Held S) (g : Tag) (p : ℕ) → kept_in hs g p ≡ true
    → (l : Bool) × (r : ℕ) × (keeps_in hs l g r p ≡ true)
some-root hs g p = by (get nat_eq hs (tag_key g))
  where
    own : (l : Bool) → same_flag l l ≡ true
    own true = refl
    own false = refl

    by : (o : Option Held) → entry_keeps p o ≡ true → (l : Bool) × (r : ℕ) × (entry_bit l r p o ≡ true)
    by None e = absurd (false≢true e)
    by (Some held) e = (
      held.left,
      held.root,
      rw (eq-eqb held.root held.root refl, own held.left) e,
    )

-- where each root keeps no more, no more is kept
pub no-more : {S T : Type 0} (old : IndexMap ℕ Held S) (new : IndexMap ℕ Held T) (g : Tag) (p : ℕ)
    → ((l : Bool) (r : ℕ) → keeps_in new l g r p ≡ true → keeps_in old l g r p ≡ true)
    → kept_in new g p ≡ true → kept_in old g p ≡ true
no-more old new g p less e = let s = some-root new g p e in by-root old s.0 g s.1 p (less s.0 s.1 s.2)

-- what a root leaves was held
pub left-kept : {S : Type 0} (old new : IndexMap ℕ Held S) (page : ℕ) (test : Tag → Bool) → LeavesThose old new page test
    → (g : Tag) (p : ℕ) → kept_in new g p ≡ true → kept_in old g p ≡ true
left-kept old new page test leaves g p e = let s = some-root new g p e in by s.0 s.1 s.2
  where
    by : (l : Bool) (r : ℕ) → keeps_in new l g r p ≡ true → kept_in old g p ≡ true
    by false r k = by-root old false g r p (first_true (hold_in old g r p) _ (sym (leaves.held g r p) ∙ k))
    by true r k = or-split (left_in old g r p) _ (kept_in old g p ≡ true) (by-root old true g r p)
        (λ a. by-root old false g r p (and_right (nat_eq r page && test g) (hold_in old g r p) a))
        (sym (leaves.left g r p) ∙ k)

-- what is held after the readings of a PE are marked was kept, or is one of them
pub marked-kept : {S : Type 0} (old new : IndexMap ℕ Held S) (pe : ℕ) (seen : List Reading) → Marks old new pe seen
    → (g : Tag) (p : ℕ) → (nat_eq p pe && has_tag g seen) ≡ false → kept_in new g p ≡ true → kept_in old g p ≡ true
marked-kept old new pe seen marks g p none e = let s = some-root new g p e in by s.0 s.1 s.2
  where
    read : (r : ℕ) → has_reading g r seen ≡ true → has_tag g seen ≡ true
    read r = any-weaker (is_reading g r) (is_of_tag g) (λ (x : Reading) k. first_true (same_tag x.tag g) (nat_eq x.root r) k) seen

    by : (l : Bool) (r : ℕ) → keeps_in new l g r p ≡ true → kept_in old g p ≡ true
    by false r k = or-split (hold_in old g r p) (nat_eq p pe && has_reading g r seen) (kept_in old g p ≡ true)
        (by-root old false g r p)
        (λ a. absurd (false≢true (sym none ∙ rw (first_true (nat_eq p pe) (has_reading g r seen) a)
        (read r (and_right (nat_eq p pe) (has_reading g r seen) a)))))
        (sym (marks.held g r p) ∙ k)
    by true r k = by-root old true g r p (sym (marks.left g r p) ∙ k)

module _ (n root : ℕ) where
  -- whether an entry with its key shows that the root holds the tag
  abbrev pub shows : Tag → ℕ × Held → Bool
  shows g e = is_held_under n g root e.0 e.1

  none-shows : (g : Tag) (key : ℕ) (es : List (ℕ × Held)) → tag_key g ≡ key → AllByRecursion (λ q. nat_eq key q ≡ false) (keys_of es) →
      list_any (shows g) es ≡ false
  none-shows g key [] same apart = refl
  none-shows g key (e ∷ es) same apart =
      ap (λ (b : Bool). (b && is_kept_somewhere false n root e.1) || list_any (shows g) es) (ap (λ (q : ℕ). nat_eq q e.0) same ∙ apart.0)
      ∙ none-shows g key es same apart.1

  -- where no key is twice there, an entry shows what the one that is found under the tag's key says
  shown-among : (g : Tag) (es : List (ℕ × Held)) → IsDistinct nat_eq (keys_of es) →
      list_any (shows g) es ≡ entry_kept false n root (lookup (nat_eq (tag_key g)) es)
  unfolding IsDistinct
  shown-among g [] distinct = refl
  shown-among g (e ∷ es) distinct =
      let none = λ (at : tag_key g ≡ e.0). none-shows g e.0 es at distinct.0 in
      grind (arith, nat_tests, shown-among g es distinct.1)

  module _ {S : Type 0} (hs : IndexMap ℕ Held S) (i : ℕ) where
    -- whether one of the first entries shows it
    abbrev pub shows_before : Tag → Bool
    shows_before g = list_any (shows g) (take i hs.entries)

    pub shown-next : (e : ℕ × Held) → i < length hs.entries → slice_get hs.entries i ≡ Some e → (g : Tag) →
        list_any (shows g) (take (i + 1) hs.entries) ≡ (shows_before g || shows g e)
    shown-next e below found g = any-next (shows g) hs.entries i e below (sym (get_or_from_slice_get hs.entries i e e found))

    pub shown-front : IsDistinct nat_eq (keys_of hs.entries) → (g : Tag) → shows_before g ≡ true → tag_in hs n g root ≡ true
    shown-front distinct g e = sym (shown-among g hs.entries distinct) ∙ any-front (shows g) i hs.entries e

    pub shown : IsDistinct nat_eq (keys_of hs.entries) → length hs.entries ≤ i → (g : Tag) → tag_in hs n g root ≡ shows_before g
    shown distinct all g = sym (ap (list_any (shows g)) (take_all i hs.entries all) ∙ shown-among g hs.entries distinct)

-- one more reading, whose PE is put into its tag's entry for its root alone
pub marked-step : (same here held pe seen : Bool) → (same ≡ true → here ≡ false → held ≡ false) →
    (same ≡ true → here ≡ false → seen ≡ false) →
    cond same (here && ((held || (pe && seen)) || pe)) (held || (pe && seen)) ≡ (held || (pe && (seen || (same && here))))
marked-step same here held pe seen = grind (arith)

-- the reading of a tag and a root, which is this one
pub reading-clash : (y : Reading) (seen : List Reading) → has_other y.tag y.root seen ≡ true → (x : Reading) →
    (is_reading x.tag x.root y && has_other x.tag x.root seen) ≡ (same_tag y.tag x.tag && nat_eq y.root x.root)
reading-clash y seen other x =
    let there : is_reading x.tag x.root y ≡ true → has_other x.tag x.root seen ≡ true =
    λ e. as-same (λ g r. has_other g r seen ≡ true) y.tag x.tag y.root x.root e other in
    grind (arith)

-- the roots that keep the reading's tag and aren't the reading's that holds it
pub keeper-clash : {S : Type 0} (hs : IndexMap ℕ Held S) (n : ℕ) (y : Reading) (keeps : ℕ → Bool) →
    ((r : ℕ) → ((not (nat_eq y.root r) && tag_in hs n y.tag r) || kept_tag hs true n y.tag r) ≡ keeps r) →
    (x : Reading) → keeps_other hs n y x ≡ (same_tag y.tag x.tag && keeps x.root)
keeper-clash hs n y keeps is x = by (same_tag y.tag x.tag) refl
  where
    by : (b : Bool) → same_tag y.tag x.tag ≡ b → keeps_other hs n y x ≡ (same_tag y.tag x.tag && keeps x.root)
    by false e = rw e refl
    by true e =
        rw e (ap (λ (g : Tag). (not (nat_eq y.root x.root) && tag_in hs n g x.root) || kept_tag hs true n g x.root)
        (sym (tag_equal y.tag x.tag e)) ∙ is x.root)

-- what a root leaves of the tags that pass a test, and then under one key
pub left-under : {S : Type 0} (old now new : IndexMap ℕ Held S) (root key : ℕ) (test : Tag → Bool) → LeavesThose old now root test →
    OthersStay key now new →
    ((r p : ℕ) → entry_bit false r p (get nat_eq new key) ≡ (entry_bit false r p (get nat_eq now key) && not (nat_eq r root))) →
    ((r p : ℕ) → entry_bit true r p (get nat_eq new key)
    ≡ (entry_bit true r p (get nat_eq now key) || (nat_eq r root && entry_bit false r p (get nat_eq now key)))) →
    LeavesThose old new root (λ g. test g || nat_eq (tag_key g) key)
left-under {S} old now new root key test before others held left = record {
  held = λ g r p. let was = before.held g r p in let is = held-new g r p in grind (arith);
  left = λ g r p. let was = before.left g r p in let had = before.held g r p in let is = left-new g r p in grind (arith);
}
  where
    held-new : (g : Tag) (r p : ℕ) → hold_in new g r p
        ≡ cond (nat_eq (tag_key g) key) (hold_in now g r p && not (nat_eq r root)) (hold_in now g r p)
    held-new g r p = by (nat_eq (tag_key g) key) refl
      where
        by : (b : Bool) → nat_eq (tag_key g) key ≡ b
            → hold_in new g r p ≡ cond b (hold_in now g r p && not (nat_eq r root)) (hold_in now g r p)
        by true e = subst (λ (k : ℕ). entry_bit false r p (get nat_eq new k)
            ≡ (entry_bit false r p (get nat_eq now k) && not (nat_eq r root))) (sym (eqb-true (tag_key g) key e)) (held r p)
        by false e = ap (entry_bit false r p) (others (tag_key g) (same_swapped key (tag_key g) ∙ e))

    left-new : (g : Tag) (r p : ℕ) → left_in new g r p ≡ cond (nat_eq (tag_key g) key)
        (left_in now g r p || (nat_eq r root && hold_in now g r p)) (left_in now g r p)
    left-new g r p = by (nat_eq (tag_key g) key) refl
      where
        by : (b : Bool) → nat_eq (tag_key g) key ≡ b
            → left_in new g r p ≡ cond b (left_in now g r p || (nat_eq r root && hold_in now g r p)) (left_in now g r p)
        by true e = subst (λ (k : ℕ). entry_bit true r p (get nat_eq new k) ≡ (entry_bit true r p (get nat_eq now k)
            || (nat_eq r root && entry_bit false r p (get nat_eq now k)))) (sym (eqb-true (tag_key g) key e)) (left r p)
        by false e = ap (entry_bit true r p) (others (tag_key g) (same_swapped key (tag_key g) ∙ e))

pub leaves-same : {S : Type 0} (old new : IndexMap ℕ Held S) (root : ℕ) (test other : Tag → Bool) → ((g : Tag) → other g ≡ test g) →
    LeavesThose old new root test → LeavesThose old new root other
leaves-same old new root test other same leaves = record {
  held = λ g r p. leaves.held g r p ∙ ap (λ (b : Bool). hold_in old g r p && not (nat_eq r root && b)) (sym (same g));
  left = λ g r p. leaves.left g r p ∙ ap (λ (b : Bool). left_in old g r p || ((nat_eq r root && b) && hold_in old g r p)) (sym (same g));
}

-- where each tag that the root holds passes the test, it leaves all
pub leaves-all : {S : Type 0} (old new : IndexMap ℕ Held S) (root : ℕ) (test : Tag → Bool) → LeavesThose old new root test →
    ((g : Tag) (p : ℕ) → hold_in old g root p ≡ true → test g ≡ true) → Leaves old new root
leaves-all old new root test leaves all = record {
  held = λ g r p. let is = leaves.held g r p in let passes = passes g r p in grind (arith);
  left = λ g r p. let is = leaves.left g r p in let passes = passes g r p in grind (arith);
}
  where
    passes : (g : Tag) (r p : ℕ) → nat_eq r root ≡ true → hold_in old g r p ≡ true → test g ≡ true
    passes g r p e held = all g p (ap (λ (n : ℕ). hold_in old g n p) (sym (eqb-true r root e)) ∙ held)
