-- The tags that a root may hold, looked at one after another.
use Rattle.bbm_roots.proofs.Common.{pe_found, ◌≡◌, ◌+◌, ◌<◌, ℕ, Bool, false, true, ◌&&◌, ◌||◌, nat_eq, List, [], ◌∷◌, arith}
use Rattle.bbm_roots.proofs.Common.{slice_get, get_or_from_slice_get, AreListed, any_both, nat_tests, Some, is_some}
use Rattle.bbm_roots.proofs.Common.{refl, sym, ◌∙◌, ap, take, length, list_any, lookup, IndexMap, Option, get, Tag}
use Rattle.bbm_roots.proofs.Common.{entry_kept, hold_in, tag_in, tag_key, Held}
use Rattle.bbm_roots.specs.TagsByRoot.{has_key}
use Rattle.bbm_roots.proofs.Conflicts.{kept_tag-is}
use Rattle.bbm_roots.proofs.Tests.{any-next}

pub some-lookup : {V : Type 0} (test : ℕ → Bool) (es : List (ℕ × V)) →
    is_some (lookup test es) ≡ list_any (λ (e : ℕ × V). test e.0) es
some-lookup test [] = refl
some-lookup test (e ∷ es) = grind (arith, some-lookup test es)

-- whether an entry is under the key of the tag
abbrev pub is_keyed : {V : Type 0} → Tag → ℕ × V → Bool
is_keyed g e = nat_eq (tag_key g) e.0

module _ {S : Type 0} (hs : IndexMap ℕ Held S) (n root : ℕ) where
  -- what is found under a key shows
  pub keyed : (g : Tag) (key : ℕ) (o : Option Held) → get nat_eq hs key ≡ o →
      (nat_eq (tag_key g) key && tag_in hs n g root) ≡ (nat_eq (tag_key g) key && entry_kept false n root o)
  keyed g key o is = grind (arith, nat_tests)

  -- what the root holds is among what it may hold
  pub held-listed : {V T R : Type 0} (by_root : IndexMap ℕ (IndexMap ℕ V T) R) (o : Option (IndexMap ℕ V T)) →
      AreListed hs by_root → get nat_eq by_root root ≡ o → (g : Tag) → tag_in hs n g root ≡ true →
      has_key (tag_key g) o ≡ true
  held-listed by_root o listed is g e =
      let at = pe_found n (hold_in hs g root) (sym (kept_tag-is hs false n g root) ∙ e) in
      ap (has_key (tag_key g)) (sym is) ∙ listed g root at.0 at.2

  module _ {V : Type 0} where
    -- whether a tag that the root may hold is this one, and the root holds it
    abbrev pub shows_tag : Tag → ℕ × V → Bool
    shows_tag g e = nat_eq (tag_key g) e.0 && tag_in hs n g root

    pub tag-next : (es : List (ℕ × V)) (i : ℕ) (e : ℕ × V) → i < length es → slice_get es i ≡ Some e → (g : Tag) →
        list_any (shows_tag g) (take (i + 1) es) ≡ (list_any (shows_tag g) (take i es) || shows_tag g e)
    tag-next es i e below found g =
        any-next (shows_tag g) es i e below (sym (get_or_from_slice_get es i e e found))

    -- where all that the root holds are among these
    pub all-shown : (g : Tag) (es : List (ℕ × V)) →
        (tag_in hs n g root ≡ true → is_some (lookup (nat_eq (tag_key g)) es) ≡ true) →
        tag_in hs n g root ≡ list_any (shows_tag g) es
    all-shown g es among =
        let found = some-lookup (nat_eq (tag_key g)) es in
        let both = any_both (λ (e : ℕ × V). nat_eq (tag_key g) e.0) (tag_in hs n g root) es in
        grind (arith)
