-- A map whose values or broken places changed.
use Rattle.bbm_place_map.proofs.Common.{◌*◌, length, ◌≡◌, ℕ, Bool, true, false, Some, None, nat_eq, ap, sym, subst}
use Rattle.bbm_place_map.proofs.Common.{eqb-true, ◌∙◌, vec_len, if◌then◌else◌, cond-false, cond-true, Vec, Global}
use Rattle.bbm_place_map.proofs.Common.{bases, in_page, marks_of, page_of, pends_of, IsIdle, Placed, at_index, index_of}
use Rattle.bbm_place_map.proofs.Common.{place_entry, entry_at, AreSeated, BrokenMap, Breaks, Clears, PlaceMap, Frees}
use Rattle.bbm_place_map.proofs.Common.{Marks, List, value_in, split_by, if_then, inl, inr, Broken, Clean, Leaves}
use Rattle.bbm_place_map.proofs.Common.{eq-eqb, false≢true, refl}
use Rattle.bbm_place_map.proofs.Bases.{numbered_in}
use Rattle.bbm_place_map.proofs.Idle.{idle_from}
use Rattle.bbm_place_map.proofs.Linking.{marks_put, pends_put}
use Rattle.bbm_place_map.proofs.Places.{at_page, at_place, index_none}
use Rattle.bbm_place_map.proofs.Positions.{seats_by}
use Rattle.bbm_lemmas.proofs.Bools.{none_unless}
use Rattle.bbm_place_map.specs.Map.{marks_at, pages_of, pends_at, value_at}
use Rattle.bbm_place_map.specs.MapCalls.{Puts}

-- A map hangs together with these values and broken places.
abbrev pub Fits : PlaceMap → Vec ℕ Global → BrokenMap → Type 0
Fits map values broken = record {
  counted : 512 * length map.pages ≡ vec_len values;
  paged : broken.pages ≡ length map.pages;
  placed : Placed (bases map.pages) broken.entries;
}

module _ (map : PlaceMap) (values : Vec ℕ Global) (new : BrokenMap) (many : vec_len values ≡ vec_len map.values)
    (pages : new.pages ≡ map.broken.pages) where
  fits : Placed (bases map.pages) new.entries → Fits map values new
  fits placed = record { counted = map.counted ∙ sym many; paged = pages ∙ map.paged; placed = placed }

  pub fits_seated : AreSeated map.broken.entries new.entries → Fits map values new
  fits_seated seats =
      fits (seats_by (λ p. index_of (bases map.pages) p.0 ≡ Some p.1) map.broken.entries new.entries seats map.placed)

-- so does a map of which a place broke
pub fits_put : (map : PlaceMap) (values : Vec ℕ Global) → vec_len values ≡ vec_len map.values → {new : BrokenMap} {place j : ℕ} {marks : Marks}
    → index_of (bases map.pages) place ≡ Some j → Breaks j place marks map.broken new → Fits map values new
fits_put map values many {new} at breaks =
    let P : ℕ × ℕ × ℕ → Type 0 = λ p. index_of (bases map.pages) p.0 ≡ Some p.1 in
    fits map values new many breaks.pages (λ k e h.
    elim (breaks.seats k e h) [
      | inl was ↦ subst P (sym was.3) (map.placed was.0 was.1 was.2)
      | inr now ↦ ap (index_of (bases map.pages)) now.0 ∙ at ∙ ap (λ (n : ℕ). Some n) (sym now.1)
    ])

-- the same pages are tracked
module _ (map new : PlaceMap) (pages : new.pages ≡ map.pages) where
  entry_then : (a : ℕ) → place_entry new a ≡ at_index None (entry_at new.broken) (index_of (bases map.pages) a)
  entry_then a = ap (λ (ps : List ℕ). at_index None (entry_at new.broken) (index_of (bases ps) a)) pages

  -- a value is written
  pub value_put : {place value j : ℕ} → index_of (bases map.pages) place ≡ Some j
      → ((i : ℕ) → value_in new.values.items i ≡ (if nat_eq i j then value else value_in map.values.items i)) → Puts value place map new
  unfolding pages_of value_at
  value_put {place} {value} {j} at is = record {
    values = λ a.
        ap (λ (ps : List ℕ). at_index 0 (value_in new.values.items) (index_of (bases ps) a)) pages
        ∙ at_place (bases map.pages) (vec_len map.values) (numbered_in map) 0 value (value_in map.values.items)
        (value_in new.values.items) place j at is a;
    pages = pages;
  }

  -- a place is broken
  pub place_marked : {place j : ℕ} {marks : Marks} → index_of (bases map.pages) place ≡ Some j → Breaks j place marks map.broken new.broken
      → Leaves (Broken marks) place map new
  unfolding marks_at pends_at
  place_marked {place} {j} at breaks =
      let put : (a : ℕ) → place_entry new a ≡ (if nat_eq a place then Some breaks.entry.0 else place_entry map a)
      = λ a. entry_then a ∙ at_place (bases map.pages) (vec_len map.values) (numbered_in map) None (Some breaks.entry.0)
      (entry_at map.broken) (entry_at new.broken) place j at breaks.entry.3 a in
      record {
        marks = λ a.
            marks_put (place_entry map) (place_entry new) breaks.entry.0 place put a
            ∙ ap (λ (m : Marks). if nat_eq a place then Some m else marks_of (place_entry map a)) breaks.entry.1;
        pends = λ q a _.
            pends_put (place_entry map) (place_entry new) breaks.entry.0 place put q
            (breaks.entry.2 q ∙ ap (pends_of q) (sym (ap (at_index None (entry_at map.broken)) at))) a;
        dropped = λ q is. absurd (false≢true (sym is));
      }

  -- nothing is at places that a test holds of, and what was there elsewhere
  module _ (gone : ℕ → Bool) (is : (a : ℕ) → place_entry new a ≡ (if gone a then None else place_entry map a)) where
    marks_left : (a : ℕ) → marks_at new a ≡ (if gone a then None else marks_at map a)
    unfolding marks_at
    marks_left a = ap marks_of (is a) ∙ if_then marks_of (gone a) None (place_entry map a)

    pends_left : (q a : ℕ) → gone a ≡ false → pends_at new q a ≡ pends_at map q a
    unfolding pends_at
    pends_left q a off = ap (pends_of q) (is a ∙ cond-false (gone a) None (place_entry map a) off)

    pends_gone : (q a : ℕ) → gone a ≡ true → IsIdle (pends_at new q a)
    unfolding pends_at
    pends_gone q a on = idle_from (pends_at new q a) (ap (pends_of q) (is a ∙ cond-true (gone a) None (place_entry map a) on))

  pub place_cleared : {place j : ℕ} → index_of (bases map.pages) place ≡ Some j → Clears (λ i. nat_eq i j) map.broken new.broken
      → Leaves Clean place map new
  place_cleared {place} {j} at clears =
      let gone : ℕ → Bool = λ a. nat_eq a place in
      let is : (a : ℕ) → place_entry new a ≡ (if gone a then None else place_entry map a)
      = λ a. entry_then a ∙ at_place (bases map.pages) (vec_len map.values) (numbered_in map) None None (entry_at map.broken)
      (entry_at new.broken) place j at clears.entries a in
      record {
        marks = marks_left gone is;
        pends = λ q a off. pends_left gone is q a (none_unless (gone a) false refl off);
        dropped = λ q _. pends_gone gone is q place (eq-eqb place place refl);
      }

  pub page_cleared : {page b : ℕ} → bases map.pages page ≡ Some b → Clears (in_page b 512) map.broken new.broken → Frees page map new
  page_cleared {page} {b} at clears =
      let gone : ℕ → Bool = λ a. nat_eq (page_of a) page in
      let is : (a : ℕ) → place_entry new a ≡ (if gone a then None else place_entry map a)
      = λ a. entry_then a ∙ at_page (bases map.pages) (vec_len map.values) (numbered_in map) None (entry_at map.broken)
      (entry_at new.broken) page b at clears.entries a in
      record { marks = marks_left gone is; pends = pends_left gone is; dropped = pends_gone gone is }

-- a page that isn't tracked has no broken place
pub frees_untracked : (map new : PlaceMap) (page : ℕ) → bases map.pages page ≡ None
    → ((a : ℕ) → marks_at new a ≡ marks_at map a) → ((q a : ℕ) → pends_at new q a ≡ pends_at map q a) → Frees page map new
unfolding marks_at pends_at
frees_untracked map new page none marks pends = record {
  marks = λ a. split_by (nat_eq (page_of a) page) (λ same. marks a ∙ ap marks_of (no_entry a same)) (λ off. marks a);
  pends = λ q a off. pends q a;
  dropped = λ q a same. idle_from (pends_at new q a) (pends q a ∙ ap (pends_of q) (no_entry a same));
}
  where
    no_entry : (a : ℕ) → nat_eq (page_of a) page ≡ true → place_entry map a ≡ None
    no_entry a same =
        ap (at_index None (entry_at map.broken))
        (index_none (bases map.pages) a (ap (bases map.pages) (eqb-true (page_of a) page same) ∙ none))
