-- What the issue of a TLBI notes, of a place.
use Rattle.bbm_place_map.proofs.Common.{◌≡◌, ℕ, true, false, ◌<◌, List, length, Option, Some, None, is_some, refl, ap}
use Rattle.bbm_place_map.proofs.Common.{bases, sym, subst, ◌∙◌, arith, slice_get, get_or, option_map, slice_get_within}
use Rattle.bbm_place_map.proofs.Common.{unwrap_or, slice_get-get_or, Cover, Noted, Broken, entry_of, pends_in, pends_of}
use Rattle.bbm_place_map.proofs.Common.{cover_in, is_found, FoundAs, NotesAmong, NotesAt, index_of, at_index, state_at}
use Rattle.bbm_place_map.proofs.Common.{state_from, entry_at, number_at, place_entry, Vec, Global, Entry, Pending}
use Rattle.bbm_place_map.proofs.Common.{Found, Issuing, false≢true, marks_of, BrokenMap, EachAdvances, IsOnce, PlaceMap}
use Rattle.bbm_place_map.proofs.Common.{Marks, none-some, same_Some, ◌≢◌, value_in, IsSame, Keeps}
use Rattle.bbm_place_map.specs.MapCalls.{NotesOnly}
use Rattle.std.proofs.lemmas.Bool.{eqb-false}
use Rattle.bbm_place_map.proofs.Clearing.{Fits, fits_seated}
use Rattle.bbm_place_map.proofs.Keeping.{numbers_moved, seats_moved}
use Rattle.bbm_place_map.specs.Map.{pages_of, marks_at, pends_at, restless_in, restless_place, value_at}
use Rattle.bbm_place_map.proofs.Advancing.{by_entries, column_kept}
use Rattle.bbm_place_map.proofs.Finding.{cover_is}
use Rattle.bbm_place_map.proofs.Reaching.{at_each}
use Rattle.bbm_place_map.proofs.Restless.{entry_here, entry_seat, place_is, place_of}
use Rattle.bbm_place_map.proofs.Seats.{entry_there}

pub cover_read : (covers : List Cover) (i : ℕ) (x y : Cover) → i < length covers → x ≡ get_or covers i x → y ≡ x → slice_get covers i ≡ Some y
cover_read covers i x y within is same = slice_get-get_or covers i x within ∙ ap (λ (c : Cover). Some c) (sym is ∙ sym same)

pub fits_each : {R : ℕ → Entry → Entry → Type 0} (map : PlaceMap) {new : BrokenMap} → EachAdvances R map.broken new → Fits map map.values new
fits_each map {new} changed = fits_seated map map.values new refl changed.same.pages (seats_moved changed)

-- the entries change each in its place
module _ {R : ℕ → Entry → Entry → Type 0} (map new : PlaceMap) (pages : new.pages ≡ map.pages) (changed : EachAdvances R map.broken new.broken) where
  -- what holds where a place isn't broken, and of its entry where it is, holds
  module _ (P : Option Entry → Option Entry → Type 0) (a : ℕ) (none : place_entry map a ≡ None → P None None)
      (some : (m : ℕ) (e f : Entry) → slice_get map.broken.entries m ≡ Some e → place_entry map a ≡ Some e → R m e f → P (Some e) (Some f)) where
    abbrev Q : Option Entry → Option Entry → Type 0
    Q o p = place_entry map a ≡ o → P o p

    by_number : (s : Option ℕ) → Q (entry_of map.broken.entries s) (entry_of new.broken.entries s)
    by_number None = none
    by_number (Some m) =
        by_entries (R m) (λ o p. slice_get map.broken.entries m ≡ o → Q o p) (λ _. none) (λ e f seated h is at. some m e f is at h)
        (slice_get map.broken.entries m) (slice_get new.broken.entries m) (changed.each m) refl

    by_index : (j : ℕ) → Q (entry_at map.broken j) (entry_at new.broken j)
    by_index j =
        subst (λ (s : Option ℕ). Q (entry_at map.broken j) (entry_of new.broken.entries s)) (sym (numbers_moved changed j))
        (by_number (number_at map.broken j))

    by_place : P (place_entry map a) (place_entry new a)
    by_place =
        subst (λ (ps : List ℕ). P (place_entry map a) (at_index None (entry_at new.broken) (index_of (bases ps) a))) (sym pages)
        (at_each Q None (entry_at map.broken) (entry_at new.broken) none by_index (index_of (bases map.pages) a) refl)

  marks_kept : ((m : ℕ) (e f : Entry) → R m e f → f.marks ≡ e.marks) → (a : ℕ) → marks_at new a ≡ marks_at map a
  unfolding marks_at
  marks_kept same a =
      by_place (λ o p. marks_of p ≡ marks_of o) a (λ _. refl) (λ m e f _ _ h. ap (λ (x : Marks). Some x) (same m e f h))

  pends_kept : (q : ℕ) → ((m : ℕ) (e f : Entry) → R m e f → pends_in f.pends.items q ≡ pends_in e.pends.items q)
      → (a : ℕ) → pends_at new q a ≡ pends_at map q a
  unfolding pends_at
  pends_kept q same a = by_place (λ o p. pends_of q p ≡ pends_of q o) a (λ _. refl) (λ m e f _ _ h. same m e f h)

  pub only_kept : new.values ≡ map.values → (issuer : ℕ) → ((m : ℕ) (e f : Entry) → R m e f → f.marks ≡ e.marks)
      → ((q : ℕ) → q ≢ issuer → (m : ℕ) (e f : Entry) → R m e f → pends_in f.pends.items q ≡ pends_in e.pends.items q) → NotesOnly issuer map new
  unfolding pages_of restless_in restless_place value_at
  only_kept values issuer marks pends = record {
    others = λ q a other. pends_kept q (pends q (eqb-false q issuer other)) a;
    marks = marks_kept marks;
    same = record {
      values = λ a.
          ap (λ (v : Vec ℕ Global). at_index 0 (value_in v.items) (index_of (bases new.pages) a)) values
          ∙ ap (λ (ps : List ℕ). at_index 0 (value_in map.values.items) (index_of (bases ps) a)) pages;
      pages = pages;
      restless = changed.same.len;
      places = λ i.
          column_kept (λ o. unwrap_or (option_map (λ (e : Entry). e.place) o) 0) (R i) (λ e f seated h. ap (λ (p : ℕ × ℕ × ℕ). p.0) seated)
          (slice_get map.broken.entries i) (slice_get new.broken.entries i) (changed.each i);
    };
  }

-- there is more room at entries
module _ (map new : PlaceMap) (values : new.values ≡ map.values) (pages : new.pages ≡ map.pages)
    (changed : EachAdvances (λ _. Keeps) map.broken new.broken) where
  waits_same : (q m : ℕ) (e f : Entry) → Keeps e f → pends_in f.pends.items q ≡ pends_in e.pends.items q
  waits_same q m e f h = ap (λ (ps : List Pending). pends_in ps q) h.1

  pub room_pends : (q a : ℕ) → pends_at new q a ≡ pends_at map q a
  room_pends q = pends_kept map new pages changed q (waits_same q)

  pub room_only : (issuer : ℕ) → NotesOnly issuer map new
  room_only issuer = only_kept map new pages changed values issuer (λ m e f h. h.0) (λ q _. waits_same q)

  pub room_same : IsSame map new
  room_same =
      let only = room_only 0 in
      record {
        values = only.same.values;
        marks = only.marks;
        pends = room_pends;
        pages = only.same.pages;
        restless = only.same.restless;
        places = only.same.places;
      }

-- at the place of an entry, by its number
pub noted_by_number : (map new : PlaceMap) → new.pages ≡ map.pages → IsOnce map.broken → (covers : List Cover) (by : Issuing)
    → EachAdvances (NotesAt covers by) map.broken new.broken → length covers ≡ restless_in map
    → (i : ℕ) (c : Cover) → slice_get covers i ≡ Some c
    → Noted (state_at map None (restless_place map i)) (pends_at map by.issuer (restless_place map i)) by.reach by.broadcast c
    (pends_at new by.issuer (restless_place map i))
unfolding marks_at pends_at restless_in restless_place
noted_by_number map new pages once covers by changed len i c cover =
    let within : i < length covers = slice_get_within covers i c cover in
    let e = entry_there map.broken.entries i (omega (arith, within, len)) in
    let here : place_entry map (place_of map i) ≡ Some e.0
    = ap (place_entry map) (place_is map i e.0 e.1) ∙ entry_here map once i e.0 e.1 in
    by_place map new pages changed
    (λ o p. Noted (state_from None (marks_of o)) (pends_of by.issuer o) by.reach by.broadcast c (pends_of by.issuer p)) (place_of map i)
    (λ none. absurd (none-some e.0 (sym none ∙ here)))
    (λ m x f is at h.
    let same : m ≡ i = same_Some m i (sym (once m e.0 (is ∙ sym at ∙ here)) ∙ once i e.0 e.1) in
    (h.2 c (ap (slice_get covers) same ∙ cover)).2)

-- a TLBI that covers the places of a few items
module _ (map new : PlaceMap) (pages : new.pages ≡ map.pages) (found : List Found) (by : Issuing)
    (changed : EachAdvances (λ _. NotesAmong found by) map.broken new.broken) where
  pub noted_found : (f : ℕ → Cover) → FoundAs found f → (a : ℕ) → is_found found a ≡ true → is_some (marks_at map a) ≡ true
      → Noted (state_at map None a) (pends_at map by.issuer a) by.reach by.broadcast (f a) (pends_at new by.issuer a)
  unfolding marks_at pends_at
  noted_found f fits a among broken =
      by_place map new pages changed
      (λ o p. Noted (state_from None (marks_of o)) (pends_of by.issuer o) by.reach by.broadcast (f a) (pends_of by.issuer p)) a
      (λ none. absurd (false≢true (sym (ap (λ (o : Option Entry). is_some (marks_of o)) none) ∙ broken)))
      (λ m e g _ at h. subst (λ (c : Cover). Noted (Broken e.marks) (pends_in e.pends.items by.issuer) by.reach by.broadcast c
      (pends_in g.pends.items by.issuer)) (ap (cover_in found) (entry_seat map a e at).2 ∙ cover_is f found fits a among) h.0.2)

  pub unnoted_found : (a : ℕ) → is_found found a ≡ false → pends_at new by.issuer a ≡ pends_at map by.issuer a
  unfolding pends_at
  unnoted_found a none =
      by_place map new pages changed (λ o p. pends_of by.issuer p ≡ pends_of by.issuer o) a (λ _. refl)
      (λ m e g _ at h. ap (λ (ps : List Pending). pends_in ps by.issuer) (h.1 (ap (is_found found) (entry_seat map a e at).2 ∙ none)))
