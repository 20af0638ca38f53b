-- What the issue of a TLBI notes at an entry.
use Rattle.bbm_place_map.proofs.Common.{◌≡◌, ℕ, Bool, true, false, List, Some, slice_get, nat_eq, if◌then◌else◌, ◌&&◌}
use Rattle.bbm_place_map.proofs.Common.{◌||◌, refl, ap, sym, subst, ◌∙◌, false≢true, same_Some, proved, Is, PeMask}
use Rattle.bbm_place_map.proofs.Common.{Cover, Noted, waits, Marks, Pends, Broken, pends_in, NotesAs, NotesAt, is_cover}
use Rattle.bbm_place_map.proofs.Common.{IsQuiet, Entry, Issuing, ◌≢◌, Keeps, Pending, pe_in}
use Rattle.bbm_place_map.proofs.Common.{Found, NotesAmong, NotesFound, cover_in, is_found, position}
use Rattle.bbm_place_map.proofs.Common.{NoCover, split_at}
use Rattle.std.specs.Prelude.{Result, Ok, Err, OnErr}
use Rattle.bbm_lemmas.specs.ListWords.{same_flag}

-- where room is made before a TLBI is noted
pub notes_over : (cover : Cover) (by : Issuing) (e f g : Entry) → Keeps e f → NotesAs cover by f g → NotesAs cover by e g
notes_over cover by e f g kept notes =
    let P : Marks → List Pending → Type 0 = λ m ps. (g.marks ≡ m) × ((q : ℕ) → q ≢ by.issuer → pends_in g.pends.items q ≡ pends_in ps q)
    × Noted (Broken m) (pends_in ps by.issuer) by.reach by.broadcast cover (pends_in g.pends.items by.issuer)
    × (is_cover cover ≡ false → g.pends.items ≡ ps) in
    subst (P e.marks) kept.1 (subst (λ (m : Marks). P m f.pends.items) kept.0 notes)

nothing : (x y w : Bool) → w ≡ ((x && (y && false)) || w)
nothing = proved 3 (λ x y w. Is w ((x && (y && false)) || w)) refl

-- a TLBI that doesn't cover the place leaves what waits
pub noted_none : (marks : Marks) (r : Pends) (reach : PeMask) (broadcast : Bool) → Noted (Broken marks) r reach broadcast NoCover r
noted_none marks r reach broadcast b NoCover p = nothing (same_flag broadcast b) (pe_in reach p) (waits r b NoCover p)
noted_none marks r reach broadcast b c p = nothing (same_flag broadcast b) (pe_in reach p) (waits r b c p)

pub notes_at : (covers : List Cover) (k : ℕ) (cover : Cover) (by : Issuing) (e f : Entry)
    → slice_get covers k ≡ Some cover → NotesAs cover by e f → NotesAt covers by k e f
notes_at covers k cover by e f is notes = (
  notes.0,
  notes.1,
  λ c at. subst (λ (x : Cover). NotesAs x by e f) (same_Some cover c (sym is ∙ at)) notes,
)

-- a TLBI leaves quiet what was so, if it isn't the first to wait there, or of those that aren't broadcast the first such
pub quiet_noted : (marks : Marks) (r after : Pends) (reach : PeMask) (broadcast : Bool) (cover : Cover) → (IsQuiet broadcast r → ⊥)
    → Noted (Broken marks) r reach broadcast cover after → (wide : Bool) → IsQuiet wide r → IsQuiet wide after
quiet_noted marks r after reach true cover some noted false quiet true c p is = absurd (false≢true is)
quiet_noted marks r after reach true cover some noted false quiet false c p is = noted false c p ∙ quiet false c p refl
quiet_noted marks r after reach false cover some noted true quiet b c p is = absurd (some (λ b c p _. quiet b c p refl))
quiet_noted marks r after reach _ cover some noted _ quiet b c p is = absurd (some quiet)

pub uncovered : (cover : Cover) → is_cover cover ≡ false → cover ≡ NoCover
uncovered NoCover none = refl
uncovered _ none = cc

-- an entry that isn't covered stays
pub not_noted : (cover : Cover) (by : Issuing) (e : Entry) → is_cover cover ≡ false
    → NotesAs cover by e e
not_noted cover by e none = (
  refl,
  λ q other. refl,
  let P : Cover → Type 0 = λ x. Noted (Broken e.marks) (pends_in e.pends.items by.issuer) by.reach by.broadcast x (pends_in e.pends.items by.issuer) in
      subst P (sym (uncovered cover none)) (noted_none e.marks (pends_in e.pends.items by.issuer) by.reach by.broadcast),
  λ same. refl,
)

pub gets_same : (entries : List Entry) (k : ℕ) (e : Entry) → slice_get entries k ≡ Some e
    → (i : ℕ) → slice_get entries i ≡ (if nat_eq i k then Some e else slice_get entries i)
gets_same entries k e is i = split_at i k (λ same. ap (slice_get entries) same ∙ is) (λ _. refl)

pub at_over : (covers : List Cover) (by : Issuing) (m : ℕ) (e f g : Entry) → Keeps e f → NotesAt covers by m f g → NotesAt covers by m e g
at_over covers by m e f g kept notes = (
  notes.0 ∙ kept.0,
  λ q other. notes.1 q other ∙ ap (λ (ps : List Pending). pends_in ps q) kept.1,
  λ c at. notes_over c by e f g kept (notes.2 c at),
)

pub among_over : (found : List Found) (by : Issuing) (e f g : Entry) → position f ≡ position e → Keeps e f
    → NotesFound found by f g → NotesAmong found by e g
among_over found by e f g seated kept notes =
    let place : f.place ≡ e.place = ap (λ (p : ℕ × ℕ × ℕ). p.0) seated in (
      notes_over (cover_in found e.place) by e f g kept (subst (λ (x : ℕ). NotesAs (cover_in found x) by f g) place notes.0),
      λ none. ap (λ (x : Entry). x.pends.items) (notes.1 (ap (is_found found) place ∙ none)) ∙ kept.1,
    )

pub on_err : {T E P : Type 0} (r : Result T E) → P → OnErr r P
on_err (Ok x) p = tt
on_err (Err e) p = p
