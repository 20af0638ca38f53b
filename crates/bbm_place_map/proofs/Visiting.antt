-- Where a TLBI is noted at the places of a few items, and at no others.
use Rattle.bbm_place_map.proofs.Common.{◌≡◌, ℕ, true, false, nat_eq, List, [], ◌∷◌, ◌++◌, ap, sym, subst, ◌∙◌, inl, inr}
use Rattle.bbm_place_map.proofs.Common.{cases_Bool, eq-eqb, eqb-true, false≢true, Cover, position, cover_in, is_found}
use Rattle.bbm_place_map.proofs.Common.{NotesAs, AtPlace, NotesFound, Entry, Found, Issuing}
use Rattle.bbm_place_map.proofs.Finding.{cover_here, cover_off, cover_old, found_here, found_off}

-- one more item
module _ (xs : List Found) (x : Found) (by : Issuing) where
  by_cover : (c c' : Cover) (e f : Entry) → c' ≡ c → NotesAs c by e f → NotesAs c' by e f
  by_cover c c' e f is notes = let P : Cover → Type 0 = λ y. NotesAs y by e f in subst P (sym is) notes

  -- one that counts
  pub note_step : is_found xs x.place ≡ false → (e f g : Entry) → position f ≡ position e → NotesFound xs by e f
      → AtPlace x.place (NotesAs x.cover by) f g → NotesFound (xs ++ x ∷ []) by e g
  note_step fresh e f g seated before now =
      let place : f.place ≡ e.place = ap (λ (s : ℕ × ℕ × ℕ). s.0) seated in
      elim (cases_Bool (nat_eq x.place e.place)) [
        | inl is ↦
            let here : x.place ≡ e.place = eqb-true x.place e.place is in
            let new : is_found xs e.place ≡ false = ap (is_found xs) (sym here) ∙ fresh in
            let same : f ≡ e = before.1 new in
            let P : Entry → Type 0 = λ y. NotesAs x.cover by y g in (
              by_cover x.cover (cover_in (xs ++ x ∷ []) e.place) e g (cover_here xs x e.place new is) (subst P same (now.0 (place ∙ sym here))),
              λ none. absurd (false≢true (sym none ∙ found_here xs x e.place is)),
            )
        | inr off ↦
            let same : g ≡ f = now.1 (λ at. false≢true (sym off ∙ eq-eqb x.place e.place (sym at ∙ place))) in
            let P : Entry → Type 0 = λ y. NotesAs (cover_in xs e.place) by e y in (
              by_cover (cover_in xs e.place) (cover_in (xs ++ x ∷ []) e.place) e g (cover_off xs x e.place off) (subst P (sym same) before.0),
              λ none. same ∙ before.1 (sym (found_off xs x e.place off) ∙ none),
            )
      ]

  -- one whose place an item before it has
  pub skip_step : is_found xs x.place ≡ true → (e f : Entry) → NotesFound xs by e f
      → NotesFound (xs ++ x ∷ []) by e f
  skip_step old e f before =
      elim (cases_Bool (nat_eq x.place e.place)) [
        | inl is ↦
            let known : is_found xs e.place ≡ true = ap (is_found xs) (sym (eqb-true x.place e.place is)) ∙ old in (
              by_cover (cover_in xs e.place) (cover_in (xs ++ x ∷ []) e.place) e f (cover_old xs x e.place known) before.0,
              λ none. absurd (false≢true (sym none ∙ found_here xs x e.place is)),
            )
        | inr off ↦ (
          by_cover (cover_in xs e.place) (cover_in (xs ++ x ∷ []) e.place) e f (cover_off xs x e.place off) before.0,
          λ none. before.1 (sym (found_off xs x e.place off) ∙ none),
        )
      ]
