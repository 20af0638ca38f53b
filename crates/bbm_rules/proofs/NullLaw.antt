-- A page is a null page exactly where a `null` of it stands in the history.
use Rattle.bbm_rules.proofs.Common.{◌≡◌, ℕ, true, ◌==◌, List, [], ◌∷◌, ◌++◌, refl, sym, ◌∙◌, ap, inl, inr, true≢false}
use Rattle.bbm_rules.proofs.Common.{eq-eqb, eqb-true, or_cases, or_left, or_right, Event, Null, is_null}

-- a `null` of the page
record Made (h : List Event) (page : ℕ) : Type 0 where
  q : ℕ
  newer : List Event
  older : List Event
  split : h ≡ newer ++ Null q page ∷ older

later : (e : Event) (h : List Event) (page : ℕ) → Made h page → Made (e ∷ h) page
later e h page m = record { q = m.q; newer = e ∷ m.newer; older = m.older; split = ap (λ (xs : List Event). e ∷ xs) m.split }

made : (h : List Event) (page : ℕ) → is_null h page ≡ true → Made h page
made [] page k = absurd (true≢false (sym k))
made (Null pe at ∷ h) page k =
    elim (or_cases (at == page) (is_null h page) k) [
      | inl here ↦ record {
        q = pe;
        newer = [];
        older = h;
        split = ap (λ (x : ℕ). Null pe x ∷ h) (eqb-true at page here);
      }
      | inr there ↦ later (Null pe at) h page (made h page there)
    ]
made (e ∷ h) page k = later e h page (made h page k)

pub null_sound : (h : List Event) (page : ℕ) → is_null h page ≡ true
    → (q : ℕ) × (newer older : List Event) × (h ≡ newer ++ Null q page ∷ older)
null_sound h page k = let m : Made h page = made h page k in (m.q, m.newer, m.older, m.split)

stays : (e : Event) (h : List Event) (page : ℕ) → is_null h page ≡ true → is_null (e ∷ h) page ≡ true
stays (Null pe at) h page k = or_right (at == page) (is_null h page) k
stays e h page k = k

there : (newer older : List Event) (q page : ℕ) → is_null (newer ++ Null q page ∷ older) page ≡ true
there [] older q page = or_left (page == page) (is_null older page) (eq-eqb page page refl)
there (e ∷ newer) older q page = stays e (newer ++ Null q page ∷ older) page (there newer older q page)

pub null_complete : (h : List Event) (q page : ℕ) (newer older : List Event) → h ≡ newer ++ Null q page ∷ older
    → is_null h page ≡ true
null_complete h q page newer older split =
    ap (λ (es : List Event). is_null es page) split ∙ there newer older q page
