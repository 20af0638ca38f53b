-- The note at a position of a log that is kept, oldest first.
use Rattle.bbm_claims.proofs.Common.{length-append, note_of, notes_of, Kept, mark_at, wrote_mark}
use Rattle.bbm_rules.proofs.Common.{◌≡◌, ℕ, suc, ◌+◌, ◌≤◌, ◌<◌, ◌⊎◌, Bool, true, false, cond, ◌==◌, List, [], ◌∷◌, ◌++◌}
use Rattle.bbm_rules.proofs.Common.{length, take, drop, get_or, reverse, refl, sym, ◌∙◌, ap, arith, inl, inr, eq-eqb}
use Rattle.bbm_rules.proofs.Common.{ne_eqb, get_or_default, length-reverse, length-take-le, reverse-append}
use Rattle.bbm_rules.proofs.Common.{take-append-drop, take_more, writes, Noted, Event, events_of, reverse_more}
use Rattle.bbm_claims.proofs.Marked.{Numbered, mark_none}
use Rattle.bbm_oracle_patterns.proofs.KeptNotes.{length_notes}

pub numbered : (ks : List Kept) → Numbered (notes_of ks)
numbered [] = tt
numbered (k ∷ ks) = (ap suc (sym (length_notes ks)), numbered ks)

-- the newest events, the one at index i, and those before it
pub split : {X : Type 0} (log : List X) (i : ℕ) (k : X) → i < length log
    → reverse log ≡ reverse (drop (i + 1) log) ++ get_or log i k ∷ reverse (take i log)
split {X} log i k below =
    ap reverse (sym (take-append-drop (i + 1) log))
    ∙ reverse-append (take (i + 1) log) (drop (i + 1) log)
    ∙ ap (λ (xs : List X). reverse (drop (i + 1) log) ++ reverse xs) (take_more log i k below)
    ∙ ap (λ (xs : List X). reverse (drop (i + 1) log) ++ xs) (reverse-append (take i log) (get_or log i k ∷ []))

-- the events of one more that is kept
pub events_more : (log : List Kept) (i : ℕ) (k : Kept) (e : Event) (before after : List Event) → e ≡ k.event
    → i < length log → k ≡ get_or log i k → reverse before ≡ events_of (notes_of (reverse (take i log)))
    → after ≡ before ++ e ∷ [] → reverse after ≡ events_of (notes_of (reverse (take (i + 1) log)))
events_more log i k e before after at less is so_far now =
    ap reverse now
    ∙ reverse-append before (e ∷ [])
    ∙ ap (λ (es : List Event). e ∷ es) so_far
    ∙ ap (λ (x : Event). x ∷ events_of (notes_of (reverse (take i log)))) at
    ∙ ap (λ (ks : List Kept). events_of (notes_of ks)) (reverse_more log i k less is)

pub length_before : {X : Type 0} (log : List X) (i : ℕ) → i ≤ length log → length (reverse (take i log)) ≡ i
length_before log i within = length-reverse (take i log) ∙ length-take-le i log within

-- ---- marks

mark_kept : (f : Noted → List Noted → ℕ) (newer older : List Kept) (k : Kept)
    → mark_at (suc (length older)) f (notes_of (newer ++ k ∷ older)) ≡ f (note_of (length older) k) (notes_of older)
mark_kept f [] older k =
    let here : (suc (length older) == suc (length (notes_of older))) ≡ true
    = eq-eqb (suc (length older)) (suc (length (notes_of older))) (ap suc (sym (length_notes older))) in
    rw here refl
mark_kept f (x ∷ newer) older k =
    let there : (suc (length older) == suc (length (notes_of (newer ++ k ∷ older)))) ≡ false
    = ne_eqb (suc (length older)) (suc (length (notes_of (newer ++ k ∷ older))))
    (λ e. omega (arith, length_notes (newer ++ k ∷ older), length-append newer (k ∷ older))) in
    rw there (mark_kept f newer older k)

pub mark_found : (f : Noted → List Noted → ℕ) (log : List Kept) (position i : ℕ) (k : Kept) → i < length log
    → position ≡ suc i → k ≡ get_or log i k
    → mark_at position f (notes_of (reverse log)) ≡ f (note_of i k) (notes_of (reverse (take i log)))
mark_found f log position i k below at is =
    let before : length (reverse (take i log)) ≡ i = length_before log i (omega arith) in
    ap (λ (n : ℕ). mark_at n f (notes_of (reverse log))) (at ∙ ap suc (sym before))
    ∙ ap (λ (ks : List Kept). mark_at (suc (length (reverse (take i log)))) f (notes_of ks))
    (split log i k below ∙ ap (λ (x : Kept). reverse (drop (i + 1) log) ++ x ∷ reverse (take i log)) (sym is))
    ∙ mark_kept f (reverse (drop (i + 1) log)) (reverse (take i log)) k
    ∙ ap (λ (n : ℕ). f (note_of n k) (notes_of (reverse (take i log)))) before

pub mark_got : (f : Noted → List Noted → ℕ) (log : List Kept) (position i : ℕ) (k : Kept)
    → (i < length log) × (position ≡ suc i)
    → mark_at position f (notes_of (reverse log)) ≡ f (note_of i (get_or log i k)) (notes_of (reverse (take i log)))
mark_got f log position i k found =
    mark_found f log position i (get_or log i k) found.0 found.1
    (get_or_default log i k (get_or log i k) found.0)

pub mark_zero : (f : Noted → List Noted → ℕ) (h : List Noted) → mark_at 0 f h ≡ 0
mark_zero f [] = refl
mark_zero f (n ∷ h) = rw (ne_eqb 0 (suc (length h)) (λ e. omega arith)) (mark_zero f h)

pub mark_lost : (f : Noted → List Noted → ℕ) (log : List Kept) (position : ℕ)
    → (position ≡ 0) ⊎ (length log < position) → mark_at position f (notes_of (reverse log)) ≡ 0
mark_lost f log position (inl none) =
    ap (λ (n : ℕ). mark_at n f (notes_of (reverse log))) none ∙ mark_zero f (notes_of (reverse log))
mark_lost f log position (inr past) =
    mark_none position f (notes_of (reverse log)) (omega (arith, length_notes (reverse log), length-reverse log))

-- ---- one more event

pub notes_next : (log : List Kept) (i : ℕ) (k : Kept) → i < length log → k ≡ get_or log i k
    → notes_of (reverse (take (i + 1) log)) ≡ note_of i k ∷ notes_of (reverse (take i log))
notes_next log i k below is =
    let before : length (reverse (take i log)) ≡ i = length_before log i (omega arith) in
    ap (λ (xs : List Kept). notes_of (reverse xs)) (take_more log i k below)
    ∙ ap notes_of (reverse-append (take i log) (get_or log i k ∷ []))
    ∙ ap (λ (x : Kept). note_of (length (reverse (take i log))) x ∷ notes_of (reverse (take i log))) (sym is)
    ∙ ap (λ (n : ℕ). note_of n k ∷ notes_of (reverse (take i log))) before

module _ (place q : ℕ) (log : List Kept) (i : ℕ) (k : Kept) (count : ℕ) (below : i < length log) (is : k
    ≡ get_or log i k)
    (before : count ≡ wrote_mark place q (notes_of (reverse (take i log)))) where
  wrote_next : cond (writes q place k.event) (i + 1) count ≡ wrote_mark place q (notes_of (reverse (take (i + 1) log)))
  wrote_next =
      let so_far : suc (length (notes_of (reverse (take i log)))) ≡ i + 1
      = omega (arith, length_notes (reverse (take i log)), length_before log i (omega arith)) in
      ap (λ (n : ℕ). cond (writes q place k.event) n count) (sym so_far)
      ∙ ap (λ (n : ℕ). cond (writes q place k.event) (suc (length (notes_of (reverse (take i log))))) n) before
      ∙ ap (wrote_mark place q) (sym (notes_next log i k below is))

  pub wrote_then : writes q place k.event ≡ true → i + 1 ≡ wrote_mark place q (notes_of (reverse (take (i + 1) log)))
  wrote_then e = ap (λ (b : Bool). cond b (i + 1) count) (sym e) ∙ wrote_next

  pub wrote_else : writes q place k.event ≡ false → count ≡ wrote_mark place q (notes_of (reverse (take (i + 1) log)))
  wrote_else e = ap (λ (b : Bool). cond b (i + 1) count) (sym e) ∙ wrote_next
