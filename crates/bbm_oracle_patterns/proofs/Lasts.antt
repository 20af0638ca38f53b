-- The last valid write, searched from the newest event back.
use Rattle.bbm_rules.proofs.Common.{◌≡◌, ℕ, zero, suc, ◌+◌, ◌-◌, ◌<◌, ◌≤◌, List, [], ◌∷◌, ◌++◌, length, take, drop}
use Rattle.bbm_rules.proofs.Common.{reverse, get_or, Option, Some, None, refl, sym, ◌∙◌, ap, subst, arith}
use Rattle.bbm_rules.proofs.Common.{reverse-append, length-reverse, length-take-le, take-append-drop, take_more}
use Rattle.bbm_rules.proofs.Common.{ValidWrite, last_valid, later, Noted}
use Rattle.std.proofs.lemmas.List.{append-nil, append_assoc, drop_more}
use Rattle.bbm_rules.specs.Prelude.{Kind}
use Rattle.bbm_oracle_patterns.specs.Kept.{note_of, notes_behind, notes_of, write_in}
use Rattle.bbm_oracle_patterns.specs.Lasts.{said, TellsOf}
use Rattle.bbm_oracle_patterns.specs.declared.kept.Kept.{Kept}
use Rattle.bbm_oracle_patterns.specs.declared.search.Says.{Says}
use Rattle.bbm_oracle_patterns.specs.declared.search.Says.TheVariants.{ItIs, NoWrite, Older}
use Rattle.bbm_oracle_patterns.proofs.KeptNotes.{notes_append, notes_whole}

-- ---- notes

-- the oldest of some events, apart
pub notes_snoc : (before : ℕ) (k : Kept) (ks : List Kept) →
    notes_behind before (reverse (k ∷ ks)) ≡ notes_behind (before + 1) (reverse ks) ++ note_of before k ∷ []
notes_snoc before k ks =
    let one : before + 0 ≡ before = omega arith in
    ap (notes_behind before) (reverse-append (k ∷ []) ks)
    ∙ notes_append before (reverse ks) (k ∷ [])
    ∙ ap (λ (n : ℕ). notes_behind (before + 1) (reverse ks) ++ note_of n k ∷ []) one

-- the newest of the oldest events, apart
pub notes_more : (before : ℕ) (log : List Kept) (i : ℕ) (k : Kept) → i < length log → k ≡ get_or log i k →
    notes_behind before (reverse (take (i + 1) log))
    ≡ note_of (before + length (reverse (take i log))) k ∷ notes_behind before (reverse (take i log))
notes_more before log i k below is =
    ap (λ (ks : List Kept). notes_behind before (reverse ks)) (take_more log i k below)
    ∙ ap (notes_behind before) (reverse-append (take i log) (get_or log i k ∷ []))
    ∙ ap (λ (x : Kept). note_of (before + length (reverse (take i log))) x ∷ notes_behind before (reverse (take i log)))
    (sym is)

-- ---- the search

-- more events after a valid write
abbrev pub behind : List Noted → Option ValidWrite → Option ValidWrite
behind ns None = None
behind ns (Some w) = Some (record { value = w.value; since = ns ++ w.since })

behind_later : (ns : List Noted) (n : Noted) (o : Option ValidWrite) → behind ns (later n o) ≡ behind (ns ++ n ∷ []) o
behind_later ns n None = refl
behind_later ns n (Some w) = ap (λ (xs : List Noted). Some (record { value = w.value; since = xs }))
    (sym (append_assoc ns (n ∷ []) w.since))

module _ (kind : Kind) (level place : ℕ) (log : List Kept) where
  -- the events of the log from index i on say nothing of the last valid write
  pub record Silent (i : ℕ) : Type 0 where
    pub at : (before : ℕ) (h : List Noted) →
        last_valid kind level place (notes_behind before (reverse (drop i log)) ++ h)
        ≡ behind (notes_behind before (reverse (drop i log))) (last_valid kind level place h)

  pub silent_more : (i : ℕ) (d : Kept) → i < length log → TellsOf Older kind level place (get_or log i d).event
      → Silent (i + 1) → Silent i
  silent_more i d below tells s = record {
    at = λ before h.
        let k : Kept = get_or log i d in
        let n : Noted = note_of before (get_or log i d) in
        let ns : List Noted = notes_behind (before + 1) (reverse (drop (i + 1) log)) in
        let split : notes_behind before (reverse (drop i log)) ≡ ns ++ n ∷ []
        = ap (λ (ks : List Kept). notes_behind before (reverse ks)) (drop_more log i d below)
        ∙ notes_snoc before (get_or log i d) (drop (i + 1) log) in
        subst (λ (xs : List Noted). last_valid kind level place (xs ++ h) ≡ behind xs (last_valid kind level place h))
        (sym split)
        (ap (last_valid kind level place) (append_assoc ns (n ∷ []) h)
        ∙ s.at (before + 1) (n ∷ h)
        ∙ ap (behind ns) (tells n (last_valid kind level place h))
        ∙ behind_later ns n (last_valid kind level place h));
  }

  -- the whole log, by its oldest i events
  whole : (i : ℕ) → i ≤ length log → notes_of (reverse log)
      ≡ notes_behind i (reverse (drop i log)) ++ notes_of (reverse (take i log))
  whole i within =
      let count : 0 + length (reverse (take i log)) ≡ i
      = omega (arith, length-reverse (take i log), length-take-le i log within) in
      notes_whole (reverse log)
      ∙ ap (λ (ks : List Kept). notes_behind 0 (reverse ks)) (sym (take-append-drop i log))
      ∙ ap (notes_behind 0) (reverse-append (take i log) (drop i log))
      ∙ notes_append 0 (reverse (drop i log)) (reverse (take i log))
      ∙ ap (λ (n : ℕ). notes_behind n (reverse (drop i log)) ++ notes_behind 0 (reverse (take i log))) count
      ∙ ap (λ (ns : List Noted). notes_behind i (reverse (drop i log)) ++ ns) (sym (notes_whole (reverse (take i log))))

  -- the newest of the oldest events
  oldest : (i : ℕ) (d : Kept) → i < length log → notes_of (reverse (take (i + 1) log))
      ≡ note_of (length (reverse (take i log))) (get_or log i d) ∷ notes_of (reverse (take i log))
  oldest i d below =
      ap (λ (ks : List Kept). notes_of (reverse ks)) (take_more log i d below)
      ∙ ap notes_of (reverse-append (take i log) (get_or log i d ∷ []))

  -- what the event at index i says is the answer
  says_at : (i : ℕ) (d : Kept) (says : Says) → i < length log → TellsOf says kind level place (get_or log i d).event
      → Silent (i + 1) →
      last_valid kind level place (notes_of (reverse log))
      ≡ behind (notes_behind (i + 1) (reverse (drop (i + 1) log)))
      (said says (note_of (length (reverse (take i log))) (get_or log i d))
      (last_valid kind level place (notes_of (reverse (take i log)))))
  says_at i d says below tells s =
      ap (last_valid kind level place) (whole (i + 1) (omega arith))
      ∙ s.at (i + 1) (notes_of (reverse (take (i + 1) log)))
      ∙ ap (λ (h : List Noted). behind (notes_behind (i + 1) (reverse (drop (i + 1) log)))
      (last_valid kind level place h)) (oldest i d below)
      ∙ ap (behind (notes_behind (i + 1) (reverse (drop (i + 1) log))))
      (tells (note_of (length (reverse (take i log))) (get_or log i d))
      (last_valid kind level place (notes_of (reverse (take i log)))))

  -- the same for the event before index j
  module _ (j : ℕ) (k : Kept) (some : 0 < j) (within : j ≤ length log) (s : Silent j) where
    silent_behind : Silent (j - 1 + 1)
    silent_behind = let e : j ≡ j - 1 + 1 = omega arith in subst (λ (i : ℕ). Silent i) e s

    pub found_before : (value : ℕ) → TellsOf (ItIs value) kind level place (get_or log (j - 1) k).event →
        last_valid kind level place (notes_of (reverse log))
        ≡ write_in log (Some (record { value = value; index = j - 1 }))
    found_before value tells =
        says_at (j - 1) k (ItIs value) (omega arith) tells silent_behind
        ∙ ap (λ (ns : List Noted). Some (record { value = value; since = ns }))
        (append-nil (notes_behind (j - 1 + 1) (reverse (drop (j - 1 + 1) log))))

    pub none_before : TellsOf NoWrite kind level place (get_or log (j - 1) k).event
        → last_valid kind level place (notes_of (reverse log)) ≡ None
    none_before tells = says_at (j - 1) k NoWrite (omega arith) tells silent_behind

    pub silent_before : TellsOf Older kind level place (get_or log (j - 1) k).event → Silent (j - 1)
    silent_before tells = silent_more (j - 1) k (omega arith) tells silent_behind

  pub none_left : (j : ℕ) → j ≤ 0 → Silent j → last_valid kind level place (notes_of (reverse log)) ≡ None
  none_left zero none s =
      ap (last_valid kind level place) (notes_whole (reverse log) ∙ sym (append-nil (notes_behind 0 (reverse log))))
      ∙ s.at 0 []
  none_left (suc j) none s = absurd (omega arith)
