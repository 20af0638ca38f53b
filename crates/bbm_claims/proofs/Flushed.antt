-- The TLBI at a position of a log that is kept, and the barrier behind the log that answers it.
use Rattle.bbm_claims.proofs.Common.{answered_by, is_tlbi, note_of, notes_of, Kept, completed_by, answers_for, flush_mark}
use Rattle.bbm_claims.proofs.Common.{mark_at, waits_at}
use Rattle.bbm_rules.proofs.Common.{◌≡◌, ℕ, suc, ◌+◌, ◌-◌, ◌<◌, ◌⊎◌, Bool, true, false, cond, ◌&&◌, ◌||◌, not, ◌==◌}
use Rattle.bbm_rules.proofs.Common.{List, [], ◌∷◌, ◌++◌, length, take, drop, get_or, reverse, refl, sym, ◌∙◌, ap, arith}
use Rattle.bbm_rules.proofs.Common.{length-append, and_right, eq-eqb, ne_eqb, get_or_default, length-drop, take_all}
use Rattle.bbm_rules.proofs.Common.{list_any, proved, Is, answers, Cover, operation, same_cover, Noted, same_flag}
use Rattle.bbm_rules.proofs.Common.{Barrier, Heading, Event, Dsb, Tlbi, TlbiOp, completes, reaches, completes_for}
use Rattle.bbm_rules.proofs.Common.{issues}
use Rattle.bbm_oracle_patterns.specs.Kept.{cover_in}
use Rattle.bbm_claims.specs.Flushes.{is_flush_of}
use Rattle.bbm_claims.specs.Marks.{flushes_for}
use Rattle.bbm_claims.proofs.Kepts.{length_before, mark_found, mark_lost, split}
use Rattle.bbm_lemmas.proofs.Tests.{any_reverse, any_same}
use Rattle.bbm_oracle_patterns.proofs.KeptNotes.{length_notes}

-- ---- tests

pick_true : (a b n m i r : Bool)
    → ((a && (n && ((i && true) && r))) || (b && (m && ((i && false) && r)))) ≡ ((i && (a && r)) && n)
pick_true = proved 6 (λ a b n m i r. Is ((a && (n && ((i && true) && r))) || (b && (m && ((i && false) && r)))) ((i &&
    (a && r)) && n)) refl

pick_false : (a b n m i r : Bool)
    → ((a && (n && ((i && false) && r))) || (b && (m && ((i && true) && r)))) ≡ ((i && (b && r)) && m)
pick_false = proved 6 (λ a b n m i r. Is ((a && (n && ((i && false) && r))) || (b && (m && ((i && true) && r)))) ((i &&
    (b && r)) && m)) refl

pick_none : (a b n m : Bool) → ((a && (n && false)) || (b && (m && false))) ≡ false
pick_none = proved 4 (λ a b n m. Is ((a && (n && false)) || (b && (m && false))) false) refl

-- ---- what is answered

module _ {A : Type 0} (event : A → Event) (q : ℕ) where
  -- whether some of these barriers answers TLBIs of q, broadcast or not as told
  abbrev pub answered : Bool → List A → Bool
  answered b xs = list_any (λ x. answers_for q b (event x)) xs

  same_answers : (pe : ℕ) (op : TlbiOp) (xt : ℕ) (x : A)
      → answers_for q (operation op).broadcast (event x) ≡ completes_for q (Tlbi pe op xt) (event x)
  same_answers pe op xt x = one (event x)
    where
      one : (e : Event) → answers_for q (operation op).broadcast e ≡ completes_for q (Tlbi pe op xt) e
      one (Dsb q' dsb) = refl
      one _ = refl

  pub answered_is : (dsb : Barrier) (later : List A) (e : Event) (r : Bool)
      → answered_by dsb (λ b. not (answered b later) && ((issues q e && is_tlbi b e) && r))
      ≡ ((issues q e && (completes dsb e && r)) && not (list_any (λ x. completes_for q e (event x)) later))
  answered_is dsb later (Tlbi pe op xt) r =
      by (operation op).broadcast
      (any_same (λ x. answers_for q (operation op).broadcast (event x)) (λ x. completes_for q (Tlbi pe op xt) (event x))
      later
      (same_answers pe op xt))
    where
      by : (c : Bool) → answered c later ≡ list_any (λ x. completes_for q (Tlbi pe op xt) (event x)) later
          → answered_by dsb (λ b. not (answered b later) && ((pe == q && same_flag c b) && r))
          ≡ ((pe == q && (answers dsb c && r)) && not (list_any (λ x. completes_for q (Tlbi pe op xt) (event x)) later))
      by true same =
          pick_true (answers dsb true) (answers dsb false) (not (answered true later)) (not (answered false later)) (pe
          == q) r
          ∙ ap (λ (b : Bool). (pe == q && (answers dsb true && r)) && not b) same
      by false same =
          pick_false (answers dsb true) (answers dsb false) (not (answered true later)) (not (answered false later)) (pe
          == q) r
          ∙ ap (λ (b : Bool). (pe == q && (answers dsb false && r)) && not b) same
  answered_is dsb later _ r =
      pick_none (answers dsb true) (answers dsb false) (not (answered true later)) (not (answered false later))

-- ---- what waits

module _ (heading : Heading) (place p q : ℕ) (cover : Cover) where
  abbrev answers_of : Bool → List Kept → Bool
  answers_of b ks = answered (λ (x : Kept). x.event) q b ks

  waits_kept : (b : Bool) (newer older : List Kept) (k : Kept)
      → waits_at heading place p q b cover (suc (length older)) (notes_of (newer ++ k ∷ older))
      ≡ (not (answers_of b newer) && flushes_for heading place p q b cover (note_of (length older) k))
  waits_kept b [] older k =
      let here : (suc (length older) == suc (length (notes_of older))) ≡ true
      = eq-eqb (suc (length older)) (suc (length (notes_of older))) (ap suc (sym (length_notes older))) in
      rw here refl
  waits_kept b (x ∷ newer) older k =
      let there : (suc (length older) == suc (length (notes_of (newer ++ k ∷ older)))) ≡ false
      = ne_eqb (suc (length older)) (suc (length (notes_of (newer ++ k ∷ older))))
      (λ e. omega (arith, length_notes (newer ++ k ∷ older), length-append newer (k ∷ older))) in
      rw there
      (ap (λ (w : Bool). not (answers_for q b x.event) && w) (waits_kept b newer older k)
      ∙ proved 3 (λ a n f. Is (not a && (not n && f)) (not (a || n) && f)) refl (answers_for q b x.event)
      (answers_of b newer) (flushes_for heading place p q b cover
      (note_of (length older) k)))

  waits_found : (b : Bool) (log : List Kept) (t i : ℕ) (k : Kept) → i < length log → t ≡ suc i → k ≡ get_or log i k
      → waits_at heading place p q b cover t (notes_of (reverse log))
      ≡ (not (answers_of b (drop (i + 1) log)) && flushes_for heading place p q b cover (note_of i k))
  waits_found b log t i k below at is =
      let before : length (reverse (take i log)) ≡ i = length_before log i (omega arith) in
      ap (λ (n : ℕ). waits_at heading place p q b cover n (notes_of (reverse log))) (at ∙ ap suc (sym before))
      ∙ ap (λ (ks : List Kept). waits_at heading place p q b cover (suc (length (reverse (take i log)))) (notes_of ks))
      (split log i k below ∙ ap (λ (x : Kept). reverse (drop (i + 1) log) ++ x ∷ reverse (take i log)) (sym is))
      ∙ waits_kept b (reverse (drop (i + 1) log)) (reverse (take i log)) k
      ∙ ap (λ (n : ℕ). not (answers_of b (reverse (drop (i + 1) log))) && flushes_for heading place p q b cover
      (note_of n k)) before
      ∙ ap (λ (x : Bool). not x && flushes_for heading place p q b cover (note_of i k))
      (any_reverse (λ x. answers_for q b x.event) (drop (i + 1) log))

  pub flush_found : (dsb : Barrier) (mark : List Noted → ℕ) (log : List Kept) (t i : ℕ) (k : Kept) → i < length log
      → t ≡ suc i → k ≡ get_or log i k
      → flush_mark heading place p cover t mark (Dsb q dsb) (notes_of (reverse log))
      ≡ cond (is_flush_of heading q dsb cover place p k && not (list_any (completed_by q k.event) (drop (i + 1) log)))
      (mark (notes_of (reverse (take i log)))) 0
  flush_found dsb mark log t i k below at is =
      ap (λ (b : Bool). cond b (mark_at t (λ n before. mark before) (notes_of (reverse log))) 0)
      (ap (λ (w : Bool). (answers dsb true && w) || (answers dsb false && waits_at heading place p q false cover t
      (notes_of (reverse log))))
      (waits_found true log t i k below at is)
      ∙ ap (λ (w : Bool). (answers dsb true && (not (answers_of true (drop (i + 1) log))
      && flushes_for heading place p q true cover (note_of i k)))
      || (answers dsb false && w))
      (waits_found false log t i k below at is)
      ∙ answered_is (λ (x : Kept). x.event) q dsb (drop (i + 1) log) k.event (reaches heading k.event p
      && same_cover (cover_in k.covers.items place) cover))
      ∙ ap (λ (m : ℕ). cond (is_flush_of heading q dsb cover place p k
      && not (list_any (completed_by q k.event) (drop (i + 1) log))) m 0)
      (mark_found (λ n before. mark before) log t i k below at is)

  -- where the code has asked whether the TLBI does what it has to, and then whether it is answered
  module _ (dsb : Barrier) (mark : List Noted → ℕ) (log : List Kept) (t i : ℕ) (k : Kept)
      (found : (i < length log) × (t ≡ suc i)) (is : k ≡ get_or log i k) where
    flush_by : (x y : Bool) → is_flush_of heading q dsb cover place p k ≡ x
        → list_any (completed_by q k.event) (drop (i + 1) log) ≡ y
        → flush_mark heading place p cover t mark (Dsb q dsb) (notes_of (reverse log))
        ≡ cond (x && not y) (mark (notes_of (reverse (take i log)))) 0
    flush_by x y is_x is_y =
        flush_found dsb mark log t i k found.0 found.1 is
        ∙ ap (λ (b : Bool). cond (b && not (list_any (completed_by q k.event) (drop (i + 1) log)))
        (mark (notes_of (reverse (take i log)))) 0) is_x
        ∙ ap (λ (b : Bool). cond (x && not b) (mark (notes_of (reverse (take i log)))) 0) is_y

    pub flush_not : is_flush_of heading q dsb cover place p k ≡ false
        → flush_mark heading place p cover t mark (Dsb q dsb) (notes_of (reverse log)) ≡ 0
    flush_not none = flush_by false (list_any (completed_by q k.event) (drop (i + 1) log)) none refl

    -- the events behind it, as the code has them
    later_is : (k' : Kept) → list_any (completed_by q (get_or log i k').event)
        (take (length log - (i + 1)) (drop (i + 1) log))
        ≡ list_any (completed_by q k.event) (drop (i + 1) log)
    later_is k' =
        let same : get_or log i k' ≡ k = get_or_default log i k' k found.0 ∙ sym is in
        ap (λ (x : Kept). list_any (completed_by q x.event) (take (length log - (i + 1)) (drop (i + 1) log))) same
        ∙ ap (list_any (completed_by q k.event)) (take_all (length log - (i + 1)) (drop (i + 1) log)
        (omega (arith, length-drop (i + 1) log)))

    pub flush_yes : (k' : Kept) → is_flush_of heading q dsb cover place p k ≡ true
        → list_any (completed_by q (get_or log i k').event) (take (length log - (i + 1)) (drop (i + 1) log)) ≡ false
        → flush_mark heading place p cover t mark (Dsb q dsb) (notes_of (reverse log))
        ≡ mark (notes_of (reverse (take i log)))
    flush_yes k' does none = flush_by true false does (sym (later_is k') ∙ none)

    pub flush_answered : (k' : Kept)
        → list_any (completed_by q (get_or log i k').event) (take (length log - (i + 1)) (drop (i + 1) log)) ≡ true
        → flush_mark heading place p cover t mark (Dsb q dsb) (notes_of (reverse log)) ≡ 0
    flush_answered k' answered =
        flush_by (is_flush_of heading q dsb cover place p k) true refl (sym (later_is k') ∙ answered)
        ∙ ap (λ (b : Bool). cond b (mark (notes_of (reverse (take i log)))) 0)
        (and_right (is_flush_of heading q dsb cover place p k) false refl)

  pub flush_lost : (dsb : Barrier) (mark : List Noted → ℕ) (log : List Kept) (t : ℕ)
      → (t ≡ 0) ⊎ (length log < t)
      → flush_mark heading place p cover t mark (Dsb q dsb) (notes_of (reverse log)) ≡ 0
  flush_lost dsb mark log t gone =
      zero (answered_by dsb (λ b. waits_at heading place p q b cover t (notes_of (reverse log))))
      (mark_at t (λ n before. mark before) (notes_of (reverse log))) (mark_lost (λ n before. mark before) log t gone)
    where
      zero : (b : Bool) (m : ℕ) → m ≡ 0 → cond b m 0 ≡ 0
      zero true m e = e
      zero false m e = refl
