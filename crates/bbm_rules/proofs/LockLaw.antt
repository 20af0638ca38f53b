-- The holder of a lock is the PE that the sentence names.
use Rattle.bbm_rules.proofs.Common.{◌≡◌, ℕ, Bool, true, false, cond, ◌&&◌, ◌==◌, List, [], ◌∷◌, ◌++◌, Option, Some}
use Rattle.bbm_rules.proofs.Common.{None, refl, sym, ◌∙◌, ap, subst, true≢false, and_parts, and_from, eqb-true}
use Rattle.bbm_rules.proofs.Common.{false_from_ne_true, or_from, or_parts, Event, Lock, Unlock, any, is_that, holder_of}
use Rattle.bbm_lemmas.proofs.Words.{same_number}
use Rattle.bbm_rules.proofs.SearchLemmas.{is_none_at, none_at}
use Rattle.bbm_rules.specs.Sentences.{HoldsLock}

module _ (p lock : ℕ) where
  -- whether the event takes the lock, or is the return of it by p
  abbrev moves : Event → Bool
  moves (Lock q number) = number == lock
  moves (Unlock q number) = number == lock && p == q
  moves _ = false

  -- the sentence with a test
  record Holds (h : List Event) : Type 0 where
    newer : List Event
    older : List Event
    split : h ≡ newer ++ Lock p lock ∷ older
    unmoved : any moves newer ≡ false

  further : (e : Event) (h : List Event) → moves e ≡ false → Holds h → Holds (e ∷ h)
  further e h unmoved k = record {
    newer = e ∷ k.newer;
    older = k.older;
    split = ap (λ es. e ∷ es) k.split;
    unmoved = or_from (moves e) (any moves k.newer) unmoved k.unmoved;
  }

  at_lock : (q number : ℕ) (h : List Event) (b : Bool) → (number == lock) ≡ b → cond b (Some q) (holder_of h lock) ≡ Some p
      → (holder_of h lock ≡ Some p → Holds h) → Holds (Lock q number ∷ h)
  at_lock q number h true e k rest =
      let same : q ≡ p = cc in
      let number_is : number ≡ lock = eqb-true number lock e in
      record { newer = []; older = h; split = cc; unmoved = refl }
  at_lock q number h false e k rest = further (Lock q number) h e (rest k)

  at_unlock : (q number : ℕ) (h : List Event) (b : Bool) → (number == lock && is_that (holder_of h lock) q) ≡ b
      → cond b None (holder_of h lock) ≡ Some p → (holder_of h lock ≡ Some p → Holds h) → Holds (Unlock q number ∷ h)
  at_unlock q number h true e k rest = cc
  at_unlock q number h false e k rest =
      further (Unlock q number) h (sym (ap (λ o. number == lock && is_that o q) k) ∙ e) (rest k)

  sound : (h : List Event) → holder_of h lock ≡ Some p → Holds h
  sound [] k = cc
  sound (Lock q number ∷ h) k = at_lock q number h (number == lock) refl k (sound h)
  sound (Unlock q number ∷ h) k = at_unlock q number h (number == lock && is_that (holder_of h lock) q) refl k (sound h)
  sound (e ∷ h) k = further e h refl (sound h k)

  past_unlock : (q number : ℕ) (o : Option ℕ) (b : Bool) → o ≡ Some p → (number == lock && p == q) ≡ b → b ≡ false
      → cond (number == lock && is_that o q) None o ≡ Some p
  past_unlock q number o b e is none =
      subst (λ o. cond (number == lock && is_that o q) None o ≡ Some p) (sym e)
      (subst (λ c. cond c None (Some p) ≡ Some p) (sym (is ∙ none)) refl)

  complete : (newer older : List Event) → any moves newer ≡ false → holder_of (newer ++ Lock p lock ∷ older) lock ≡ Some p
  complete [] older none = ap (λ b. cond b (Some p) (holder_of older lock)) (same_number lock)
  complete (Lock q number ∷ newer) older none =
      let r = or_parts (number == lock) (any moves newer) none in
      ap (λ b. cond b (Some q) (holder_of (newer ++ Lock p lock ∷ older) lock)) r.0 ∙ complete newer older r.1
  complete (Unlock q number ∷ newer) older none =
      let r = or_parts (number == lock && p == q) (any moves newer) none in
      past_unlock q number (holder_of (newer ++ Lock p lock ∷ older) lock) (number == lock && p == q)
      (complete newer older r.1) refl r.0
  complete (e ∷ newer) older none = complete newer older none

  -- the test on the newer events, from the clauses of the sentence
  unmoved_by : (newer : List Event) (last : (q : ℕ) (after before : List Event) → newer ≡ after ++ Lock q lock ∷ before → ⊥)
      (not_given : (after before : List Event) → newer ≡ after ++ Unlock p lock ∷ before → ⊥)
      (e : Event) (after before : List Event) → newer ≡ after ++ e ∷ before → moves e ≡ false
  unmoved_by newer last not_given (Lock q number) after before split =
      false_from_ne_true (number == lock) (λ k. last q after before
      (split ∙ ap (λ n. after ++ Lock q n ∷ before) (eqb-true number lock k)))
  unmoved_by newer last not_given (Unlock q number) after before split =
      false_from_ne_true (number == lock && p == q) (λ k.
      let r = and_parts (number == lock) (p == q) k in
      let lock_is : number ≡ lock = eqb-true number lock r.0 in
      let pe_is : q ≡ p = sym (eqb-true p q r.1) in
      not_given after before (split ∙ ap (λ e. after ++ e ∷ before) (cc)))
  unmoved_by newer last not_given e after before split = refl

pub lock_sound : (h : List Event) (p lock : ℕ) → holder_of h lock ≡ Some p → HoldsLock h p lock
lock_sound h p lock k =
    let s : Holds p lock h = sound p lock h k in
    record {
      newer = s.newer;
      older = s.older;
      split = s.split;
      last = λ q after before e.
          true≢false (sym (same_number lock) ∙ none_at (moves p lock) s.newer s.unmoved (Lock q lock) after before e);
      not_given = λ after before e.
          true≢false (sym (and_from (lock == lock) (p == p) (same_number lock) (same_number p))
          ∙ none_at (moves p lock) s.newer s.unmoved (Unlock p lock) after before e);
    }

pub lock_complete : (h : List Event) (p lock : ℕ) → HoldsLock h p lock → holder_of h lock ≡ Some p
lock_complete h p lock s =
    ap (λ es. holder_of es lock) s.split
    ∙ complete p lock s.newer s.older (is_none_at (moves p lock) s.newer (unmoved_by p lock s.newer s.last s.not_given))

pub ruleset laws = (lock_sound, lock_complete)
