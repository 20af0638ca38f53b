-- Between two writes under one lock by different PEs the lock changes hands.
use Rattle.bbm_histories.proofs.Common.{Heading, Below}
use Rattle.bbm_rules.proofs.Common.{◌≡◌, ◌≢◌, ℕ, Bool, true, false, cond, not, ◌⊎◌, ◌&&◌, ◌==◌, List, [], ◌∷◌, ◌++◌}
use Rattle.bbm_rules.proofs.Common.{Option, Some, None, refl, sym, ◌∙◌, ap, subst, inl, inr, true≢false, and_parts}
use Rattle.bbm_rules.proofs.Common.{eqb-true, Event, Lock, Unlock, Write, keeps, Trust, noted, ◌>>=◌, if_so, is_that}
use Rattle.bbm_rules.proofs.Common.{holder_of, page_of, lock_of, lacks, Node, node_of}
use Rattle.bbm_rules.specs.declared.rule.Rule.TheVariants.{NoLock, LockBusy}
use Rattle.bbm_histories.specs.LockChanges.{HandsOver, lock_at}
use Rattle.bbm_histories.proofs.Induction.{Unbroken, kept_before, last_kept}
use Rattle.bbm_rules.proofs.RuleLemmas.{if_none}

is_that_pe : (o : Option ℕ) (p : ℕ) → not (is_that o p) ≡ false → o ≡ Some p
is_that_pe None p k = absurd (true≢false k)
is_that_pe (Some m) p k = by (m == p) refl k
  where
    by : (b : Bool) → (m == p) ≡ b → not b ≡ false → Some m ≡ Some p
    by true e k = ap Some (eqb-true m p e)
    by false e k = absurd (true≢false k)

-- a write that breaks no rule is one by the holder of the lock of its place
locked : (on : Option Node) (lock_in : Node → Option ℕ) (lock : ℕ) (lacking : ℕ → Bool) (place : ℕ)
    → (on >>= lock_in) ≡ Some lock
    → (on >>= (λ n. lock_in n >>= (λ l. if_so (lacking l) place))) ≡ None → lacking lock ≡ false
locked None lock_in lock lacking place named unbroken = cc
locked (Some n) lock_in lock lacking place named unbroken =
    if_none (lacking lock) place
    (subst (λ (o : Option ℕ). (o >>= (λ l. if_so (lacking l) place)) ≡ None) named unbroken)

module _ (heading : Heading) (trust : Trust) (known : Below heading trust) where
  writer_holds : (h : List Event) (p place value lock : ℕ) → Unbroken heading trust (noted heading trust h) (Write p place value)
      → lock_at heading trust h place ≡ Some lock → holder_of h lock ≡ Some p
  writer_holds h p place value lock unbroken named =
      is_that_pe (holder_of h lock) p
      (locked (node_of heading trust (noted heading trust h) (page_of place)) (λ n. lock_of h n.root) lock (lacks h p) place named
      (subst (λ (es : List Event). (node_of heading trust (noted heading trust h) (page_of place)
      >>= (λ n. lock_of es n.root >>= (λ l. if_so (lacks es p l) place))) ≡ None)
      (known.notes_keep_the_events h) (unbroken NoLock refl)))

  -- a lock that is taken was free
  was_free : (h : List Event) (r lock : ℕ) → Unbroken heading trust (noted heading trust h) (Lock r lock)
      → holder_of h lock ≡ None
  was_free h r lock unbroken =
      subst (λ (es : List Event). holder_of es lock ≡ None) (known.notes_keep_the_events h) (unbroken LockBusy refl)

  module _ (p lock : ℕ) (start : List Event) (held : holder_of start lock ≡ Some p) where
    abbrev Given : List Event → Type 0
    Given es = (newer : List Event) × (older : List Event) × (es ≡ newer ++ Unlock p lock ∷ older)

    given_later : (e : Event) (es : List Event) → Given es → Given (e ∷ es)
    given_later e es g = (e ∷ g.0, g.1, ap (λ (xs : List Event). e ∷ xs) g.2)

    after_lock : (r number : ℕ) (es : List Event) (b : Bool) → (number == lock) ≡ b
        → Unbroken heading trust (noted heading trust (es ++ start)) (Lock r number)
        → holder_of (es ++ start) lock ≡ Some p
        → cond b (Some r) (holder_of (es ++ start) lock) ≡ Some p
    after_lock r number es true e unbroken mine =
        let free : holder_of (es ++ start) lock ≡ None
        = subst (λ (l : ℕ). holder_of (es ++ start) l ≡ None) (eqb-true number lock e)
        (was_free (es ++ start) r number unbroken) in
        cc
    after_lock r number es false e unbroken mine = mine

    after_unlock : (r number : ℕ) (es : List Event) (b : Bool)
        → (number == lock && is_that (holder_of (es ++ start) lock) r) ≡ b
        → holder_of (es ++ start) lock ≡ Some p
        → (cond b None (holder_of (es ++ start) lock) ≡ Some p) ⊎ Given (Unlock r number ∷ es)
    after_unlock r number es true e mine =
        let parts = and_parts (number == lock) (is_that (holder_of (es ++ start) lock) r) e in
        let number_is : number ≡ lock = eqb-true number lock parts.0 in
        let pe_is : p ≡ r = eqb-true p r (sym (ap (λ (o : Option ℕ). is_that o r) mine) ∙ parts.1) in
        inr ([], es, cc)
    after_unlock r number es false e mine = inl mine

    -- the PE still holds the lock, or it gave it back
    holds_or_gave : (es : List Event) → keeps heading trust (es ++ start) ≡ true
        → (holder_of (es ++ start) lock ≡ Some p) ⊎ Given es
    holds_or_gave [] k = inl held
    holds_or_gave (e ∷ es) k =
        let parts = last_kept heading trust known (es ++ start) e k in
        elim (holds_or_gave es parts.0) [
          | inl mine ↦ step e es parts.1 mine
          | inr gave ↦ inr (given_later e es gave)
        ]
      where
        step : (e : Event) (es : List Event) → Unbroken heading trust (noted heading trust (es ++ start)) e
            → holder_of (es ++ start) lock ≡ Some p
            → (holder_of (e ∷ (es ++ start)) lock ≡ Some p) ⊎ Given (e ∷ es)
        step (Lock r number) es unbroken mine = inl (after_lock r number es (number == lock) refl unbroken mine)
        step (Unlock r number) es unbroken mine =
            after_unlock r number es (number == lock && is_that (holder_of (es ++ start) lock) r) refl mine
        step e es unbroken mine = inl mine

    module _ (q : ℕ) (other : p ≢ q) where
      abbrev Over : List Event → Type 0
      Over es = HandsOver p q lock es

      over_later : (e : Event) (es : List Event) → Over es → Over (e ∷ es)
      over_later e es o = record {
        newer = e ∷ o.newer;
        middle = o.middle;
        older = o.older;
        split = ap (λ (xs : List Event). e ∷ xs) o.split;
      }

      -- where q holds the lock now
      at_lock : (r number : ℕ) (es : List Event) (b : Bool) → (number == lock) ≡ b
          → keeps heading trust (es ++ start) ≡ true
          → Unbroken heading trust (noted heading trust (es ++ start)) (Lock r number)
          → cond b (Some r) (holder_of (es ++ start) lock) ≡ Some q
          → (holder_of (es ++ start) lock ≡ Some q → Over es) → Over (Lock r number ∷ es)
      at_lock r number es true e k unbroken now rest =
          let free : holder_of (es ++ start) lock ≡ None
          = subst (λ (l : ℕ). holder_of (es ++ start) l ≡ None) (eqb-true number lock e)
          (was_free (es ++ start) r number unbroken) in
          let number_is : number ≡ lock = eqb-true number lock e in
          let pe_is : r ≡ q = cc in
          elim (holds_or_gave es k) [
            | inl mine ↦ cc
            | inr gave ↦ record { newer = []; middle = gave.0; older = gave.1; split = cc (gave.2) }
          ]
      at_lock r number es false e k unbroken now rest = over_later (Lock r number) es (rest now)

      at_unlock : (r number : ℕ) (es : List Event) (b : Bool) → cond b None (holder_of (es ++ start) lock) ≡ Some q
          → (holder_of (es ++ start) lock ≡ Some q → Over es) → Over (Unlock r number ∷ es)
      at_unlock r number es true now rest = cc
      at_unlock r number es false now rest = over_later (Unlock r number) es (rest now)

      hands_over : (es : List Event) → keeps heading trust (es ++ start) ≡ true → holder_of (es ++ start) lock ≡ Some q → Over es
      hands_over [] k now =
          let same : p ≡ q = cc in absurd (other same)
      hands_over (Lock r number ∷ es) k now =
          let parts = last_kept heading trust known (es ++ start) (Lock r number) k in
          at_lock r number es (number == lock) refl parts.0 parts.1 now (hands_over es parts.0)
      hands_over (Unlock r number ∷ es) k now =
          let parts = last_kept heading trust known (es ++ start) (Unlock r number) k in
          at_unlock r number es (number == lock && is_that (holder_of (es ++ start) lock) r) now (hands_over es parts.0)
      hands_over (e ∷ es) k now =
          over_later e es (hands_over es (last_kept heading trust known (es ++ start) e k).0 now)

pub lock_order : (heading : Heading) (trust : Trust) → Below heading trust → (h newer between older : List Event)
    (p q place other value later lock : ℕ) → keeps heading trust h ≡ true → p ≢ q
    → h ≡ newer ++ Write q other later ∷ (between ++ Write p place value ∷ older)
    → lock_at heading trust older place ≡ Some lock
    → lock_at heading trust (between ++ Write p place value ∷ older) other ≡ Some lock → HandsOver p q lock between
lock_order heading trust b h newer between older p q place other value later lock k differ split first second =
    let first_write : List Event = Write p place value ∷ older in
    let kept : keeps heading trust (Write q other later ∷ (between ++ first_write)) ≡ true
    = kept_before heading trust newer (Write q other later ∷ (between ++ first_write))
    (subst (λ (es : List Event). keeps heading trust es ≡ true) split k) in
    let last = last_kept heading trust b (between ++ first_write) (Write q other later) kept in
    let begin = last_kept heading trust b older (Write p place value) (kept_before heading trust between first_write last.0) in
    hands_over heading trust b p lock first_write (writer_holds heading trust b older p place value lock begin.1 first) q differ
    between last.0 (writer_holds heading trust b (between ++ first_write) q other later lock last.1 second)
