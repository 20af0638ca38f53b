-- The holder after a list of calls is the last PE that took the lock, where no later call takes it or gives it back.
use Rattle.std.proofs.Common.{◌≡◌, ℕ, inl, inr, Some, List, [], ◌∷◌, ◌++◌, ◌↔◌, refl, ap, sym, ◌∙◌, arith}
use Rattle.std.proofs.lemmas.Bool.Decides.{nat_tests, eqb_tells}
use Rattle.bbm_locks.specs.Holders.{Call, taken, given, holder_after, LeavesAlone, TookLast}

past_taken : (pe number : ℕ) (calls : List Call) (lock : ℕ) → ¬ (number ≡ lock) → holder_after (taken pe number ∷ calls) lock ≡ holder_after calls lock
past_taken pe number calls lock other = grind (arith, nat_tests)

past_given : (pe number : ℕ) (calls : List Call) (lock : ℕ) → ¬ (number ≡ lock) → holder_after (given pe number ∷ calls) lock ≡ holder_after calls lock
past_given pe number calls lock other = grind (arith, nat_tests)

at_taken : (pe lock : ℕ) (calls : List Call) → holder_after (taken pe lock ∷ calls) lock ≡ Some pe
at_taken pe lock calls = grind (arith, nat_tests)

holds : (later earlier : List Call) (pe lock : ℕ) → LeavesAlone lock later → holder_after (later ++ taken pe lock ∷ earlier) lock ≡ Some pe
holds [] earlier pe lock alone = at_taken pe lock earlier
holds (taken q number ∷ later) earlier pe lock alone = past_taken q number (later ++ taken pe lock ∷ earlier) lock alone.0 ∙ holds later earlier pe lock alone.1
holds (given q number ∷ later) earlier pe lock alone = past_given q number (later ++ taken pe lock ∷ earlier) lock alone.0 ∙ holds later earlier pe lock alone.1

grows : (call : Call) (calls : List Call) (pe lock : ℕ) (t : TookLast calls pe lock) → LeavesAlone lock (call ∷ t.later) → TookLast (call ∷ calls) pe lock
grows call calls pe lock t alone = record { later = call ∷ t.later; earlier = t.earlier; split = ap (λ cs. call ∷ cs) t.split; alone = alone }

took_here : (q number : ℕ) (calls : List Call) (pe lock : ℕ) → number ≡ lock → holder_after (taken q number ∷ calls) lock ≡ Some pe → TookLast (taken q number ∷ calls) pe lock
took_here q number calls pe lock same h =
    let is_pe : q ≡ pe = grind (arith, nat_tests) in
    record { later = []; earlier = calls; split = rw (same, is_pe) refl; alone = tt }

free_here : (q number : ℕ) (calls : List Call) (pe lock : ℕ) → number ≡ lock → holder_after (given q number ∷ calls) lock ≡ Some pe → ⊥
free_here q number calls pe lock same h = grind (arith, nat_tests)

took : (calls : List Call) (pe lock : ℕ) → holder_after calls lock ≡ Some pe → TookLast calls pe lock
took [] pe lock h = cc
took (taken q number ∷ calls) pe lock h =
    elim (eqb_tells number lock) [
      | inl found ↦ took_here q number calls pe lock found.1 h
      | inr other ↦ let t = took calls pe lock (sym (past_taken q number calls lock other.1) ∙ h) in grows (taken q number) calls pe lock t (other.1, t.alone)
    ]
took (given q number ∷ calls) pe lock h =
    elim (eqb_tells number lock) [
      | inl found ↦ absurd (free_here q number calls pe lock found.1 h)
      | inr other ↦ let t = took calls pe lock (sym (past_given q number calls lock other.1) ∙ h) in grows (given q number) calls pe lock t (other.1, t.alone)
    ]

pub last_taker : (calls : List Call) (pe lock : ℕ) → (holder_after calls lock ≡ Some pe) ↔ TookLast calls pe lock
last_taker calls pe lock = (took calls pe lock, λ t. rw t.split (holds t.later t.earlier pe lock t.alone))
