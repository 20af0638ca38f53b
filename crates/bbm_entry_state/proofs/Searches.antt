-- Searches through the steps of a place.
use Rattle.std.proofs.Common.{◌≡◌, ℕ, Bool, true, false, ◌&&◌, ◌||◌, ◌==◌, List, [], ◌∷◌, refl, ap, sym, ◌∙◌, inl, inr}
use Rattle.std.proofs.Common.{if◌then◌else◌}
use Rattle.std.proofs.lemmas.Bool.{and_from, and_parts, or_cases, or_left, or_right, eqb-true, false_from_ne_true}
use Rattle.bbm_lemmas.proofs.Tautologies.{proved}
use Rattle.bbm_lemmas.proofs.Tautologies.Claim.{If, Is}
use Rattle.bbm_lemmas.specs.ListWords.{same_flag}
use Rattle.bbm_barriers.specs.declared.Dsb.{Dsb}
use Rattle.bbm_barriers.specs.Options.{publishes, answers}
use Rattle.bbm_tlbi_scope.specs.declared.entry.Cover.{Cover}
use Rattle.bbm_tlbi_scope.specs.declared.entry.Cover.TheVariants.{None as NoCover, Half, Second, Full}
use Rattle.bbm_tlbi_scope.specs.SameCover.{same_cover}
use Rattle.bbm_entry_state.specs.EntrySteps.{Step, Wrote, Barrier, Flush, some, is_write, writes, issues, answers_one}
use Rattle.bbm_entry_state.specs.EntrySteps.{answered, still_waits}
use Rattle.bbm_entry_state.specs.EntryPatterns.{publishes_write, seen, flushes, half, earned}

-- where a test passes, the PE had seen the break
pub record NeedsSeen (n p : ℕ) (test : Step → List Step → Bool) : Type 0 where
  pub before : (step : Step) (older : List Step) → test step older ≡ true → seen n p older ≡ true

module _ (n p : ℕ) (test : Step → List Step → Bool) (needs : NeedsSeen n p test) where
  issue_seen : (q : ℕ) (b : Bool) (step : Step) (older : List Step) → issues q b test step older ≡ true → seen n p older ≡ true
  issue_seen q b (Wrote pe value) older h = cc
  issue_seen q b (Barrier pe dsb) older h = cc
  issue_seen q b (Flush pe reach broadcast cover) older h =
      needs.before (Flush pe reach broadcast cover) older
      (and_parts (same_flag broadcast b) (test (Flush pe reach broadcast cover) older)
      (and_parts (pe == q) (same_flag broadcast b && test (Flush pe reach broadcast cover) older) h).1).1

  issued_seen : (q : ℕ) (b : Bool) (steps : List Step) → some (issues q b test) steps ≡ true → seen n p steps ≡ true
  issued_seen q b [] h = cc
  issued_seen q b (step ∷ older) h =
      or_right (publishes_write n p step older) (seen n p older)
      (elim (or_cases (issues q b test step older) (some (issues q b test) older) h) [
        | inl here ↦ issue_seen q b step older here
        | inr there ↦ issued_seen q b older there
      ])

  answer_seen : (step : Step) (older : List Step) → answers_one test step older ≡ true → seen n p older ≡ true
  answer_seen (Wrote pe value) older h = cc
  answer_seen (Flush pe reach broadcast cover) older h = cc
  answer_seen (Barrier q dsb) older h =
      elim (or_cases (answers dsb true && some (issues q true test) older) (answers dsb false && some (issues q false test) older) h) [
        | inl wide ↦ issued_seen q true older (and_parts (answers dsb true) (some (issues q true test) older) wide).1
        | inr local ↦ issued_seen q false older (and_parts (answers dsb false) (some (issues q false test) older) local).1
      ]

  answered_seen : (steps : List Step) → answered test steps ≡ true → seen n p steps ≡ true
  answered_seen [] h = cc
  answered_seen (step ∷ older) h =
      or_right (publishes_write n p step older) (seen n p older)
      (elim (or_cases (answers_one test step older) (answered test older) h) [
        | inl here ↦ answer_seen step older here
        | inr there ↦ answered_seen older there
      ])

  stopped : (stop waits : Bool) → (if stop then false else waits) ≡ true → waits ≡ true
  stopped = proved 2 (λ stop waits. If (Is (if stop then false else waits) true) (Is waits true)) refl

  waiting_seen : (q : ℕ) (b : Bool) (steps : List Step) → still_waits test q b steps ≡ true → seen n p steps ≡ true
  waiting_seen q b [] h = cc
  waiting_seen q b (Wrote pe value ∷ older) h = waiting_seen q b older h
  waiting_seen q b (Barrier pe dsb ∷ older) h =
      or_right (publishes_write n p (Barrier pe dsb) older) (seen n p older)
      (waiting_seen q b older (stopped (pe == q && answers dsb b) (still_waits test q b older) h))
  waiting_seen q b (Flush pe reach broadcast cover ∷ older) h =
      elim (or_cases (issues q b test (Flush pe reach broadcast cover) older) (still_waits test q b older) h) [
        | inl here ↦ issue_seen q b (Flush pe reach broadcast cover) older here
        | inr there ↦ waiting_seen q b older there
      ]

-- each grade of cover counts only where the PE had seen the break
flush_seen : (n p : ℕ) (c : Cover) (before : List Step → Bool) → ((older : List Step) → before older ≡ true → seen n p older ≡ true)
    → (step : Step) (older : List Step) → flushes before c p step older ≡ true → seen n p older ≡ true
flush_seen n p c before needs (Wrote pe value) older h = cc
flush_seen n p c before needs (Barrier pe dsb) older h = cc
flush_seen n p c before needs (Flush pe reach broadcast cover) older h =
    needs older (and_parts (same_cover c cover) (before older) (and_parts (reach p) (same_cover c cover && before older) h).1).1

half_seen : (n p : ℕ) (older : List Step) → half n p older ≡ true → seen n p older ≡ true
half_seen n p older h =
    answered_seen n p (flushes (seen n p) Half p) (record { before = flush_seen n p Half (seen n p) (λ s found. found) }) older h

earned_seen : (n p : ℕ) (c : Cover) (older : List Step) → earned n c p older ≡ true → seen n p older ≡ true
earned_seen n p NoCover older h = cc
earned_seen n p Half older h = h
earned_seen n p Second older h = half_seen n p older h
earned_seen n p Full older h = h

pub counted_seen : (n p : ℕ) (c : Cover) → NeedsSeen n p (flushes (earned n c p) c p)
counted_seen n p c = record { before = flush_seen n p c (earned n c p) (earned_seen n p c) }

-- three laws of tests
under_or : (i x y a : Bool) → (x || a) ≡ (y || a) → ((i || x) || a) ≡ ((i || y) || a)
under_or = proved 4 (λ i x y a. If (Is (x || a) (y || a)) (Is ((i || x) || a) ((i || y) || a))) refl

over_or : (x y o a : Bool) → (x || a) ≡ (y || a) → (x || (o || a)) ≡ (y || (o || a))
over_or = proved 4 (λ x y o a. If (Is (x || a) (y || a)) (Is (x || (o || a)) (y || (o || a)))) refl

absorbed : (x o a : Bool) → (x ≡ true → o ≡ true) → (x || (o || a)) ≡ (o || a)
absorbed = proved 3 (λ x o a. If (If (Is x true) (Is o true)) (Is (x || (o || a)) (o || a))) refl

-- a TLBI that was issued still waits or was answered
module _ (test : Step → List Step → Bool) where
  barrier_waits : (stops issued waits answer rest : Bool) → (stops ≡ true → issued ≡ true → answer ≡ true) → (issued || rest) ≡ (waits || rest)
      → (issued || (answer || rest)) ≡ ((if stops then false else waits) || (answer || rest))
  barrier_waits = proved 5 (λ stops issued waits answer rest. If (If (Is stops true) (If (Is issued true)
      (Is answer true))) (If (Is (issued || rest) (waits || rest)) (Is (issued || (answer || rest))
      ((if stops then false else waits) || (answer || rest))))) refl

  answer_of : (b : Bool) (pe : ℕ) (dsb : Dsb) (older : List Step) → answers dsb b ≡ true → some (issues pe b test) older ≡ true → answers_one test (Barrier pe dsb) older ≡ true
  answer_of true pe dsb older ends issued =
      or_left (answers dsb true && some (issues pe true test) older) (answers dsb false && some (issues pe false test) older)
      (and_from (answers dsb true) (some (issues pe true test) older) ends issued)
  answer_of false pe dsb older ends issued =
      or_right (answers dsb true && some (issues pe true test) older) (answers dsb false && some (issues pe false test) older)
      (and_from (answers dsb false) (some (issues pe false test) older) ends issued)

  answer_at : (q : ℕ) (b : Bool) (pe : ℕ) (dsb : Dsb) (older : List Step) → (pe == q && answers dsb b) ≡ true → some (issues q b test) older ≡ true → answers_one test (Barrier pe dsb) older ≡ true
  answer_at q b pe dsb older ends issued =
      let parts : ((pe == q) ≡ true) × (answers dsb b ≡ true) = and_parts (pe == q) (answers dsb b) ends in
      let same : pe ≡ q = eqb-true pe q parts.0 in
      answer_of b pe dsb older parts.1 (ap (λ (k : ℕ). some (issues k b test) older) same ∙ issued)

  issued_waits : (q : ℕ) (b : Bool) (steps : List Step) → (some (issues q b test) steps || answered test steps) ≡ (still_waits test q b steps || answered test steps)
  issued_waits q b [] = refl
  issued_waits q b (Wrote pe value ∷ older) = issued_waits q b older
  issued_waits q b (Flush pe reach broadcast cover ∷ older) =
      under_or (issues q b test (Flush pe reach broadcast cover) older) (some (issues q b test) older) (still_waits test q b older) (answered test older) (issued_waits q b older)
  issued_waits q b (Barrier pe dsb ∷ older) =
      barrier_waits (pe == q && answers dsb b) (some (issues q b test) older) (still_waits test q b older) (answers_one test (Barrier pe dsb) older) (answered test older)
      (answer_at q b pe dsb older) (issued_waits q b older)

answer_bits : (wide local issued issued' waits waits' rest seen : Bool) → (issued || rest) ≡ (waits || rest) → (issued' || rest) ≡ (waits' || rest)
    → (waits ≡ true → seen ≡ true) → (waits' ≡ true → seen ≡ true)
    → (rest || (seen && ((wide && waits) || (local && waits')))) ≡ (((wide && issued) || (local && issued')) || rest)
answer_bits = proved 8 (λ wide local issued issued' waits waits' rest seen. If (Is (issued || rest) (waits || rest)) (If
    (Is (issued' || rest) (waits' || rest)) (If (If (Is waits true) (Is seen true)) (If (If (Is waits' true)
    (Is seen true)) (Is (rest || (seen && ((wide && waits) || (local && waits')))) (((wide && issued) || (local
    && issued')) || rest)))))) refl

pub answer_adds : (n p q : ℕ) (dsb : Dsb) (test : Step → List Step → Bool) (steps : List Step) → NeedsSeen n p test
    → (answered test steps || (seen n p (Barrier q dsb ∷ steps) && ((answers dsb true && still_waits test q true steps) || (answers dsb false && still_waits test q false steps))))
    ≡ answered test (Barrier q dsb ∷ steps)
answer_adds n p q dsb test steps needs =
    answer_bits (answers dsb true) (answers dsb false) (some (issues q true test) steps) (some (issues q false test) steps)
    (still_waits test q true steps) (still_waits test q false steps) (answered test steps) (seen n p (Barrier q dsb ∷ steps))
    (issued_waits test q true steps) (issued_waits test q false steps)
    (λ h. or_right (publishes_write n p (Barrier q dsb) steps) (seen n p steps) (waiting_seen n p test needs q true steps h))
    (λ h. or_right (publishes_write n p (Barrier q dsb) steps) (seen n p steps) (waiting_seen n p test needs q false steps h))

-- what a PE has seen was written
written : (q : ℕ) (steps : List Step) → some (writes q) steps ≡ true → some is_write steps ≡ true
written q [] h = cc
written q (Wrote pe value ∷ older) h = refl
written q (Barrier pe dsb ∷ older) h = written q older h
written q (Flush pe reach broadcast cover ∷ older) h = written q older h

pub seen_written : (n p : ℕ) (steps : List Step) → seen n p steps ≡ true → some is_write steps ≡ true
seen_written n p [] h = cc
seen_written n p (Wrote pe value ∷ older) h = refl
seen_written n p (Flush pe reach broadcast cover ∷ older) h = seen_written n p older h
seen_written n p (Barrier q dsb ∷ older) h =
    elim (or_cases (publishes dsb q n p && some (writes q) older) (seen n p older) h) [
      | inl here ↦ written q older (and_parts (publishes dsb q n p) (some (writes q) older) here).1
      | inr there ↦ seen_written n p older there
    ]

-- nothing waits for the flush of a place that wasn't written
pub unwritten_waits : (n p q : ℕ) (b : Bool) (c : Cover) (steps : List Step) → some is_write steps ≡ false → still_waits (flushes (earned n c p) c p) q b steps ≡ false
unwritten_waits n p q b c steps none =
    false_from_ne_true (still_waits (flushes (earned n c p) c p) q b steps) (λ h.
    let wrote : some is_write steps ≡ true = seen_written n p steps (waiting_seen n p (flushes (earned n c p) c p) (counted_seen n p c) q b steps h) in
    let differ : false ≡ true = sym none ∙ wrote in
    cc)
