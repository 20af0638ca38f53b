-- Needed TLBIs that aren't answered, after one more event.
use Rattle.bbm_idle.proofs.Common.{is_cast, waits, waits_after, answers_needed, is_needed}
use Rattle.bbm_rules.proofs.Common.{◌≡◌, ℕ, Bool, true, false, not, cond, ◌&&◌, ◌||◌, ◌==◌, List, [], ◌∷◌, refl, sym}
use Rattle.bbm_rules.proofs.Common.{ap, ◌∙◌, and_parts, any-filter_same, proved, Is, answers, operation, any, Barrier}
use Rattle.bbm_rules.proofs.Common.{Heading, Event, Dsb, Tlbi, Issued, completes, left_open, unanswered, itself}
use Rattle.bbm_rules.proofs.Common.{and-true, and_comm}
use Rattle.bbm_regimes.specs.PeMask.{pe_in}
use Rattle.bbm_idle.specs.Finding.{IsWaiting, waits_for}
use Rattle.bbm_idle.specs.Idle.{is_idle}
use Rattle.bbm_idle.specs.declared.find_waiting.Waiting.{Waiting}
use Rattle.bbm_lemmas.proofs.Bools.{never_of_two, both_of_two}
use Rattle.bbm_oracle_tags.proofs.WatchLemmas.{sorted}

not_twice : (b : Bool) → b ≡ not (not b)
not_twice = proved 1 (λ b. Is b (not (not b))) refl

module _ (heading : Heading) where
  left_waiting : (dsb : Barrier) (cast : Bool) (ts : List (Issued Event))
      → any (waits_for heading cast) (left_open itself dsb ts) ≡ (any (waits_for heading cast) ts && not (answers dsb cast))
  left_waiting dsb cast ts =
      any-filter_same (waits_for heading cast) (λ t. not (completes dsb t.tlbi)) (not (answers dsb cast))
      (λ t k. sorted cast dsb t.tlbi (and_parts (is_cast cast t.tlbi) (is_needed heading t.before t.tlbi) k).0) ts
      ∙ and_comm (not (answers dsb cast)) (any (waits_for heading cast) ts)

  pub waits_next : (e : Event) (h : List Event) (cast : Bool) (q : ℕ)
      → waits heading cast q (e ∷ h) ≡ waits_after cast (is_idle heading h e) e q (waits heading cast q h)
  unfolding is_idle
  waits_next (Tlbi pe op xt) h cast q = by_case (pe == q)
    where
      by_case : (b : Bool) → any (waits_for heading cast)
          (cond b (record { tlbi = Tlbi pe op xt; before = h } ∷ unanswered itself q h) (unanswered itself q h))
          ≡ ((b && (is_cast cast (Tlbi pe op xt) && not (not (is_needed heading h (Tlbi pe op xt))))) || waits heading cast q h)
      by_case true = ap (λ (b : Bool). (is_cast cast (Tlbi pe op xt) && b) || waits heading cast q h) (not_twice (is_needed heading h (Tlbi pe op xt)))
      by_case false = refl
  waits_next (Dsb pe dsb) h cast q = by_case (pe == q)
    where
      by_case : (b : Bool) → any (waits_for heading cast) (cond b (left_open itself dsb (unanswered itself q h)) (unanswered itself q h))
          ≡ (waits heading cast q h && not (b && answers dsb cast))
      by_case true = left_waiting dsb cast (unanswered itself q h)
      by_case false = sym (and-true (waits heading cast q h))
  waits_next e h cast q = refl

  pub waits_kept : (e : Event) (h : List Event) (cast : Bool) (q : ℕ) (idle before now : Bool) → idle ≡ is_idle heading h e
      → before ≡ waits heading cast q h → now ≡ waits_after cast idle e q before → now ≡ waits heading cast q (e ∷ h)
  waits_kept e h cast q idle before now told old new =
      new ∙ ap (λ (b : Bool). waits_after cast b e q before) told
      ∙ ap (λ (b : Bool). waits_after cast (is_idle heading h e) e q b) old
      ∙ sym (waits_next e h cast q)

  -- ---- what a DSB answers

  answered_one : (dsb : Barrier) (t : Issued Event)
      → answers_needed heading dsb t ≡ ((answers dsb true && waits_for heading true t) || (answers dsb false && waits_for heading false t))
  answered_one dsb t = by_event t.tlbi (is_needed heading t.before t.tlbi)
    where
      cast : (a f n : Bool) → (b : Bool) → (cond b a f && n) ≡ ((a && (b && n)) || (f && (not b && n)))
      cast = proved 4 (λ a f n b. Is (cond b a f && n) ((a && (b && n)) || (f && (not b && n)))) refl

      either_of : (b : Bool) → answers dsb b ≡ cond b (answers dsb true) (answers dsb false)
      either_of true = refl
      either_of false = refl

      by_event : (e : Event) (n : Bool) → (completes dsb e && n)
          ≡ ((answers dsb true && (is_cast true e && n)) || (answers dsb false && (is_cast false e && n)))
      by_event (Tlbi pe op xt) n =
          ap (λ (b : Bool). b && n) (either_of (operation op).broadcast)
          ∙ cast (answers dsb true) (answers dsb false) n (operation op).broadcast
      by_event e n = never_of_two (answers dsb true) (answers dsb false) n

  pub answered : (dsb : Barrier) (ts : List (Issued Event)) → any (answers_needed heading dsb) ts
      ≡ ((answers dsb true && any (waits_for heading true) ts) || (answers dsb false && any (waits_for heading false) ts))
  answered dsb [] = proved 2 (λ a f. Is false ((a && false) || (f && false))) refl (answers dsb true)
      (answers dsb false)
  answered dsb (t ∷ ts) =
      ap (λ (b : Bool). b || any (answers_needed heading dsb) ts) (answered_one dsb t)
      ∙ ap (λ (b : Bool). ((answers dsb true && waits_for heading true t) || (answers dsb false && waits_for heading false t)) || b) (answered dsb ts)
      ∙ both_of_two (answers dsb true) (answers dsb false) (waits_for heading true t) (waits_for heading false t)
      (any (waits_for heading true) ts) (any (waits_for heading false) ts)

  pub answered_by : (h : List Event) (pe : ℕ) (dsb : Barrier) (w : Waiting) (broadcast local : Bool) → IsWaiting w heading h
      → broadcast ≡ (answers dsb true && pe_in w.broadcast pe) → local ≡ (answers dsb false && pe_in w.local pe)
      → (broadcast || local) ≡ any (answers_needed heading dsb) (unanswered itself pe h)
  answered_by h pe dsb w broadcast local is b l =
      ap (λ (x : Bool). x || local) (b ∙ ap (λ (x : Bool). answers dsb true && x) (is.broadcast pe))
      ∙ ap (λ (x : Bool). (answers dsb true && waits heading true pe h) || x) (l ∙ ap (λ (x : Bool). answers dsb false && x) (is.local pe))
      ∙ sym (answered dsb (unanswered itself pe h))
