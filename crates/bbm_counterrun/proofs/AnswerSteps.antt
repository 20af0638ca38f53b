-- What one event more answers.
use Rattle.bbm_counterrun.proofs.Common.{Entry, IsPending, is_answered, must_leave, must_go, Answer, IsAnswers}
use Rattle.bbm_counterrun.proofs.Common.{answer_at, forbids_by, forbids, is_forbidden}
use Rattle.bbm_rules.proofs.Common.{◌≡◌, ℕ, Bool, false, ◌&&◌, ◌||◌, ◌==◌, nat_le, nat_lt, List, ◌∷◌, ◌++◌, length, map}
use Rattle.bbm_rules.proofs.Common.{filter, refl, sym, ◌∙◌, ap, proved, Is, list_any-append, any, Barrier, Heading}
use Rattle.bbm_rules.proofs.Common.{Event, Dsb, Tlbi, Issued, completes, unanswered, itself, or_comm}
use Rattle.bbm_tlb_machine.specs.MachinePendings.{Pending, pending_of}
use Rattle.std.proofs.Math.Bool.{and-false, and_assoc}
use Rattle.bbm_lemmas.proofs.Tests.{any_and, any_filter, any_map, any_same}

must_is : (heading : Heading) (t : Issued Event) (x : Entry) → must_leave heading (pending_of heading t) x ≡ must_go heading t x
must_is heading t x = by t.tlbi
  where
    by : (e : Event) → must_leave heading (pending_of heading (record t { tlbi = e })) x ≡ must_go heading (record t { tlbi = e }) x
    by (Tlbi pe op xt) = refl
    by _ = refl

-- those that the DSB answers forbid an entry where it forbids it
forbidden_now : (heading : Heading) (h : List Event) (q : ℕ) (dsb : Barrier) (pending : List Pending) (x : Entry) → IsPending heading h pending
    → any (λ p. is_answered q dsb p && must_leave heading p x) pending ≡ forbids heading x (Dsb q dsb) h
forbidden_now heading h q dsb pending x is =
    any_same _ _ pending (λ (p : Pending). and_assoc (p.issuer == q) (completes dsb p.tlbi) (must_leave heading p x))
    ∙ sym (any_filter completed (λ (p : Pending). p.issuer == q) pending) ∙ ap (any completed) (is q)
    ∙ any_map completed (pending_of heading) (unanswered itself q h)
    ∙ any_same _ _ (unanswered itself q h) (λ (t : Issued Event) i. completes dsb t.tlbi && must_is heading t x i)
  where
    completed : Pending → Bool
    completed p = completes dsb p.tlbi && must_leave heading p x

dsb_answers : (heading : Heading) (h : List Event) (q : ℕ) (dsb : Barrier) (pending : List Pending) (old : List Answer)
    → IsPending heading h pending → IsAnswers heading h old
    → IsAnswers heading (Dsb q dsb ∷ h) (old ++ map (answer_at (length h)) (filter (is_answered q dsb) pending))
dsb_answers heading h q dsb pending old is was from to x =
    let within : Bool = nat_le from (length h) && nat_lt (length h) to in
    list_any-append (forbids_by heading from to x) old _
    ∙ (λ i. was from to x i || (any_map (forbids_by heading from to x) (answer_at (length h)) (filter (is_answered q dsb) pending)
    ∙ any_filter (λ (p : Pending). within && must_leave heading p x) (is_answered q dsb) pending
    ∙ any_same _ _ pending (λ (p : Pending). proved 3 (λ a b c. Is (a && (b && c)) (b && (a && c))) refl
    (is_answered q dsb p) within (must_leave heading p x))
    ∙ any_and within (λ (p : Pending). is_answered q dsb p && must_leave heading p x) pending
    ∙ ap (λ b. within && b) (forbidden_now heading h q dsb pending x is)) i)
    ∙ or_comm (is_forbidden heading from to x h) (within && forbids heading x (Dsb q dsb) h)

-- an event that answers nothing
pub other_step : (heading : Heading) (h : List Event) (e : Event) (old : List Answer) → ((q : ℕ) (dsb : Barrier) → e ≡ Dsb q dsb → ⊥)
    → IsAnswers heading h old → IsAnswers heading (e ∷ h) old
other_step heading h e old none was from to x = was from to x ∙ rw (by e none, and-false)
  where
    by : (e : Event) → ((q : ℕ) (dsb : Barrier) → e ≡ Dsb q dsb → ⊥) → forbids heading x e h ≡ false
    by (Dsb q dsb) none = absurd (none q dsb refl)
    by _ none = refl

pub dsb_step : (heading : Heading) (h : List Event) (q before : ℕ) (dsb : Barrier) (pending : List Pending) (old new : List Answer)
    → new ≡ old ++ map (answer_at before) (filter (is_answered q dsb) pending) → length h ≡ before
    → IsPending heading h pending → IsAnswers heading h old → IsAnswers heading (Dsb q dsb ∷ h) new
dsb_step heading h q before dsb pending old new e count is was = rw (e, ← count) (dsb_answers heading h q dsb pending old is was)

pub ruleset steps = (dsb_step, other_step)
