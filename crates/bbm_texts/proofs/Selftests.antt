-- A generated log, event by event.
use Rattle.bbm_texts.proofs.Common.{Event, Patterns, Accepted, event_at, heading, log_of, counts_text, Part}
use Rattle.bbm_rules.proofs.Common.{◌≡◌, ℕ, zero, suc, ◌+◌, ◌∷◌, ◌++◌, List, length, Option, None, Err, refl, ap, sym}
use Rattle.bbm_rules.proofs.Common.{◌∙◌, subst, arith, Which, Answers, Breach, limit_of, initialised}
use Rattle.bbm_rules.specs.declared.step_fault.StepFault.{StepFault}
use Rattle.bbm_rules.specs.Broken.{broken}
use Rattle.bbm_rules.specs.Phases.{restless_of}
use Rattle.bbm_rules.specs.Texts.{verdict_text}
use Rattle.bbm_texts.specs.Generating.{selftest_text}
use Rattle.bbm_texts.proofs.Puts.{part-longer}

pub log-length : (n i : ℕ) → length (log_of n i) ≡ i
log-length n zero = refl
log-length n (suc i) = ap suc (log-length n i)

-- one event more
pub log-longer : (n i : ℕ) (event : Event) → event ≡ event_at n i → event ∷ log_of n i ≡ log_of n (i + 1)
log-longer n i event is =
    let next : i + 1 ≡ suc i = omega arith in
    ap (λ (e : Event). e ∷ log_of n i) is ∙ ap (log_of n) (sym next)

-- why it wasn't taken, where it breaks no rule and reaches no limit
pub unbroken-answer : (n i : ℕ) (event : Event) (fault : StepFault) → event ≡ event_at n i → broken heading Patterns (log_of n i) (event_at n i) ≡ None → limit_of (log_of n i) (event_at n i) ≡ None
    → Answers (Err fault) (broken heading Patterns (log_of n i) event) (limit_of (log_of n i) event) → Answers (Err fault) None None
unbroken-answer n i event fault is unbroken free answers =
    let kept = ap (λ (e : Event). broken heading Patterns (log_of n i) e) is ∙ unbroken in
    let below = ap (λ (e : Event). limit_of (log_of n i) e) is ∙ free in
    subst (λ (b : Option Breach). Answers (Err fault) b None) kept
    (subst (λ (w : Option Which). Answers (Err fault) (broken heading Patterns (log_of n i) event) w) below answers)

-- the text of a self-test, by what was counted
pub selftest-told : (n count events pages restless : ℕ) → events ≡ count → pages ≡ length (initialised (log_of n count)) → restless ≡ restless_of heading Patterns (log_of n count)
    → verdict_text (Accepted events) ++ counts_text pages restless ≡ selftest_text n count
unfolding selftest_text
selftest-told n count events pages restless e p r = rw (e, p, r) refl

-- a part of its first line
pub selftest-cut : (n count events : ℕ) (old new : Option (List ℕ)) → events ≡ count → Part (verdict_text (Accepted events)) old new → Part (selftest_text n count) old new
selftest-cut n count events old new e part =
    let pages = length (initialised (log_of n count)) in
    let restless = restless_of heading Patterns (log_of n count) in
    subst (λ (t : List ℕ). Part t old new) (selftest-told n count events pages restless e refl refl) (part-longer (verdict_text (Accepted events)) (counts_text pages restless) old new part)
