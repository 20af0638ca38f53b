-- The tests for conflicts say the same as the clauses of a safe log.
use Rattle.bbm_rules.proofs.Common.{◌≡◌, ℕ, Bool, true, false, not, ◌==◌, ◌↔◌, List, [], ◌∷◌, ◌++◌, length, Option}
use Rattle.bbm_rules.proofs.Common.{Some, None, Result, Ok, Err, Contains, refl, sym, ◌∙◌, ap, true≢false, eq-eqb}
use Rattle.bbm_rules.proofs.Common.{eqb-true, false_from_ne_true, not-false, needs, any, if_so, page_of, Reg, Heading}
use Rattle.bbm_rules.proofs.Common.{Event, Init, Write, Msr, Reading, readings}
use Rattle.bbm_regimes.specs.SameRegister.{same_tag}
use Rattle.bbm_rules.specs.EventLaws.{TestsAreExact}
use Rattle.bbm_tlb_machine.specs.declared.step.Step.{Step}
use Rattle.bbm_tlb_machine.specs.declared.step.Step.TheVariants.{Machine, Event as Taken}
use Rattle.bbm_rules.proofs.Common.{not_from_false, not-true, or_parts, or_from}
use Rattle.bbm_tlb_machine.specs.Entry.{Entry, Part, is_given_up, parts_of, tag_of_entry}
use Rattle.bbm_tlb_machine.specs.MachineRun.{IsRun, Living, State, follow_steps}
use Rattle.bbm_tlb_machine.specs.Safe.{ComesTo, ReadsThrough, Safe, conflicts_with, earlier, fails_at, first_conflict, has_other_root}
use Rattle.bbm_tlb_machine.specs.Safe.{in_conflict, is_stale}
use Rattle.bbm_tlb_machine.specs.First.{IsFirstConflict}
use Rattle.bbm_tlb_machine.proofs.ListWords.{is_none, none_in}
use Rattle.bbm_tlb_machine.proofs.RunLaw.{run_complete, run_sound}
use Rattle.bbm_lemmas.proofs.Bools.{second_false, and_apart}
use Rattle.bbm_lemmas.proofs.Tests.{any_never}
use Rattle.bbm_rules.proofs.RuleLemmas.{if_none}

module _ (heading : Heading) (tests : TestsAreExact) where
  -- one entry
  at_write : (x : Entry) (h : List Event) (pe place value : ℕ) → conflicts_with heading h (Write pe place value) x ≡ false
      → is_given_up heading h x ≡ false
      → (part : Part) → Contains (parts_of x) part → part.place ≡ place → needs part.kind part.level part.value value ≡ false
  at_write x h pe place value k up part i e =
      second_false (part.place == place) _ (none_in (is_stale place value) (parts_of x)
      (second_false (not (is_given_up heading h x)) (any (is_stale place value) (parts_of x)) k (not_from_false (is_given_up heading h x) up)) part i)
      (eq-eqb part.place place e)

  at_init : (x : Entry) (h : List Event) (pe page : ℕ) → conflicts_with heading h (Init pe page) x ≡ false
      → is_given_up heading h x ≡ false
      → (part : Part) → Contains (parts_of x) part → page_of part.place ≡ page → ⊥
  at_init x h pe page k up part i e =
      true≢false (sym (eq-eqb (page_of part.place) page e) ∙ none_in (λ (part : Part). page_of part.place == page) (parts_of x)
      (second_false (not (is_given_up heading h x)) (any (λ (part : Part). page_of part.place == page) (parts_of x)) k
      (not_from_false (is_given_up heading h x) up)) part i)

  at_msr : (x : Entry) (h : List Event) (pe value : ℕ) (reg : Reg) → conflicts_with heading h (Msr pe reg value) x ≡ false
      → (r : Reading) → Contains (readings heading (Msr pe reg value ∷ h) pe) r → r.tag ≡ tag_of_entry x
      → ReadsThrough heading h x r.root
  at_msr x h pe value reg k r i e =
      let none = none_in (has_other_root heading h x) (readings heading (Msr pe reg value ∷ h) pe) k r i in
      let same : same_tag r.tag (tag_of_entry x) ≡ true = ap (λ g. same_tag g (tag_of_entry x)) e ∙ (tests.tags (tag_of_entry x) (tag_of_entry x)).1 refl in
      let parts = or_parts (not (r.root == x.root)) (is_given_up heading h x) (second_false (same_tag r.tag (tag_of_entry x)) _ none same) in
      record { same = eqb-true r.root x.root (not-false _ parts.0); stays = parts.1 }

  no_write : (x : Entry) (h : List Event) (pe place value : ℕ)
      → (is_given_up heading h x ≡ false → (part : Part) → Contains (parts_of x) part → part.place ≡ place
      → needs part.kind part.level part.value value ≡ false)
      → conflicts_with heading h (Write pe place value) x ≡ false
  no_write x h pe place value all =
      and_apart (not (is_given_up heading h x)) _ (λ up.
      is_none (is_stale place value) (parts_of x) (λ part i.
      and_apart (part.place == place) _ (λ e. all (not-true (is_given_up heading h x) up) part i (eqb-true part.place place e))))

  no_init : (x : Entry) (h : List Event) (pe page : ℕ)
      → (is_given_up heading h x ≡ false → (part : Part) → Contains (parts_of x) part → page_of part.place ≡ page → ⊥)
      → conflicts_with heading h (Init pe page) x ≡ false
  no_init x h pe page all =
      and_apart (not (is_given_up heading h x)) _ (λ up.
      is_none (λ (part : Part). page_of part.place == page) (parts_of x) (λ part i.
      false_from_ne_true (page_of part.place == page)
      (λ e. all (not-true (is_given_up heading h x) up) part i (eqb-true (page_of part.place) page e))))

  no_msr : (x : Entry) (h : List Event) (pe value : ℕ) (reg : Reg)
      → ((r : Reading) → Contains (readings heading (Msr pe reg value ∷ h) pe) r → r.tag ≡ tag_of_entry x
      → ReadsThrough heading h x r.root)
      → conflicts_with heading h (Msr pe reg value) x ≡ false
  no_msr x h pe value reg all =
      is_none (has_other_root heading h x) (readings heading (Msr pe reg value ∷ h) pe) (λ r i.
      and_apart (same_tag r.tag (tag_of_entry x)) _ (λ e.
      let t : ReadsThrough heading h x r.root = all r i ((tests.tags r.tag (tag_of_entry x)).0 e) in
      or_from (not (r.root == x.root)) (is_given_up heading h x) (ap not (eq-eqb r.root x.root t.same)) t.stays))

  -- all of them
  each : (s : State) (e : Event) → in_conflict heading s e ≡ false → (l : Living) → Contains s.living l
      → conflicts_with heading s.log e l.entry ≡ false
  each s e k l i = none_in (λ (l : Living). conflicts_with heading s.log e l.entry) s.living k l i

  all_of : (s : State) (e : Event) → ((l : Living) → Contains s.living l → conflicts_with heading s.log e l.entry ≡ false)
      → in_conflict heading s e ≡ false
  all_of s e all = is_none (λ (l : Living). conflicts_with heading s.log e l.entry) s.living all

  safe_from : (log : List Event) → ((s : State) (e : Event) → ComesTo heading log s e → in_conflict heading s e ≡ false)
      → Safe heading log
  safe_from log all = record {
    at_write = λ s pe place value c l i up part j e.
        at_write l.entry s.log pe place value (each s (Write pe place value) (all s (Write pe place value) c) l i) up part j e;
    at_init = λ s pe page c l i up part j e.
        at_init l.entry s.log pe page (each s (Init pe page) (all s (Init pe page) c) l i) up part j e;
    at_msr = λ s pe value reg c l i r j e.
        at_msr l.entry s.log pe value reg (each s (Msr pe reg value) (all s (Msr pe reg value) c) l i) r j e;
  }

  safe_to : (log : List Event) → Safe heading log → (s : State) (e : Event) → ComesTo heading log s e
      → in_conflict heading s e ≡ false
  safe_to log safe s (Write pe place value) c =
      all_of s (Write pe place value) (λ l i. no_write l.entry s.log pe place value (safe.at_write s pe place value c l i))
  safe_to log safe s (Init pe page) c =
      all_of s (Init pe page) (λ l i. no_init l.entry s.log pe page (safe.at_init s pe page c l i))
  safe_to log safe s (Msr pe reg value) c =
      all_of s (Msr pe reg value) (λ l i. no_msr l.entry s.log pe value reg (safe.at_msr s pe value reg c l i))
  safe_to log safe s e c = all_of s e (λ l i. refl)

module _ (heading : Heading) where
  -- the first conflict of a run
  fails_is : (steps : List Step) (s : State) (e : Event) → IsRun heading steps s
      → fails_at heading (follow_steps heading steps) (Taken e) ≡ in_conflict heading s e
  fails_is steps s e run = ap (λ (r : Result State ℕ). fails_at heading r (Taken e)) (run_complete heading steps s run)

  earlier_none : (o p : Option ℕ) → earlier o p ≡ None → (o ≡ None) × (p ≡ None)
  earlier_none None p k = (refl, k)
  earlier_none (Some i) p k = cc

  none_sound : (steps : List Step) → first_conflict heading steps ≡ None → (newer : List Step) (e : Event) (older : List Step)
      (s : State) → steps ≡ newer ++ Taken e ∷ older → IsRun heading older s → in_conflict heading s e ≡ false
  none_sound steps k newer e older s split run =
      sym (fails_is older s e run)
      ∙ at newer (ap (first_conflict heading) (sym split) ∙ k)
    where
      at : (newer : List Step) → first_conflict heading (newer ++ Taken e ∷ older) ≡ None
          → fails_at heading (follow_steps heading older) (Taken e) ≡ false
      at [] k = if_none _ (length older) (earlier_none _ _ k).1
      at (x ∷ newer) k = at newer (earlier_none _ _ k).0

  -- what failed at a step
  failed : (steps : List Step) (step : Step) (r : Result State ℕ) → follow_steps heading steps ≡ r
      → fails_at heading r step ≡ true
      → (s : State) × (e : Event) × (step ≡ Taken e) × (follow_steps heading steps ≡ Ok s) × (in_conflict heading s e ≡ true)
  failed steps (Taken e) (Ok s) k f = (s, e, refl, k, f)
  failed steps (Machine line) (Ok s) k f = absurd (true≢false (sym f))
  failed steps step (Err i) k f = absurd (true≢false (sym f))

  conflicts_here : (steps : List Step) (step : Step) (i : ℕ) → first_conflict heading steps ≡ None
      → (b : Bool) → fails_at heading (follow_steps heading steps) step ≡ b → if_so b (length steps) ≡ Some i
      → IsFirstConflict heading (step ∷ steps) i
  conflicts_here steps step i none true f k =
      let r = failed steps step (follow_steps heading steps) refl f in
      record {
        newer = [];
        event = r.1;
        older = steps;
        before = r.0;
        split = ap (λ (x : Step). x ∷ steps) r.2;
        index = cc;
        run = run_sound heading steps r.0 r.3;
        conflict = r.4;
        first = none;
      }
  conflicts_here steps step i none false f k = cc

  conflicts_later : (step : Step) (steps : List Step) (i : ℕ) → IsFirstConflict heading steps i → IsFirstConflict heading (step ∷ steps) i
  conflicts_later step steps i c = record {
    newer = step ∷ c.newer;
    event = c.event;
    older = c.older;
    before = c.before;
    split = ap (λ (es : List Step). step ∷ es) c.split;
    index = c.index;
    run = c.run;
    conflict = c.conflict;
    first = c.first;
  }

  found_after : (steps : List Step) (step : Step) (i : ℕ) (o : Option ℕ) → first_conflict heading steps ≡ o
      → (first_conflict heading steps ≡ Some i → IsFirstConflict heading steps i)
      → earlier o (if_so (fails_at heading (follow_steps heading steps) step) (length steps)) ≡ Some i
      → IsFirstConflict heading (step ∷ steps) i
  found_after steps step i None e rest k = conflicts_here steps step i e _ refl k
  found_after steps step i (Some j) e rest k = conflicts_later step steps i (rest (e ∙ k))

  found_sound : (steps : List Step) (i : ℕ) → first_conflict heading steps ≡ Some i → IsFirstConflict heading steps i
  found_sound [] i k = cc
  found_sound (step ∷ steps) i k = found_after steps step i (first_conflict heading steps) refl (found_sound steps i) k

  found_at : (newer : List Step) (e : Event) (older : List Step) (s : State) → IsRun heading older s
      → in_conflict heading s e ≡ true → first_conflict heading older ≡ None
      → first_conflict heading (newer ++ Taken e ∷ older) ≡ Some (length older)
  found_at [] e older s run k none = rw (none, fails_is older s e run, k)
  found_at (x ∷ newer) e older s run k none = rw (found_at newer e older s run k none)

  found_complete : (steps : List Step) (i : ℕ) → IsFirstConflict heading steps i → first_conflict heading steps ≡ Some i
  found_complete steps i c =
      ap (first_conflict heading) c.split ∙ found_at c.newer c.event c.older c.before c.run c.conflict c.first ∙ ap Some c.index

-- events that conflict with no entry
pub quiet : (heading : Heading) (h : List Event) (e : Event) (living : List Living)
    → ((pe page : ℕ) → e ≡ Init pe page → ⊥) → ((pe at v : ℕ) → e ≡ Write pe at v → ⊥)
    → ((pe : ℕ) (reg : Reg) (v : ℕ) → e ≡ Msr pe reg v → ⊥)
    → false ≡ any (λ (l : Living). conflicts_with heading h e l.entry) living
quiet heading h (Init pe page) living a b d = absurd (a pe page refl)
quiet heading h (Write pe at v) living a b d = absurd (b pe at v refl)
quiet heading h (Msr pe reg v) living a b d = absurd (d pe reg v refl)
quiet heading h _ living a b d = sym (any_never living)

pub safe_law : TestsAreExact → (heading : Heading) (log : List Event)
    → Safe heading log ↔ ((s : State) (e : Event) → ComesTo heading log s e → in_conflict heading s e ≡ false)
safe_law tests heading log = (safe_to heading tests log, safe_from heading tests log)

pub none_law : (heading : Heading) (steps : List Step) → first_conflict heading steps ≡ None
    → (newer : List Step) (e : Event) (older : List Step) (s : State)
    → steps ≡ newer ++ Taken e ∷ older → IsRun heading older s → in_conflict heading s e ≡ false
none_law heading steps = none_sound heading steps

pub found_law : (heading : Heading) (steps : List Step) (i : ℕ) → IsFirstConflict heading steps i ↔ (first_conflict heading steps ≡ Some i)
found_law heading steps i = (found_complete heading steps i, found_sound heading steps i)
