-- What a step does to what `follow` has.
use Rattle.bbm_rules.proofs.Common.{◌≡◌, ℕ, ◌+◌, ◌<◌, Bool, true, false, List, [], ◌∷◌, ◌++◌, length, take, drop}
use Rattle.bbm_rules.proofs.Common.{get_or, reverse, Option, Some, None, Result, Ok, Err, IfOk, refl, sym, ◌∙◌, ap}
use Rattle.bbm_rules.proofs.Common.{subst, arith, length-reverse, length-take-le, reverse-append, take-append-drop}
use Rattle.bbm_rules.proofs.Common.{take_more, MachineLine, Start, Extend, Combine, Share, Drop, ◌>>=◌, any, if_so}
use Rattle.bbm_rules.proofs.Common.{Heading, Event}
use Rattle.bbm_tlb_machine.specs.declared.step.Step.{Step}
use Rattle.bbm_tlb_machine.specs.declared.step.Step.TheVariants.{Machine, Event as Taken}
use Rattle.bbm_tlb_machine.specs.Entry.{Entry}
use Rattle.bbm_tlb_machine.specs.Followed.{Followed, Follows, GoesOn, entry_made, found}
use Rattle.bbm_tlb_machine.specs.MachinePendings.{IsPending}
use Rattle.bbm_tlb_machine.specs.MachineRun.{Living, State, after_event, follow_steps, next_in, step_to, with_entry}
use Rattle.bbm_tlb_machine.specs.Safe.{conflicts_with, earlier, first_conflict, in_conflict}
use Rattle.bbm_tlb_machine.specs.Step.{combined, extended, is_stage2, may_extend, may_share, shared}

if_so_with : (s : State) (b : Bool) (y x : Entry) → Some x ≡ if_so b y → if_so b (with_entry s y) ≡ Some (with_entry s x)
if_so_with s true y x e = let same : y ≡ x = cc in ap (λ (x : Entry). Some (with_entry s x)) same
if_so_with s false y x e = cc

bind_with : (s : State) (o : Option Entry) (b : Entry → Bool) (y : Entry → Entry) (x : Entry)
    → Some x ≡ (o >>= (λ z. if_so (b z) (y z)))
    → (o >>= (λ z. if_so (b z) (with_entry s (y z)))) ≡ Some (with_entry s x)
bind_with s None b y x e = cc
bind_with s (Some z) b y x e = if_so_with s (b z) (y z) x e

pub made_step : (heading : Heading) (s : State) (line : MachineLine) (x : Entry)
    → Some x ≡ entry_made heading s.log s.living line → step_to heading s (Machine line) ≡ Some (with_entry s x)
made_step heading s (Start p kind n place value) x e = if_so_with s _ _ x e
made_step heading s (Extend n place value) x e =
    bind_with s (found s.living n) (λ z. may_extend heading s.log z place value) (λ z. extended z place value) x e
made_step heading s (Combine n) x e =
    bind_with s (found s.living n) (λ z. is_stage2 z.kind) (λ z. combined (length s.log) z) x e
made_step heading s (Share n p) x e = bind_with s (found s.living n) (λ z. may_share heading p) (λ z. shared z p) x e
made_step heading s (Drop n) x e = cc

earlier_none : (o : Option ℕ) → earlier o None ≡ o
earlier_none None = refl
earlier_none (Some i) = refl

module _ (heading : Heading) (older : List Step) (i : ℕ) (old new : Followed) where
  runs : (step : Step) → follow_steps heading older ≡ Ok old.state → step_to heading old.state step ≡ Some new.state
      → follow_steps heading (step ∷ older) ≡ Ok new.state
  runs step r k = rw (r, k)

  stops : (step : Step) → length older ≡ i → follow_steps heading older ≡ Ok old.state → step_to heading old.state step ≡ None
      → follow_steps heading (step ∷ older) ≡ Err i
  stops step n r k = rw (r, k) (ap Err n)

  pub line_on : (line : MachineLine) (done : Bool) → length older ≡ i → Follows heading older old
      → step_to heading old.state (Machine line) ≡ if_so done new.state
      → new.state.log ≡ old.state.log → new.pending ≡ old.pending → new.conflict ≡ old.conflict
      → GoesOn heading (Machine line ∷ older) i new done
  line_on line true n f k log pending conflict = record {
    run = runs (Machine line) f.run k;
    unanswered = rw (log, pending) f.unanswered;
    conflict = rw (f.run) (earlier_none (first_conflict heading older) ∙ (f.conflict ∙ sym conflict));
  }
  line_on line false n f k log pending conflict = stops (Machine line) n f.run k

  pub event_on : (e : Event) (done : Bool) → length older ≡ i → Follows heading older old
      → step_to heading old.state (Taken e) ≡ if_so done new.state
      → (done ≡ true → IsPending heading new.state.log new.pending)
      → (done ≡ true → new.conflict ≡ earlier old.conflict (if_so (in_conflict heading old.state e) i))
      → GoesOn heading (Taken e ∷ older) i new done
  event_on e true n f k pending conflict = record {
    run = runs (Taken e) f.run k;
    unanswered = pending refl;
    conflict = rw (f.run, f.conflict, n) (sym (conflict refl));
  }
  event_on e false n f k pending conflict = stops (Taken e) n f.run k

-- a conflict of the state before an event
pub if_ok : {A E : Type 0} (r : Result A E) (P Q : A → Type 0) → IfOk r P → ((x : A) → P x → Q x) → IfOk r Q
if_ok (Ok x) P Q p f = f x p
if_ok (Err e) P Q p f = p

pub conflict_with : (heading : Heading) (now s : State) (e : Event) (b : Bool) → now ≡ after_event s e
    → ((h : List Event) → now.log ≡ e ∷ h → b ≡ any (λ (l : Living). conflicts_with heading h e l.entry) now.living)
    → b ≡ in_conflict heading s e
conflict_with heading now s e b same k =
    k s.log (ap (λ (s : State). s.log) same)
    ∙ ap (λ (t : State). any (λ (l : Living). conflicts_with heading s.log e l.entry) t.living) same

-- a step that is none stays the first
pub stays_bad : (heading : Heading) (newer older : List Step) (i : ℕ) → follow_steps heading older ≡ Err i
    → follow_steps heading (newer ++ older) ≡ Err i
stays_bad heading [] older i k = k
stays_bad heading (step ∷ newer) older i k =
    ap (λ (r : Result State ℕ). next_in heading r step (length (newer ++ older))) (stays_bad heading newer older i k)

pub bad_at : (heading : Heading) (steps : List Step) (n i : ℕ) → follow_steps heading (reverse (take n steps)) ≡ Err i
    → follow_steps heading (reverse steps) ≡ Err i
bad_at heading steps n i k =
    subst (λ (xs : List Step). follow_steps heading xs ≡ Err i)
    (sym (reverse-append (take n steps) (drop n steps)) ∙ ap (reverse {A = Step}) (take-append-drop n steps))
    (stays_bad heading (reverse (drop n steps)) (reverse (take n steps)) i k)

pub one_more : (steps : List Step) (n : ℕ) (step : Step) → n < length steps → step ≡ get_or steps n step
    → reverse (take (n + 1) steps) ≡ step ∷ reverse (take n steps)
one_more steps n step within at =
    ap (reverse {A = Step}) (take_more steps n step within)
    ∙ (reverse-append (take n steps) (get_or steps n step ∷ []) ∙ ap (λ (x : Step). x ∷ reverse (take n steps)) (sym at))

pub bad_here : (heading : Heading) (steps : List Step) (n i : ℕ) (step : Step) → n < length steps → step ≡ get_or steps n step
    → follow_steps heading (step ∷ reverse (take n steps)) ≡ Err i → follow_steps heading (reverse steps) ≡ Err i
bad_here heading steps n i step within at k =
    bad_at heading steps (n + 1) i
    (subst (λ (xs : List Step). follow_steps heading xs ≡ Err i) (sym (one_more steps n step within at)) k)

length_at : (steps : List Step) (n : ℕ) → n < length steps → length (reverse (take n steps)) ≡ n
length_at steps n within = length-reverse (take n steps) ∙ length-take-le n steps (omega arith)

pub same_fault : {A B E : Type 0} (x y : E) → ◌≡◌ {A = Result A E} (Err x) (Err y) → ◌≡◌ {A = Result B E} (Err x) (Err y)
same_fault {A} {B} {E} x y e = let same : x ≡ y = cc in ap (λ (z : E). Err z) same

pub bad_there : (heading : Heading) (steps seen : List Step) (n taken i : ℕ) (step : Step) (old : Followed)
    → seen ≡ steps → n < length seen → step ≡ get_or seen n step → taken ≡ n
    → Follows heading (reverse (take n steps)) old
    → ((older : List Step) → length older ≡ taken → Follows heading older old → follow_steps heading (step ∷ older) ≡ Err i)
    → follow_steps heading (reverse steps) ≡ Err i
bad_there heading steps seen n taken i step old same within at counted follows bad =
    let inside : n < length steps = subst (λ (xs : List Step). n < length xs) same within in
    bad_here heading steps n i step inside (subst (λ (xs : List Step). step ≡ get_or xs n step) same at)
    (bad (reverse (take n steps)) (length_at steps n inside ∙ sym counted) follows)

pub ruleset steps = (line_on, event_on)

pub ruleset ends = (bad_at, one_more)
