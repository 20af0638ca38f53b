-- The state to which steps lead, oldest first, and the runs that it stands for.
use Rattle.bbm_counterrun.proofs.Common.{Step, RunsAreFollowed, IsRun, State, step_to}
use Rattle.bbm_rules.proofs.Common.{◌≡◌, arith, Bool, ◌&&◌, List, [], ◌∷◌, ◌++◌, Option, Some, None, refl, ◌∙◌, ap}
use Rattle.bbm_rules.proofs.Common.{subst, bind_some, ◌>>=◌, if_so, Heading}
use mathlib.Core.List.{reverse_aux}

-- a step that is taken where one test passes, and then another where a second one does, or in any case
pub then_so : {A B : Type 0} (a b : Bool) (s : A) (t : B) (f : A → Option B) → f s ≡ if_so b t → (if_so a s >>= f) ≡ if_so (a && b) t
then_so a b s t f e = grind arith

pub then_all : {A B : Type 0} (a : Bool) (s : A) (t : B) (f : A → Option B) → f s ≡ Some t → (if_so a s >>= f) ≡ if_so a t
then_all a s t f e = grind arith

pub bind_parts : {A B C : Type 0} (o : Option A) (f : A → Option B) (g : B → Option C) (all : A → Option C)
    → ((x : A) → all x ≡ (f x >>= g)) → (o >>= all) ≡ ((o >>= f) >>= g)
bind_parts None f g all e = refl
bind_parts (Some x) f g all e = e x

module _ (heading : Heading) where
  abbrev pub run_to : State → List Step → Option State
  run_to s [] = Some s
  run_to s (step ∷ steps) = step_to heading s step >>= (λ next. run_to next steps)

  run_append : (s : State) (xs ys : List Step) → run_to s (xs ++ ys) ≡ (run_to s xs >>= (λ t. run_to t ys))
  run_append s [] ys = refl
  run_append s (step ∷ xs) ys = bind_parts (step_to heading s step) _ _ _ (λ t. run_append t xs ys)

  -- two parts, each of which can be followed where a test passes, and one where the second can be in any case
  pub run_so : (s t u : State) (xs ys : List Step) (a b : Bool) → run_to s xs ≡ if_so a t → run_to t ys ≡ if_so b u
      → run_to s (xs ++ ys) ≡ if_so (a && b) u
  run_so s t u xs ys a b e f = run_append s xs ys ∙ ap (λ (o : Option State). o >>= (λ v. run_to v ys)) e ∙ then_so a b t u _ f

  pub run_all : (s t u : State) (xs ys : List Step) (a : Bool) → run_to s xs ≡ if_so a t → run_to t ys ≡ Some u
      → run_to s (xs ++ ys) ≡ if_so a u
  run_all s t u xs ys a e f = run_append s xs ys ∙ ap (λ (o : Option State). o >>= (λ v. run_to v ys)) e ∙ then_all a t u _ f

  pub run_from : RunsAreFollowed → (base steps : List Step) (s t : State) → IsRun heading base s → run_to s steps ≡ Some t
      → IsRun heading (reverse_aux steps base) t
  run_from law base [] s t run e = let same : s ≡ t = cc in subst (IsRun heading base) same run
  run_from law base (step ∷ steps) s t run e =
      let r = bind_some (λ next. run_to next steps) (step_to heading s step) t e in
      run_from law (step ∷ base) steps r.0 t (s, run, (law.step heading s step r.0).1 r.1) r.2

  pub run_back : RunsAreFollowed → (base steps : List Step) (t : State) → IsRun heading (reverse_aux steps base) t
      → (s : State) × IsRun heading base s × (run_to s steps ≡ Some t)
  run_back law base [] t run = (t, run, refl)
  run_back law base (step ∷ steps) t run =
      let r = run_back law (step ∷ base) steps t run in
      let q = r.1 in
      (q.0, q.1, ap (λ (o : Option State). o >>= (λ next. run_to next steps)) ((law.step heading q.0 step r.0).0 q.2) ∙ r.2)
