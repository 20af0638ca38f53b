-- What becomes of the state where no entry is kept, and where one is.
use Rattle.bbm_counterrun.proofs.Common.{length-append, Entry, State, conflicts_with, in_conflict, must_go, forbids}
use Rattle.bbm_counterrun.proofs.Common.{is_forbidden}
use Rattle.bbm_rules.proofs.Common.{◌≡◌, ℕ, ◌<◌, ◌≤◌, arith, Bool, true, false, ◌&&◌, ◌||◌, not, nat_lt, nat_le, List}
use Rattle.bbm_rules.proofs.Common.{[], ◌∷◌, ◌++◌, length, map, reverse, Some, refl, ◌∙◌, ap, and_left, and_right}
use Rattle.bbm_rules.proofs.Common.{le-ltb, or_from, map-append, reverse-append, ◌>>=◌, if_so, Heading, Event, Dsb}
use Rattle.bbm_rules.proofs.Common.{Issued, completes, unanswered, itself, or-false, is_none_of, proved, Is}
use Rattle.std.proofs.lemmas.Bool.{lt-leb}
use Rattle.std.proofs.lemmas.Bool.Decides.{nat_tests}
use Rattle.bbm_tlb_machine.specs.declared.step.Step.TheVariants.{Event as Taken}
use Rattle.bbm_tlb_machine.specs.MachineRun.{leaves_some}
use Rattle.bbm_counterrun.proofs.Following.{run_all, run_so, run_to}
use Rattle.bbm_lemmas.proofs.Tests.{any_same}

-- ---- the two states

abbrev pub none_kept : List Event → State
none_kept h = record { log = h; living = []; made = 0 }

abbrev pub one_kept : List Event → ℕ → Entry → State
one_kept h n x = record { log = h; living = record { number = n; entry = x } ∷ []; made = n }

so_some : {A : Type 0} (b : Bool) (x : A) → (if_so b x >>= (λ y. Some y)) ≡ if_so b x
so_some b x = grind arith

module _ (heading : Heading) where
  -- ---- events

  none_left : (h : List Event) (e : Event) → leaves_some heading (none_kept h) e ≡ false
  none_left h (Dsb q dsb) = is_none_of _ (unanswered itself q h) (λ (t : Issued Event) i. and_right (completes dsb t.tlbi) false refl)
  none_left h _ = refl

  one_left : (h : List Event) (n : ℕ) (x : Entry) (e : Event) → leaves_some heading (one_kept h n x) e ≡ forbids heading x e h
  one_left h n x (Dsb q dsb) = any_same _ _ (unanswered itself q h) (λ (t : Issued Event) i. completes dsb t.tlbi && or-false (must_go heading t x) i)
  one_left h n x _ = refl

  pub one_meets : (h : List Event) (n : ℕ) (x : Entry) (e : Event) → in_conflict heading (one_kept h n x) e ≡ conflicts_with heading h e x
  one_meets h n x e = or-false (conflicts_with heading h e x)

  -- the steps of events, of which one more comes last
  taken_more : (e : Event) (newer : List Event) → map Taken (reverse (e ∷ newer)) ≡ map Taken (reverse newer) ++ Taken e ∷ []
  taken_more e newer = ap (map Taken) (reverse-append (e ∷ []) newer) ∙ map-append Taken (reverse newer) (e ∷ [])

  pub past_none : (newer older : List Event) → run_to heading (none_kept older) (map Taken (reverse newer)) ≡ Some (none_kept (newer ++ older))
  past_none [] older = refl
  past_none (e ∷ newer) older =
      ap (run_to heading (none_kept older)) (taken_more e newer)
      ∙ run_all heading (none_kept older) (none_kept (newer ++ older)) _ (map Taken (reverse newer)) (Taken e ∷ []) true (past_none newer older)
      (ap (λ b. if_so (not b) (none_kept (e ∷ newer ++ older)) >>= (λ s. Some s)) (none_left (newer ++ older) e))

  -- whether one of the newer events forbids the entry
  abbrev pub forbidden_in : Entry → List Event → List Event → Bool
  forbidden_in x [] older = false
  forbidden_in x (e ∷ newer) older = forbids heading x e (newer ++ older) || forbidden_in x newer older

  pub past_one : (newer older : List Event) (n : ℕ) (x : Entry)
      → run_to heading (one_kept older n x) (map Taken (reverse newer)) ≡ if_so (not (forbidden_in x newer older)) (one_kept (newer ++ older) n x)
  past_one [] older n x = refl
  past_one (e ∷ newer) older n x =
      let h : List Event = newer ++ older in
      ap (run_to heading (one_kept older n x)) (taken_more e newer)
      ∙ run_so heading (one_kept older n x) (one_kept h n x) _ (map Taken (reverse newer)) (Taken e ∷ []) _ _ (past_one newer older n x)
      (so_some _ (one_kept (e ∷ h) n x) ∙ ap (λ b. if_so (not b) (one_kept (e ∷ h) n x)) (one_left h n x e))
      ∙ ap (λ b. if_so b (one_kept (e ∷ h) n x))
      (proved 2 (λ a b. Is (not a && not b) (not (b || a))) refl (forbidden_in x newer older) (forbids heading x e h))

  -- where only the newer ones count, of a log
  behind_none : (k to : ℕ) (x : Entry) (h : List Event) → length h ≤ k → is_forbidden heading k to x h ≡ false
  behind_none k to x [] le = refl
  behind_none k to x (e ∷ h) le =
      or_from _ _ (and_left _ _ (and_left _ _ (lt-leb k (length h) le))) (behind_none k to x h (omega (arith, le)))

  counts : (from to at : ℕ) (b c : Bool) → from ≤ at → at < to → ((nat_le from at && nat_lt at to && b) || c) ≡ (b || c)
  counts from to at b c le lt = grind (arith, nat_tests)

  between_is : (newer older : List Event) (to : ℕ) (x : Entry) → length (newer ++ older) ≤ to
      → is_forbidden heading (length older) to x (newer ++ older) ≡ forbidden_in x newer older
  between_is [] older to x le = behind_none (length older) to x older (omega arith)
  between_is (e ∷ newer) older to x le =
      counts (length older) to (length (newer ++ older)) (forbids heading x e (newer ++ older)) _ (omega (arith, length-append newer older)) le
      ∙ ap (λ b. forbids heading x e (newer ++ older) || b) (between_is newer older to x (omega (arith, le)))

  -- the events from one number on and before another, of a log
  pub forbidden_is : (last newer older : List Event) (from to : ℕ) (x : Entry) → length older ≡ from → length (newer ++ older) ≡ to
      → is_forbidden heading from to x (last ++ (newer ++ older)) ≡ forbidden_in x newer older
  forbidden_is [] newer older from to x a b = rw (← a) (between_is newer older to x (omega (arith, b)))
  forbidden_is (e ∷ last) newer older from to x a b =
      ap (λ c. c || is_forbidden heading from to x (last ++ (newer ++ older)))
      (and_left _ _ (and_right _ _ (le-ltb (length (last ++ (newer ++ older))) to (omega (arith, length-append last (newer ++ older), b)))))
      ∙ forbidden_is last newer older from to x a b
