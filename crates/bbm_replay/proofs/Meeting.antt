-- Events that concern the roots, registers and locks alone.
use Rattle.bbm_replay.proofs.Common.{broken, IsFrugal, StepFault, Broken, NoMemory, Roots, AllFit, Laws, MayMeet}
use Rattle.bbm_replay.proofs.Common.{Meets, PartsStand, view_of, ReplayState}
use Rattle.bbm_rules.proofs.Common.{◌≡◌, ℕ, Bool, true, false, List, [], ◌∷◌, Option, None, Result, Ok, Err, refl, sym}
use Rattle.bbm_rules.proofs.Common.{and_parts, Which, fits_heading, is_page, Answers, Breach, Patterns, limit_of}
use Rattle.bbm_rules.proofs.Common.{is_null, Heading, Event, Null, Dmb, Isb, Msr, Lock, Unlock, arith}
use Rattle.bbm_rules.proofs.Common.{false_from_ne_true, nat_tests, true≢false}
use Rattle.bbm_replay_trees.specs.TreeEvents.{may_map}
use Rattle.std.proofs.Common.{OnOk, OnErr}
use Rattle.bbm_regimes.specs.declared.regime.Reg.{Reg}
use Rattle.bbm_roots.specs.RootRegisters.{has_null_base}
use Rattle.bbm_roots.specs.RootChanges as changes
use Rattle.bbm_roots.specs.RootJudgements as judges
use Rattle.bbm_roots.specs.RootsStand as roots
use Rattle.bbm_replay.proofs.Moves.{is_quiet}
use Rattle.bbm_replay.proofs.Framing.{frugal_else, meets_left}
use Rattle.bbm_replay.proofs.Quiet.{after_quiet}
use Rattle.bbm_replay.proofs.Findings.{on_ok}

-- the parts with other roots
abbrev pub with_roots : ReplayState → Roots → ReplayState
with_roots p r = record p { roots = r }

pub stands_same : (p : ReplayState) (r : Roots) (heading : Heading) (h : List Event) → PartsStand p heading h
    → roots.Stands r heading h → PartsStand (with_roots p r) heading h
stands_same p r heading h s same = record {
  header = s.header;
  index_header = s.index_header;
  numbers = s.numbers;
  told = s.told;
  roots = same;
  guarded = s.guarded;
}

pub answers : (r : Result (Unit {0}) StepFault) (breach : Option Breach) (limit : Option Which) → judges.Judges r breach
    → limit ≡ None → Answers r breach limit
answers (Ok u) breach limit j k = (j, k)
answers (Err (Broken rule at)) breach limit j k = j
answers (Err fault) breach limit j k = absurd j

-- an answer that is never want of memory
frugal_judged : (p : ReplayState) (e : Event) (r : Result (Unit {0}) StepFault)
    → ((heading : Heading) (h : List Event) → PartsStand p heading h → judges.Judges r (broken heading Patterns h e))
    → IsFrugal p e r
frugal_judged p e (Err NoMemory) k = λ heading h s. absurd (k heading h s)
frugal_judged p e r k = tt

-- an event that changes nothing maps nothing
idle : (e : Event) → is_quiet e ≡ true → may_map e ≡ false
idle (Dmb pe dsb) k = refl
idle (Isb pe) k = refl
idle (Msr pe reg value) k = refl
idle (Lock pe lock) k = refl
idle (Unlock pe lock) k = refl
idle e k = absurd (true≢false (sym k))

module _ (laws : (heading : Heading) → Laws heading) (p : ReplayState) (r : Roots) (e : Event) (m : MayMeet p e)
    (quiet : is_quiet e ≡ true) where
  -- a call of the roots that takes the event or is refused
  meets_quiet : (result : Result (Unit {0}) StepFault)
      → ((heading : Heading) (h : List Event) → PartsStand p heading h → Answers result (broken heading Patterns h e) (limit_of h e))
      → OnOk result ((heading : Heading) (h : List Event) → PartsStand p heading h → roots.Stands r heading (e ∷ h))
      → OnErr result (changes.Keeps p.roots r) → IsFrugal p e result → Meets p (with_roots p r) e result
  meets_quiet (Ok u) judged taken same frugal =
      meets_left laws e (idle e quiet) m (record { header = refl; index_header = refl; numbers = λ n. n }) refl refl
      (λ heading h s fits.
      let j = judged heading h s in
      (j.0, j.1, after_quiet (laws heading) (view_of p.map p.index) s.told e quiet fits j.0, taken heading h s))
  meets_quiet (Err fault) judged taken same frugal = record {
    judged = judged;
    taken = tt;
    unchanged = λ heading h s. stands_same p r heading h s (same.same heading h s.roots);
    frugal = frugal;
  }

  -- one that judges it
  pub meets_judged : (result : Result (Unit {0}) StepFault)
      → ((heading : Heading) (h : List Event) → roots.Stands p.roots heading h → judges.Judges result (broken heading Patterns h e))
      → ((h : List Event) → limit_of h e ≡ None) → OnOk result (changes.Takes e p.roots r)
      → OnErr result (changes.Keeps p.roots r) → Meets p (with_roots p r) e result
  meets_judged result judged limit taken same = meets_quiet result
      (λ heading h s. answers result (broken heading Patterns h e) (limit_of h e) (judged heading h s.roots) (limit h))
      (on_ok result taken (λ takes heading h s. takes.taken heading h s.roots tt)) same
      (frugal_judged p e result (λ heading h s. judged heading h s.roots))

pub meets_msr : ((heading : Heading) → Laws heading) → (p : ReplayState) (r : Roots) (pe : ℕ) (reg : Reg) (value : ℕ)
    → MayMeet p (Msr pe reg value) → (result : Result (Unit {0}) StepFault) (null : Bool)
    → ((heading : Heading) (h : List Event) → PartsStand p heading h → null ≡ has_null_base h value)
    → ((heading : Heading) (h : List Event) → roots.Stands p.roots heading h → null ≡ has_null_base h value
    → Answers result (broken heading Patterns h (Msr pe reg value)) (limit_of h (Msr pe reg value)))
    → OnOk result (changes.TakesWhere (λ _ h. null ≡ has_null_base h value) (Msr pe reg value) p.roots r)
    → OnErr result (changes.Keeps p.roots r)
    → Meets p (with_roots p r) (Msr pe reg value) result
meets_msr laws p r pe reg value m result null names judged taken same =
    meets_quiet laws p r (Msr pe reg value) m refl result
    (λ heading h s. judged heading h s.roots (names heading h s))
    (on_ok result taken (λ takes heading h s. takes.taken heading h s.roots (names heading h s))) same
    (frugal_else p (Msr pe reg value) result (λ heading h s. (refl, refl)))

-- a null page is the address of a page
pub null_page : (heading : Heading) (h : List Event) (page : ℕ) → AllFit heading h → is_null h page ≡ true
    → is_page page ≡ true
null_page heading [] page fit k = absurd cc
null_page heading (Null pe at ∷ h) page fit k = grind (arith, nat_tests, null_page heading h page)
null_page heading (e ∷ h) page fit k = null_page heading h page (and_parts (fits_heading heading e) _ fit).1 k

-- an address that is no page's is no null page
pub never_null : (heading : Heading) (h : List Event) (base : ℕ) → AllFit heading h → (is_page base ≡ true → ⊥)
    → false ≡ is_null h base
never_null heading h base fit k = sym (false_from_ne_true (is_null h base) (λ e. k (null_page heading h base fit e)))
