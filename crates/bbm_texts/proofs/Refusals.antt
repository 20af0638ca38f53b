-- The place that break-before-make names.
use Rattle.bbm_texts.proofs.Common.{Init, Null, Root, Unroot, Write, Dsb, Dmb, Isb, Tlbi, Msr, Lock, Unlock, Heading}
use Rattle.bbm_texts.proofs.Common.{Rule, Verdict, Accepted, Refused, Malformed, Limit, WrongWorld, NoLock, NullWritten}
use Rattle.bbm_texts.proofs.Common.{BreakBeforeMake, LimboMake, NotFresh, RewrittenFresh, BadKind, GlobalUser}
use Rattle.bbm_texts.proofs.Common.{PageInUse, NoRoot, TagConflict, RootInUse, UnsyncedVmid, BadOperand, LockBusy}
use Rattle.bbm_texts.proofs.Common.{LockNotMine, TableMapped, Patterns, Keeps, Knows, KnowsThat, TellsEvent}
use Rattle.bbm_rules.proofs.Common.{option_map_or, ◌≡◌, ◌⊎◌, ℕ, Bool, true, ◌&&◌, List, [], ◌∷◌, Option, Some, None}
use Rattle.bbm_rules.proofs.Common.{refl, ap, ◌∙◌, subst, inl, inr, proved, If, Is, fits_heading, is_pe, is_place}
use Rattle.bbm_rules.proofs.Common.{is_value, Breach, breaks, first_broken, noted, ◌>>=◌, Noted, page_of}
use Rattle.bbm_rules.proofs.Common.{break_before_make, node_of, held_at}
use Rattle.bbm_events.specs.declared.event.Event.{Event as EventOf}
use Rattle.bbm_rules.specs.Broken.{rules, broken}
use Rattle.bbm_texts.specs.Known.{NamesPlace}
use Rattle.bbm_rules.proofs.PhaseLaw.{if_at}

module _ (heading : Heading) (h : List Noted) (e : EventOf) where
  -- where the rule of a breach is broken at its number, or one behind it is
  one-or-behind : (found : Option ℕ) (rule : Rule) (behind : Option Breach) (breach : Breach)
      → option_map_or (λ at. Some (record { rule = rule; at = at })) found behind ≡ Some breach
      → ((breach.rule ≡ rule) × (found ≡ Some breach.at)) ⊎ (behind ≡ Some breach)
  one-or-behind (Some at) rule behind breach is = inl (cc, cc)
  one-or-behind None rule behind breach is = inr is

  named-by : (rule : Rule) (breach : Breach) → (breach.rule ≡ rule) × (breaks heading Patterns h e rule ≡ Some breach.at)
      → breaks heading Patterns h e breach.rule ≡ Some breach.at
  named-by rule breach both = ap (breaks heading Patterns h e) both.0 ∙ both.1

  first-named : (rs : List Rule) (breach : Breach) → first_broken heading Patterns h e rs ≡ Some breach
      → breaks heading Patterns h e breach.rule ≡ Some breach.at
  first-named [] breach is = cc
  first-named (rule ∷ rs) breach is =
      elim (one-or-behind (breaks heading Patterns h e rule) rule (first_broken heading Patterns h e rs) breach is) [
        | inl both ↦ named-by rule breach both
        | inr behind ↦ first-named rs breach behind
      ]

bound : {A : Type 0} (found : Option A) (place at : ℕ) (f : A → Option ℕ) → ((x : A) → f x ≡ Some at → place ≡ at) → (found >>= f) ≡ Some at → place ≡ at
bound None place at f each is = cc
bound (Some x) place at f each is = each x is

middle : (a b c : Bool) → (a && b && c) ≡ true → b ≡ true
middle = proved 3 (λ a b c. If (Is (a && b && c) true) (Is b true)) refl

same-place : (heading : Heading) (h : List Noted) (pe place value at : ℕ) → break_before_make heading Patterns h (Write pe place value) ≡ Some at → place ≡ at
same-place heading h pe place value at is =
    bound (node_of heading Patterns h (page_of place)) place at _ (λ n. bound (held_at heading Patterns h n place) place at _ (λ old. if_at _ place at)) is

place-of : (heading : Heading) (h : List Noted) (e : EventOf) (at : ℕ) → fits_heading heading e ≡ true
    → break_before_make heading Patterns h e ≡ Some at → is_place at ≡ true
place-of heading h (Write pe place value) at fits is =
    let same = same-place heading h pe place value at is in
    subst (λ (x : ℕ). is_place x ≡ true) same (middle (is_pe heading pe) (is_place place) (is_value value) fits)
place-of heading h (Init pe page) at fits is = cc
place-of heading h (Null pe page) at fits is = cc
place-of heading h (Root pe kind lock page) at fits is = cc
place-of heading h (Unroot pe page) at fits is = cc
place-of heading h (Dsb pe dsb) at fits is = cc
place-of heading h (Dmb pe dsb) at fits is = cc
place-of heading h (Isb pe) at fits is = cc
place-of heading h (Tlbi pe op xt) at fits is = cc
place-of heading h (Msr pe reg value) at fits is = cc
place-of heading h (Lock pe lock) at fits is = cc
place-of heading h (Unlock pe lock) at fits is = cc

of-rule : (heading : Heading) (h : List Noted) (e : EventOf) (rule : Rule) (at : ℕ) → fits_heading heading e ≡ true
    → breaks heading Patterns h e rule ≡ Some at → NamesPlace rule at
of-rule heading h e BreakBeforeMake at fits is = place-of heading h e at fits is
of-rule heading h e WrongWorld at fits is = tt
of-rule heading h e NoLock at fits is = tt
of-rule heading h e NullWritten at fits is = tt
of-rule heading h e LimboMake at fits is = tt
of-rule heading h e NotFresh at fits is = tt
of-rule heading h e RewrittenFresh at fits is = tt
of-rule heading h e BadKind at fits is = tt
of-rule heading h e GlobalUser at fits is = tt
of-rule heading h e PageInUse at fits is = tt
of-rule heading h e NoRoot at fits is = tt
of-rule heading h e TagConflict at fits is = tt
of-rule heading h e RootInUse at fits is = tt
of-rule heading h e UnsyncedVmid at fits is = tt
of-rule heading h e BadOperand at fits is = tt
of-rule heading h e LockBusy at fits is = tt
of-rule heading h e LockNotMine at fits is = tt
of-rule heading h e TableMapped at fits is = tt

-- a breach of break-before-make by an event that fits names a place
pub names-place : (heading : Heading) (h : List EventOf) (e : EventOf) (breach : Breach) → fits_heading heading e ≡ true
    → broken heading Patterns h e ≡ Some breach → NamesPlace breach.rule breach.at
unfolding broken
names-place heading h e breach fits is =
    of-rule heading (noted heading Patterns h) e breach.rule breach.at fits (first-named heading (noted heading Patterns h) e rules breach is)

-- what is told of a verdict, by the event that it refuses
pub names-it : (stands : Heading → List EventOf → Type 0) (heading : Heading) (h : List EventOf) (v : Verdict) (refused : Option EventOf)
    → KnowsThat (Keeps stands heading h) v → TellsEvent heading h v refused → Knows stands heading h v
names-it stands heading h (Accepted events) refused kept tells = kept
names-it stands heading h (Refused line rule at label) refused kept tells =
    (kept, names-place heading h tells.0 (record { rule = rule; at = at }) tells.2.fits tells.2.breaks)
names-it stands heading h (Malformed line cause) refused kept tells = tt
names-it stands heading h (Limit line which) refused kept tells = tt

-- a write that breaks the rule of break-before-make is named by its place
pub write-place : (heading : Heading) (h : List EventOf) (pe place value at : ℕ)
    → broken heading Patterns h (Write pe place value) ≡ Some (record { rule = BreakBeforeMake; at = at }) → place ≡ at
unfolding broken
write-place heading h pe place value at is =
    let notes = noted heading Patterns h in
    same-place heading notes pe place value at (first-named heading notes (Write pe place value) rules (record { rule = BreakBeforeMake; at = at }) is)
