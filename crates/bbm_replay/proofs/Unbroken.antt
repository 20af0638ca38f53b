-- A write that leaves a place unbroken, which wasn't broken: its value alone changes.
use Rattle.bbm_replay.proofs.Common.{marks_at, pends_at, value_at, Written, WritesAs, IsIdle, Marks, EntryState}
use Rattle.bbm_replay.proofs.Common.{Live, Puts, PlaceMap, core_in, marks_of_state, state_from, IsUnlocked, MayAdmit}
use Rattle.bbm_replay.proofs.Common.{Path, ReplayState, WritesTree, state_at}
use Rattle.bbm_rules.proofs.Common.{◌≡◌, ℕ, Bool, true, false, ◌==◌, Option, Some, None, refl, sym, ◌∙◌, ap, subst}
use Rattle.bbm_rules.proofs.Common.{if◌then◌else◌, eqb-true, core_of, Core, Write, arith}
use Rattle.bbm_place_map.specs.MapCalls.{Leaves}
use Rattle.bbm_replay.proofs.Growing.{core_whole}
use Rattle.bbm_replay.proofs.Inside.{may_admit}

-- what is asked of a write at such a place
pub may_admit_unbroken : {old : ReplayState} {pe place v : ℕ} {path : Path} → WritesTree old pe place v path
    → IsUnlocked old (Write pe place v) → marks_at old.map place ≡ None → (live new : Option Core)
    → live ≡ core_of path.kind path.level (value_at old.map place) → new ≡ core_of path.kind path.level v
    → MayAdmit old pe place v path live new
may_admit_unbroken tree unlocked unbroken live new live_is core_is = may_admit tree unlocked live live new live_is
    (sym (ap (λ (o : Option Marks). core_in (state_from live o)) unbroken ∙ core_whole live)) core_is

-- an invalid value over a core, in the words of any write
pub breaks_unbroken : (old new : PlaceMap) (pe place v : ℕ) (core : Core) (value : Option Core)
    → marks_at old place ≡ None → value ≡ None → WritesAs (Live core) pe None v place old new
    → WritesAs (state_at old (Some core) place) pe value v place old new
breaks_unbroken old new pe place v core value unbroken none w =
    subst (λ (x : Option Core). WritesAs (state_at old (Some core) place) pe x v place old new) (sym none)
    (subst (λ (s : EntryState). WritesAs s pe None v place old new)
    (sym (ap (λ (o : Option Marks). state_from (Some core) o) unbroken)) w)

written_whole : (pe : ℕ) (value live : Option Core) → (value ≡ None → live ≡ None)
    → Written (state_from live None) pe value (state_from value None)
written_whole pe None (Some core) stays = let bad : Some core ≡ None = stays refl in absurd cc
written_whole pe value live stays = record {
  core = refl;
  broken = refl;
  writers = λ p. refl;
  seen = λ p. refl;
  half = λ p. refl;
  clean = λ p. refl;
}

module _ (old new : PlaceMap) (pe place v : ℕ) (unbroken : marks_at old place ≡ None)
    (marks : (a : ℕ) → marks_at new a ≡ marks_at old a) (pends : (q a : ℕ) → pends_at new q a ≡ pends_at old q a)
    (idle : (q a : ℕ) → marks_at new a ≡ None → IsIdle (pends_at new q a)) where
  -- it leaves any state that isn't broken
  pub leaves_unbroken : (state : EntryState) → marks_of_state state ≡ None → Leaves state place old new
  leaves_unbroken state none = record {
    marks = λ a. by a (a == place) refl;
    pends = λ q a k. pends q a;
    dropped = λ q k. idle q place (marks place ∙ unbroken);
  }
    where
      by : (a : ℕ) (b : Bool) → (a == place) ≡ b → marks_at new a ≡ (if b then marks_of_state state else marks_at old a)
      by a true k = marks a ∙ ap (λ x. marks_at old x) (eqb-true a place k) ∙ unbroken ∙ sym none
      by a false k = marks a

  -- a valid value makes it live, and an invalid one leaves it clean
  pub writes_unbroken : Puts v place old new → (live value : Option Core) → (value ≡ None → live ≡ None)
      → WritesAs (state_at old live place) pe value v place old new
  writes_unbroken put live value stays = record {
    written = (
      state_from value None,
      subst (λ (o : Option Marks). Written (state_from live o) pe value (state_from value None)) (sym unbroken)
          (written_whole pe value live stays),
      leaves_unbroken (state_from value None) (whole value),
    );
    put = put;
  }
    where
      whole : (o : Option Core) → marks_of_state (state_from o None) ≡ None
      whole o = grind arith
