-- The rules on locks, registers and operands judge alike.
use Rattle.bbm_rules.proofs.Common.{◌≡◌, ℕ, Bool, List, refl, ap, Trust, if_so, holder_of, Noted, events_of, is_null}
use Rattle.bbm_rules.proofs.Common.{Heading, Event, Null, Root, Unroot, Tlbi, Msr, Lock, Unlock}
use Rattle.bbm_rules.proofs.Common.{roots_of, no_root}
use Rattle.bbm_rules.specs.Rules.{bad_operand, lock_busy, lock_not_mine, unsynced_vmid, wrong_world}
use Rattle.bbm_alike.specs.Alike.{SameRegisters}
use Rattle.bbm_alike.proofs.ReadingsAlike.{lacks_alike}

module _ (heading : Heading) (one other : Trust) (h h' : List Noted) where
  -- these two read no history
  pub same_wrong_world : (e : Event) → wrong_world heading one h e ≡ wrong_world heading other h' e
  same_wrong_world (Root pe kind lock page) = refl
  same_wrong_world (Msr pe reg value) = refl
  same_wrong_world (Tlbi pe op xt) = refl
  same_wrong_world (Null pe page) = refl
  same_wrong_world e = refl

  pub same_bad_operand : (e : Event) → bad_operand heading one h e ≡ bad_operand heading other h' e
  same_bad_operand (Tlbi pe op xt) = refl
  same_bad_operand e = refl

  pub same_unsynced_vmid : SameRegisters (events_of h) (events_of h')
      → (e : Event) → unsynced_vmid heading one h e ≡ unsynced_vmid heading other h' e
  same_unsynced_vmid registers (Tlbi pe op xt) =
      ap (λ (b : Bool). if_so b pe) (lacks_alike (events_of h) (events_of h') registers heading pe op)
  same_unsynced_vmid registers e = refl

  pub same_no_root : roots_of (events_of h) ≡ roots_of (events_of h')
      → ((page : ℕ) → is_null (events_of h) page ≡ is_null (events_of h') page)
      → (e : Event) → no_root heading one h e ≡ no_root heading other h' e
  same_no_root roots nulls (Msr pe reg value) = simp (roots, nulls)
  same_no_root roots nulls (Unroot pe page) = simp roots
  same_no_root roots nulls e = refl

  module _ (locks : (lock : ℕ) → holder_of (events_of h) lock ≡ holder_of (events_of h') lock) where
    pub same_lock_busy : (e : Event) → lock_busy heading one h e ≡ lock_busy heading other h' e
    same_lock_busy (Lock pe lock) = locks lock
    same_lock_busy e = refl

    pub same_lock_not_mine : (e : Event) → lock_not_mine heading one h e ≡ lock_not_mine heading other h' e
    same_lock_not_mine (Unlock pe lock) = simp locks
    same_lock_not_mine e = refl
