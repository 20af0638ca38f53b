-- The least rule that an event breaks.
use Rattle.bbm_roots.proofs.Common.{AreListed, Laws, Patterns, Stands, Roots, holder_at}
use Rattle.bbm_rules.proofs.Common.{◌≡◌, ℕ, ◌<◌, Bool, true, false, not, ◌&&◌, ◌==◌, cond}
use Rattle.bbm_rules.proofs.Common.{Result, Ok, List, ◌∷◌, Option, Some, None, refl, sym, ap, ◌∙◌, arith, true≢false}
use Rattle.bbm_rules.proofs.Common.{option_map_or, eq-eqb, eqb-true, ne_eqb, result_ok}
use Rattle.bbm_rules.proofs.Common.{scope_of, of_world, lacks_vmid, named_scope, World, Scope, Root}
use Rattle.bbm_rules.proofs.Common.{Reg, TlbiOp, Heading, Event, Dsb, Dmb, Isb, Tlbi, Msr, Lock, Unlock, Unroot, Breach}
use Rattle.bbm_rules.proofs.Common.{noted, holder_of, if_so, is_that, Declared, is_root, root_at}
use Rattle.std.specs.Option.{is_none}
use Rattle.bbm_barriers.specs.declared.Dsb.{Dsb as Barrier}
use Rattle.bbm_locks.specs.declared.locks.Locks.{Locks}
use Rattle.bbm_tlbi_scope.specs.declared.scope.BadOperand.{BadOperand as BadOperandOf}
use Rattle.bbm_rules.specs.Broken.{broken}
use Rattle.bbm_rules.specs.Rules as rules
use Rattle.bbm_rules.specs.Prelude.{Kind}
use Rattle.bbm_rules.specs.declared.rule.Rule.{Rule}
use Rattle.bbm_rules.specs.declared.rule.Rule.TheVariants.{BadOperand, LockBusy, LockNotMine, NoLock, NoRoot, RootInUse}
use Rattle.bbm_rules.specs.declared.rule.Rule.TheVariants.{TagConflict, UnsyncedVmid, WrongWorld}
use Rattle.bbm_roots.specs.RootChanges.{Keeps}
use Rattle.bbm_roots.specs.RootsStand.{pes_of}
use Rattle.bbm_histories.proofs.Induction.{kept_next}

-- the breach of the rule, or else the other
abbrev pub or_rule : Rule → Option ℕ → Option Breach → Option Breach
or_rule rule at rest = option_map_or (λ n. Some (record { rule = rule; at = n })) at rest

module _ (heading : Heading) (h : List Event) where
  pub broken_msr : (pe : ℕ) (reg : Reg) (value : ℕ) → broken heading Patterns h (Msr pe reg value)
      ≡ or_rule WrongWorld (rules.wrong_world heading Patterns (noted heading Patterns h) (Msr pe reg value))
      (or_rule NoRoot (rules.no_root heading Patterns (noted heading Patterns h) (Msr pe reg value))
      (or_rule TagConflict (rules.tag_conflict heading Patterns (noted heading Patterns h) (Msr pe reg value)) None))
  unfolding broken
  broken_msr pe reg value = refl

  pub broken_unroot : (pe page : ℕ) → broken heading Patterns h (Unroot pe page)
      ≡ or_rule NoLock (rules.no_lock heading Patterns (noted heading Patterns h) (Unroot pe page))
      (or_rule NoRoot (rules.no_root heading Patterns (noted heading Patterns h) (Unroot pe page))
      (or_rule RootInUse (rules.root_in_use heading Patterns (noted heading Patterns h) (Unroot pe page)) None))
  unfolding broken
  broken_unroot pe page = refl

  pub broken_tlbi : (pe : ℕ) (op : TlbiOp) (xt : ℕ) → broken heading Patterns h (Tlbi pe op xt)
      ≡ or_rule WrongWorld (rules.wrong_world heading Patterns (noted heading Patterns h) (Tlbi pe op xt))
      (or_rule UnsyncedVmid (rules.unsynced_vmid heading Patterns (noted heading Patterns h) (Tlbi pe op xt))
      (or_rule BadOperand (rules.bad_operand heading Patterns (noted heading Patterns h) (Tlbi pe op xt)) None))
  unfolding broken
  broken_tlbi pe op xt = refl

  pub broken_lock : (pe lock : ℕ) → broken heading Patterns h (Lock pe lock)
      ≡ or_rule LockBusy (rules.lock_busy heading Patterns (noted heading Patterns h) (Lock pe lock)) None
  unfolding broken
  broken_lock pe lock = refl

  pub broken_unlock : (pe lock : ℕ) → broken heading Patterns h (Unlock pe lock)
      ≡ or_rule LockNotMine (rules.lock_not_mine heading Patterns (noted heading Patterns h) (Unlock pe lock)) None
  unfolding broken
  broken_unlock pe lock = refl

  pub broken_dsb : (pe : ℕ) (dsb : Barrier) → broken heading Patterns h (Dsb pe dsb) ≡ None
  unfolding broken
  broken_dsb pe dsb = refl

  pub broken_dmb : (pe : ℕ) (dsb : Barrier) → broken heading Patterns h (Dmb pe dsb) ≡ None
  unfolding broken
  broken_dmb pe dsb = refl

  pub broken_isb : (pe : ℕ) → broken heading Patterns h (Isb pe) ≡ None
  unfolding broken
  broken_isb pe = refl

-- ---- what stands

-- a PE of a history's header is one that the roots keep
pub of_state : {roots : Roots} {heading : Heading} {h : List Event} {p : ℕ} → Stands roots heading h → p < heading.pes → p < pes_of roots
of_state s less = let a = s.pes in omega arith

-- the same holders, after a call of the locks that was refused
pub relocked : (old : Roots) (locks : Locks) (listed : AreListed old.holds old.by_root)
    → ((lock : ℕ) → holder_at locks lock ≡ holder_at old.locks lock) → Keeps old (record old { locks = locks; listed = listed })
relocked old locks listed same = record {
  same = λ heading h s. record {
    header = s.header;
    proper = s.proper;
    kept = s.kept;
    pes = s.pes;
    world = s.world;
    order = s.order;
    first = s.first;
    second = s.second;
    standings = s.standings;
    outside = s.outside;
    declared = s.declared;
    count = s.count;
    locks = s.locks;
    holds = s.holds;
    left = s.left;
    inside = s.inside;
    pendings = s.pendings;
    holders = λ lock. same lock ∙ s.holders lock;
  };
  room = λ room. room;
}

-- ---- locks

lock_is : (heading : Heading) (h : List Event) (pe lock : ℕ) → Laws heading → (o : Option ℕ) → holder_of h lock ≡ o
    → broken heading Patterns h (Lock pe lock) ≡ or_rule LockBusy o None
lock_is heading h pe lock laws o e =
    broken_lock heading h pe lock
    ∙ (ap (λ (es : List Event). or_rule LockBusy (holder_of es lock) None) (laws.notes_keep_the_events h)
    ∙ ap (λ (x : Option ℕ). or_rule LockBusy x None) e)

pub lock_free : (heading : Heading) (h : List Event) (pe lock : ℕ) → Laws heading → ((q : ℕ) → holder_of h lock ≡ Some q → ⊥)
    → broken heading Patterns h (Lock pe lock) ≡ None
lock_free heading h pe lock laws free = by (holder_of h lock) refl
  where
    by : (o : Option ℕ) → holder_of h lock ≡ o → broken heading Patterns h (Lock pe lock) ≡ None
    by None e = lock_is heading h pe lock laws None e
    by (Some q) e = absurd (free q e)

pub lock_held : (heading : Heading) (h : List Event) (pe lock q : ℕ) → Laws heading → holder_of h lock ≡ Some q
    → broken heading Patterns h (Lock pe lock) ≡ Some (record { rule = LockBusy; at = q })
lock_held heading h pe lock q laws e = lock_is heading h pe lock laws (Some q) e

unlock_is : (heading : Heading) (h : List Event) (pe lock : ℕ) → Laws heading → (b : Bool) → is_that (holder_of h lock) pe ≡ b
    → broken heading Patterns h (Unlock pe lock) ≡ or_rule LockNotMine (if_so (not b) lock) None
unlock_is heading h pe lock laws b e =
    broken_unlock heading h pe lock
    ∙ (ap (λ (es : List Event). or_rule LockNotMine (if_so (not (is_that (holder_of es lock) pe)) lock) None)
    (laws.notes_keep_the_events h)
    ∙ ap (λ (x : Bool). or_rule LockNotMine (if_so (not x) lock) None) e)

pub is_mine : (o : Option ℕ) (pe : ℕ) → o ≡ Some pe → is_that o pe ≡ true
is_mine o pe e = ap (λ (x : Option ℕ). is_that x pe) e ∙ eq-eqb pe pe refl

pub unlock_mine : (heading : Heading) (h : List Event) (pe lock : ℕ) → Laws heading → holder_of h lock ≡ Some pe
    → broken heading Patterns h (Unlock pe lock) ≡ None
unlock_mine heading h pe lock laws e = unlock_is heading h pe lock laws true (is_mine (holder_of h lock) pe e)

not_mine : (o : Option ℕ) (pe : ℕ) → (o ≡ Some pe → ⊥) → is_that o pe ≡ false
not_mine None pe other = refl
not_mine (Some q) pe other = ne_eqb q pe (λ e. other (ap (λ (x : ℕ). Some x) e))

pub unlock_other : (heading : Heading) (h : List Event) (pe lock : ℕ) → Laws heading → (holder_of h lock ≡ Some pe → ⊥)
    → broken heading Patterns h (Unlock pe lock) ≡ Some (record { rule = LockNotMine; at = lock })
unlock_other heading h pe lock laws other = unlock_is heading h pe lock laws false (not_mine (holder_of h lock) pe other)

pub given_back : (h : List Event) (pe lock l : ℕ) (o : Option ℕ) → holder_of h lock ≡ Some pe → o ≡ holder_of h l
    → cond (lock == l) None o ≡ holder_of (Unlock pe lock ∷ h) l
given_back h pe lock l o mine is = ap (λ (x : Option ℕ). cond (lock == l) None x) is ∙ by (lock == l) refl
  where
    by : (b : Bool) → (lock == l) ≡ b → cond b None (holder_of h l) ≡ cond (b && is_that (holder_of h l) pe) None (holder_of h l)
    by false e = refl
    by true e =
        ap (λ (x : Bool). cond x None (holder_of h l))
        (sym (is_mine (holder_of h l) pe (ap (λ (n : ℕ). holder_of h n) (sym (eqb-true lock l e)) ∙ mine)))

-- ---- a new root

pub free_page : {roots : Roots} {heading : Heading} {h : List Event} (pe page : ℕ) (kind : Kind) (lock : Option ℕ) → Laws heading
    → Stands roots heading h → broken heading Patterns h (Root pe kind lock page) ≡ None → root_at h page ≡ None
free_page {heading = heading} {h = h} pe page kind lock laws s none = by (root_at h page) refl
  where
    by : (o : Option Declared) → root_at h page ≡ o → o ≡ None
    by None e = refl
    by (Some r) e =
        let d = laws.root.of_page h page r e in
        let there : is_root h r.kind page ≡ true = ap (is_root h r.kind) (sym d.1) ∙ laws.root.is_of_kind h r d.0 in
        let apart : is_root h r.kind page ≡ false = laws.bases.new_root h pe page kind r.kind lock
        (laws.proper s.proper)
        (kept_next heading Patterns h (Root pe kind lock page) s.kept none) in
        absurd (true≢false (sym there ∙ apart))

-- ---- TLBIs

pub tlbi_is : (heading : Heading) (h : List Event) (pe : ℕ) (op : TlbiOp) (xt : ℕ) → Laws heading → (w l : Bool) (d : Result Scope BadOperandOf)
    → of_world heading.world op ≡ w → lacks_vmid heading h pe op ≡ l → scope_of op xt ≡ d
    → broken heading Patterns h (Tlbi pe op xt)
    ≡ or_rule WrongWorld (if_so (not w) 0) (or_rule UnsyncedVmid (if_so l pe) (or_rule BadOperand (if_so (is_none (result_ok d)) xt) None))
tlbi_is heading h pe op xt laws w l d world lacks scope =
    broken_tlbi heading h pe op xt
    ∙ (ap (λ (es : List Event). or_rule WrongWorld (if_so (not (of_world heading.world op)) 0)
    (or_rule UnsyncedVmid (if_so (lacks_vmid heading es pe op) pe)
    (or_rule BadOperand (if_so (is_none (result_ok (scope_of op xt))) xt) None))) (laws.notes_keep_the_events h)
    ∙ (ap (λ (b : Bool). or_rule WrongWorld (if_so (not b) 0)
    (or_rule UnsyncedVmid (if_so (lacks_vmid heading h pe op) pe) (or_rule BadOperand (if_so (is_none (result_ok (scope_of op xt))) xt) None))) world
    ∙ (ap (λ (b : Bool). or_rule WrongWorld (if_so (not w) 0)
    (or_rule UnsyncedVmid (if_so b pe) (or_rule BadOperand (if_so (is_none (result_ok (scope_of op xt))) xt) None))) lacks
    ∙ ap (λ (r : Result Scope BadOperandOf). or_rule WrongWorld (if_so (not w) 0)
    (or_rule UnsyncedVmid (if_so l pe) (or_rule BadOperand (if_so (is_none (result_ok r)) xt) None))) scope)))

-- a TLBI of another world
pub tlbi_elsewhere : (heading : Heading) (h : List Event) (pe : ℕ) (op : TlbiOp) (xt : ℕ) → Laws heading
    → of_world heading.world op ≡ false → broken heading Patterns h (Tlbi pe op xt) ≡ Some (record { rule = WrongWorld; at = 0 })
tlbi_elsewhere heading h pe op xt laws world =
    tlbi_is heading h pe op xt laws false (lacks_vmid heading h pe op) (scope_of op xt) world refl refl

-- what a TLBI names, where it needs no VMID that its PE lacks and its operand can be decoded
pub named_by : (heading : Heading) (h : List Event) (pe : ℕ) (op : TlbiOp) (xt : ℕ) (scope : Scope) → lacks_vmid heading h pe op ≡ false
    → scope_of op xt ≡ Ok scope → named_scope heading h pe op xt ≡ Some scope
named_by heading h pe op xt scope lacks decoded =
    ap (λ (b : Bool). cond b None (result_ok (scope_of op xt))) lacks ∙ ap (λ (r : Result Scope BadOperandOf). result_ok r) decoded

-- ---- the world of a header

pub world_by : {roots : Roots} {heading : Heading} {h : List Event} (s : Stands roots heading h) (world : World) (op : TlbiOp) (b : Bool)
    → roots.header.world ≡ world → of_world world op ≡ b → of_world heading.world op ≡ b
world_by s world op b e k = ap (λ (g : Heading). of_world g.world op) (sym s.header) ∙ (ap (λ (w : World). of_world w op) e ∙ k)
