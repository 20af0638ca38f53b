-- What calls change, and that all else stays. A history is newest first.
-- Source: project's own choice.
use Rattle.std.specs.Prelude.{◌≡◌, ℕ, Bool, false, None, not, ◌&&◌, ◌||◌, nat_eq, List, ◌∷◌, Some, true}
use Rattle.std.specs.Prelude.{Result, OnOk, OnErr, if◌then◌else◌}
use Rattle.bbm_barriers.specs.Options.{answers}
use Rattle.bbm_barriers.specs.declared.Dsb.{Dsb as Barrier}
use Rattle.bbm_regimes.specs.declared.regime.Reg.{Reg}
use Rattle.bbm_regimes.specs.declared.regime.Tag.{Tag}
use Rattle.bbm_rules.specs.Broken.{broken}
use Rattle.bbm_rules.specs.Changes.{changes}
use Rattle.bbm_rules.specs.Claims.{Patterns}
use Rattle.bbm_rules.specs.Limits.{limit_of}
use Rattle.bbm_rules.specs.Prelude.{Heading, Event, Dsb, Dmb, Isb, Tlbi}
use Rattle.bbm_rules.specs.RegisterValues.{named_scope}
use Rattle.bbm_roots.specs.Columns.{loads_in}
use Rattle.bbm_roots.specs.Holds.{keeps_in}
use Rattle.bbm_roots.specs.RootPendings.{answered_in, pending_in, Clears}
use Rattle.bbm_roots.specs.LoadsOf.{other_loads, standings_of}
use Rattle.bbm_roots.specs.RootRegisters.{front, is_first, new_standing, newest}
use Rattle.bbm_roots.specs.RootsStand.{HasRoom, Stands}
use Rattle.bbm_roots.specs.declared.load.RootValue.{RootValue}
use Rattle.bbm_roots.specs.declared.reading.Reading.{Reading}
use Rattle.bbm_roots.specs.declared.registers.Registers.{Registers}
use Rattle.bbm_roots.specs.declared.roots.Roots.{Roots}

-- The roots stand for what they stood for and, in front, this event, where a condition holds of the history. Where
-- there was room for one more root, there is.
pub record TakesWhere (holds : Heading → List Event → Type 0) (e : Event) (old new : Roots) : Type 0 where
  pub taken : (heading : Heading) (h : List Event) → Stands old heading h → holds heading h → Stands new heading (e ∷ h)
  pub room : HasRoom old → HasRoom new

abbrev pub Takes : Event → Roots → Roots → Type 0
Takes e old new = TakesWhere (λ heading h. Unit {0}) e old new

-- The roots stand for what they stood for. Where there was room for one more root, there is.
pub record Keeps (old new : Roots) : Type 0 where
  pub same : (heading : Heading) (h : List Event) → Stands old heading h → Stands new heading h
  pub room : HasRoom old → HasRoom new

-- a call that may be refused: after Ok its event is taken, after a refusal nothing changes
pub record Tries {A E : Type 0} (e : Event) (old new : Roots) (result : Result A E) : Type 0 where
  pub taken : OnOk result (Takes e old new)
  pub kept : OnErr result (Keeps old new)

-- Whether an event concerns roots, register values, tags or locks: a TLBI where it names a scope and reaches some PE.
abbrev pub concerns : Heading → List Event → Event → Bool
concerns heading h (Tlbi pe op xt) =
    elim (named_scope heading h pe op xt) [ None ↦ false | Some scope ↦ scope.broadcast || not heading.cnp ]
concerns heading h e = (changes e).roots || (changes e).registers || (changes e).flushes || (changes e).locks

-- What stands for a history stands for it with an event more that concerns none of them and breaks no rule.
abbrev pub OthersStand : Type 0
OthersStand = (roots : Roots) (heading : Heading) (h : List Event) (e : Event) → Stands roots heading h
    → concerns heading h e ≡ false → broken heading Patterns h e ≡ None → Stands roots heading (e ∷ h)

-- A DSB, a DMB and an ISB break no rule and reach no limit.
pub record BarriersPass : Type 0 where
  pub dsb : (heading : Heading) (h : List Event) (pe : ℕ) (dsb : Barrier)
      → broken heading Patterns h (Dsb pe dsb) ≡ None
  pub dmb : (heading : Heading) (h : List Event) (pe : ℕ) (dsb : Barrier)
      → broken heading Patterns h (Dmb pe dsb) ≡ None
  pub isb : (heading : Heading) (h : List Event) (pe : ℕ) → broken heading Patterns h (Isb pe) ≡ None
  pub dsb_limit : (h : List Event) (pe : ℕ) (dsb : Barrier) → limit_of h (Dsb pe dsb) ≡ None
  pub dmb_limit : (h : List Event) (pe : ℕ) (dsb : Barrier) → limit_of h (Dmb pe dsb) ≡ None
  pub isb_limit : (h : List Event) (pe : ℕ) → limit_of h (Isb pe) ≡ None

-- the number of PEs stays, and by what readings go
pub record SameSizes (old new : Registers) : Type 0 where
  pub pes : new.pes ≡ old.pes
  pub world : new.world ≡ old.world
  pub in_order : new.in_order ≡ old.in_order

-- The value is put in front of those that a register of the PE had, and a new standing in front of its standings,
-- where readings go by them; and no other value changes.
pub record PutsLoad (pe : ℕ) (reg : Reg) (load : RootValue) (old new : Registers) : Type 0 where
  pub first : (p : ℕ) → loads_in new.first.items p ≡ (if nat_eq p pe && is_first reg
      then load ∷ loads_in old.first.items p else loads_in old.first.items p)
  pub second : (p : ℕ) → loads_in new.second.items p ≡ (if nat_eq p pe && not (is_first reg)
      then load ∷ loads_in old.second.items p else loads_in old.second.items p)
  pub standings : (p : ℕ) → standings_of new p ≡ (if nat_eq p pe && old.in_order
      then new_standing (is_first reg) load (front (other_loads old p reg)) ∷ standings_of old p
      else standings_of old p)
  pub same : SameSizes old new

-- the newest values of the PE's registers are left, and its newest standing, where readings go by them
pub record LeavesNewest (pe : ℕ) (old new : Registers) : Type 0 where
  pub first : (p : ℕ) → loads_in new.first.items p ≡ (if nat_eq p pe then newest (loads_in old.first.items p)
      else loads_in old.first.items p)
  pub second : (p : ℕ) → loads_in new.second.items p ≡ (if nat_eq p pe then newest (loads_in old.second.items p)
      else loads_in old.second.items p)
  pub standings : old.in_order ≡ true → (p : ℕ) → standings_of new p
      ≡ (if nat_eq p pe then newest (standings_of old p) else standings_of old p)
  pub same : SameSizes old new

-- the header, the declared roots and the locks stay
pub record SameDeclared (old new : Roots) : Type 0 where
  pub header : new.header ≡ old.header
  pub declared : new.declared ≡ old.declared
  pub names : new.names_locks ≡ old.names_locks
  pub locks : new.locks ≡ old.locks

-- A register of the PE is written: the value is put in front, and no TLBI that waits takes one of the tags seen away
-- from the PE any more.
pub record Writes (pe : ℕ) (reg : Reg) (load : RootValue) (seen : List Reading) (old new : Roots) : Type 0 where
  pub loads : PutsLoad pe reg load old.registers new.registers
  pub pendings : Clears pe seen old.pendings new.pendings
  pub roots : SameDeclared old new

-- A DSB of q: tags are taken away where its TLBIs that the DSB answers wait, and these wait no more.
pub record Completes (q : ℕ) (dsb : Barrier) (old new : Roots) : Type 0 where
  pub holds : (left : Bool) (tag : Tag) (root p : ℕ) → keeps_in new.holds left tag root p
      ≡ (keeps_in old.holds left tag root p && not (answered_in old.pendings q dsb tag p))
  pub pendings : (issuer : ℕ) (broadcast : Bool) (tag : Tag) (p : ℕ) → pending_in new.pendings issuer broadcast tag p
      ≡ (pending_in old.pendings issuer broadcast tag p && not (nat_eq issuer q && answers dsb broadcast))
  pub registers : new.registers ≡ old.registers
  pub roots : SameDeclared old new
