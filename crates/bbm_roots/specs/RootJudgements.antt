-- How roots judge an event, by the history that they stand for. A history is newest first.
-- Source: project's own choice.
use Rattle.std.specs.Prelude.{◌≡◌, ◌<◌, ℕ, true, false, List, length, Option, Some, None, Result, Ok, Err}
use Rattle.bbm_regimes.specs.declared.regime.Reg.{Reg}
use Rattle.bbm_rules.specs.Broken.{Breach, broken}
use Rattle.bbm_rules.specs.Claims.{Patterns}
use Rattle.bbm_rules.specs.Prelude.{Heading, Event, Tlbi, TlbiOp}
use Rattle.bbm_rules.specs.RegisterValues.{named_scope, vmid_of}
use Rattle.bbm_rules.specs.declared.step_fault.StepFault.{StepFault}
use Rattle.bbm_rules.specs.declared.step_fault.StepFault.TheVariants.{Broken, Limit, NoMemory}
use Rattle.bbm_roots.specs.Holds.{tag_in}
use Rattle.bbm_roots.specs.HoldsNew.{all_held, anew, own_tag}
use Rattle.bbm_roots.specs.LoadsOf.{loads_of, other_loads}
use Rattle.bbm_roots.specs.RootPendings.{IsQuiet}
use Rattle.bbm_roots.specs.RootRegisters.{is_first}
use Rattle.bbm_roots.specs.RootsStand.{pes_of, world_of}
use Rattle.bbm_roots.specs.declared.load.RootValue.{RootValue}
use Rattle.bbm_roots.specs.declared.named.NamedTlbi.{NamedTlbi}
use Rattle.bbm_roots.specs.declared.reading.Reading.{Reading}
use Rattle.bbm_roots.specs.declared.roots.Roots.{Roots}

-- the answer where this is the least broken rule, or none is broken
abbrev pub Judges : Result (Unit {0}) StepFault → Option Breach → Type 0
Judges (Ok _) breach = breach ≡ None
Judges (Err (Broken rule at)) breach = breach ≡ Some (record { rule = rule; at = at })
Judges (Err (Limit which)) breach = ⊥
Judges (Err NoMemory) breach = ⊥

-- a TLBI of the PE names this after the history
abbrev pub IsNamed : Heading → List Event → ℕ → TlbiOp → ℕ → NamedTlbi → Type 0
IsNamed heading h pe op xt named =
    (named_scope heading h pe op xt ≡ Some named.scope) × (named.vmid ≡ vmid_of heading h pe)

-- the judgement of a TLBI after the history: what it names, or else the least rule that it breaks
abbrev pub JudgesTlbi : Heading → List Event → ℕ → TlbiOp → ℕ → Result NamedTlbi StepFault → Type 0
JudgesTlbi heading h pe op xt (Ok named) =
    (broken heading Patterns h (Tlbi pe op xt) ≡ None) × IsNamed heading h pe op xt named
JudgesTlbi heading h pe op xt (Err fault) = Judges (Err fault) (broken heading Patterns h (Tlbi pe op xt))

-- A write of the value changes the register alone: readings don't go by standings, the register isn't full, no TLBI
-- waits, and the PE holds, for its root, each tag that the value makes readable anew.
pub record IsSettled (pe : ℕ) (reg : Reg) (load : RootValue) (roots : Roots) : Type 0 where
  pub by_values : roots.registers.in_order ≡ false
  pub room : length (loads_of roots.registers pe reg) < 9
  pub quiet : IsQuiet roots.pendings
  pub held : all_held roots.holds pe (anew (world_of roots) (is_first reg) load (other_loads roots.registers pe reg))
      ≡ true

-- A write of the value makes one tag readable anew, which its root holds at some PE: readings don't go by standings,
-- the register isn't full, and no TLBI waits.
pub record IsShared (pe : ℕ) (reg : Reg) (load : RootValue) (reading : Reading) (roots : Roots) : Type 0 where
  pub by_values : roots.registers.in_order ≡ false
  pub room : length (loads_of roots.registers pe reg) < 9
  pub quiet : IsQuiet roots.pendings
  pub tag : own_tag (world_of roots) (is_first reg) load.number ≡ Some reading.tag
  pub root : load.root ≡ Some reading.root
  pub held : tag_in roots.holds (pes_of roots) reading.tag reading.root ≡ true
