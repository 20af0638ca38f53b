-- Which rules an event can break, and which events can reach a limit, by the kind of the event. Each event has a row.
-- Source: project's own choice.
use Rattle.std.specs.Prelude.{Bool, true, false, List, [], ◌∷◌, ◌++◌}
use Rattle.bbm_rules.specs.Prelude.{Event, Init, Null, Root, Unroot, Write, Dsb, Dmb, Isb, Tlbi, Msr, Lock, Unlock}
use Rattle.bbm_rules.specs.declared.rule.Rule.{Rule}
use Rattle.bbm_rules.specs.declared.rule.Rule.TheVariants.{WrongWorld, NoLock, NullWritten, BreakBeforeMake, LimboMake}
use Rattle.bbm_rules.specs.declared.rule.Rule.TheVariants.{NotFresh, RewrittenFresh, BadKind, GlobalUser, PageInUse}
use Rattle.bbm_rules.specs.declared.rule.Rule.TheVariants.{NoRoot, TagConflict, RootInUse, UnsyncedVmid, BadOperand}
use Rattle.bbm_rules.specs.declared.rule.Rule.TheVariants.{LockBusy, LockNotMine, TableMapped}

-- the rules that an event can break, in the order of their numbers: those before the one on table pages, and that one,
-- which a write and a `root` alone can break
abbrev pub earlier_rules : Event → List Rule
earlier_rules (Init pe page) = PageInUse ∷ []
earlier_rules (Null pe page) = WrongWorld ∷ PageInUse ∷ []
earlier_rules (Root pe kind lock page) = WrongWorld ∷ NotFresh ∷ BadKind ∷ GlobalUser ∷ PageInUse ∷ []
earlier_rules (Unroot pe page) = NoLock ∷ NoRoot ∷ RootInUse ∷ []
earlier_rules (Write pe place value) =
    NoLock ∷ NullWritten ∷ BreakBeforeMake ∷ LimboMake ∷ NotFresh ∷ RewrittenFresh ∷ BadKind ∷ GlobalUser ∷ []
earlier_rules (Dsb pe dsb) = []
earlier_rules (Dmb pe dsb) = []
earlier_rules (Isb pe) = []
earlier_rules (Tlbi pe op xt) = WrongWorld ∷ UnsyncedVmid ∷ BadOperand ∷ []
earlier_rules (Msr pe reg value) = WrongWorld ∷ NoRoot ∷ TagConflict ∷ []
earlier_rules (Lock pe lock) = LockBusy ∷ []
earlier_rules (Unlock pe lock) = LockNotMine ∷ []

abbrev pub last_rules : Event → List Rule
last_rules (Write pe place value) = TableMapped ∷ []
last_rules (Root pe kind lock page) = TableMapped ∷ []
last_rules _ = []

abbrev pub rules_of : Event → List Rule
rules_of e = earlier_rules e ++ last_rules e

-- whether an event can make a page mapped, or an initialised one clean
abbrev pub may_map : Event → Bool
may_map (Init pe page) = true
may_map (Write pe place value) = true
may_map (Root pe kind lock page) = true
may_map _ = false

-- whether an event can reach a limit
abbrev pub may_reach_limit : Event → Bool
may_reach_limit (Init pe page) = true
may_reach_limit (Null pe page) = false
may_reach_limit (Root pe kind lock page) = true
may_reach_limit (Unroot pe page) = false
may_reach_limit (Write pe place value) = false
may_reach_limit (Dsb pe dsb) = false
may_reach_limit (Dmb pe dsb) = false
may_reach_limit (Isb pe) = false
may_reach_limit (Tlbi pe op xt) = false
may_reach_limit (Msr pe reg value) = true
may_reach_limit (Lock pe lock) = false
may_reach_limit (Unlock pe lock) = false

-- whether an event leaves every tree as it is, whatever came before it
abbrev pub leaves_trees : Event → Bool
leaves_trees (Init pe page) = true
leaves_trees (Null pe page) = true
leaves_trees (Root pe kind lock page) = false
leaves_trees (Unroot pe page) = false
leaves_trees (Write pe place value) = false
leaves_trees (Dsb pe dsb) = false
leaves_trees (Dmb pe dsb) = true
leaves_trees (Isb pe) = true
leaves_trees (Tlbi pe op xt) = true
leaves_trees (Msr pe reg value) = true
leaves_trees (Lock pe lock) = true
leaves_trees (Unlock pe lock) = true
