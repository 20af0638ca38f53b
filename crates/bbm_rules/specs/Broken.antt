-- The least rule that an event breaks, and the logs that keep the rules. Source: project's own choice.
use Rattle.std.specs.Option.{option_map_or}
use Rattle.std.specs.Prelude.{ℕ, Bool, true, ◌&&◌, List, [], ◌∷◌, Option, Some, None, is_none}
use Rattle.bbm_rules.specs.Prelude.{Heading, Event}
use Rattle.bbm_rules.specs.declared.rule.Rule.{Rule}
use Rattle.bbm_rules.specs.declared.rule.Rule.TheVariants.{WrongWorld, NoLock, NullWritten, BreakBeforeMake, LimboMake}
use Rattle.bbm_rules.specs.declared.rule.Rule.TheVariants.{NotFresh, RewrittenFresh, BadKind, GlobalUser, PageInUse}
use Rattle.bbm_rules.specs.declared.rule.Rule.TheVariants.{NoRoot, TagConflict, RootInUse, UnsyncedVmid, BadOperand}
use Rattle.bbm_rules.specs.declared.rule.Rule.TheVariants.{LockBusy, LockNotMine, TableMapped}
use Rattle.bbm_rules.specs.Claims.{Trust}
use Rattle.bbm_rules.specs.Covers.{noted}
use Rattle.bbm_rules.specs.Notes.{Noted}
use Rattle.bbm_rules.specs.Rules.{wrong_world, no_lock, null_written, break_before_make, limbo_make, not_fresh}
use Rattle.bbm_rules.specs.Rules.{rewritten_fresh, bad_kind, global_user, page_in_use, no_root, tag_conflict}
use Rattle.bbm_rules.specs.Rules.{root_in_use, unsynced_vmid, bad_operand, lock_busy, lock_not_mine, table_mapped}

-- a broken rule, with the number that is reported with it
pub record Breach : Type 0 where
  pub rule : Rule
  pub at : ℕ

-- the rules in the order of their numbers
abbrev pub rules : List Rule
rules =
    WrongWorld ∷ NoLock ∷ NullWritten ∷ BreakBeforeMake ∷ LimboMake ∷ NotFresh ∷ RewrittenFresh ∷ BadKind ∷ GlobalUser
    ∷ PageInUse ∷ NoRoot ∷ TagConflict ∷ RootInUse ∷ UnsyncedVmid ∷ BadOperand ∷ LockBusy ∷ LockNotMine
    ∷ TableMapped ∷ []

module _ (heading : Heading) (trust : Trust) where
  -- whether the event breaks the rule, after an annotated history
  abbrev pub breaks : List Noted → Event → Rule → Option ℕ
  breaks h e WrongWorld = wrong_world heading trust h e
  breaks h e NoLock = no_lock heading trust h e
  breaks h e NullWritten = null_written heading trust h e
  breaks h e BreakBeforeMake = break_before_make heading trust h e
  breaks h e LimboMake = limbo_make heading trust h e
  breaks h e NotFresh = not_fresh heading trust h e
  breaks h e RewrittenFresh = rewritten_fresh heading trust h e
  breaks h e BadKind = bad_kind heading trust h e
  breaks h e GlobalUser = global_user heading trust h e
  breaks h e PageInUse = page_in_use heading trust h e
  breaks h e NoRoot = no_root heading trust h e
  breaks h e TagConflict = tag_conflict heading trust h e
  breaks h e RootInUse = root_in_use heading trust h e
  breaks h e UnsyncedVmid = unsynced_vmid heading trust h e
  breaks h e BadOperand = bad_operand heading trust h e
  breaks h e LockBusy = lock_busy heading trust h e
  breaks h e LockNotMine = lock_not_mine heading trust h e
  breaks h e TableMapped = table_mapped heading trust h e

  abbrev pub first_broken : List Noted → Event → List Rule → Option Breach
  first_broken h e [] = None
  first_broken h e (rule ∷ rest) =
      option_map_or (λ at. Some (record { rule = rule; at = at })) (breaks h e rule) (first_broken h e rest)

  -- The least rule that the event breaks after the history, or none.
  unfoldable pub broken : List Event → Event → Option Breach
  broken h e = first_broken (noted heading trust h) e rules

  -- A log keeps the rules where each event breaks none after those before it.
  abbrev pub keeps : List Event → Bool
  keeps [] = true
  keeps (e ∷ h) = keeps h && is_none (broken h e)
