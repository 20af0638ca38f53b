-- One header in two versions, and the verdict that a log gets. A history is newest first. Source: project's own choice.
use Rattle.std.specs.Prelude.{ℕ, suc, Bool, false, ◌%◌, ◌==◌, List, [], ◌∷◌, length, Option, Some, None}
use Rattle.bbm_rules.specs.Prelude.{Heading, Event, Msr}
use Rattle.bbm_rules.specs.declared.verdict.Verdict.{Verdict}
use Rattle.bbm_rules.specs.declared.verdict.Verdict.TheVariants.{Accepted, Refused}
use Rattle.bbm_rules.specs.Broken.{Breach, broken}
use Rattle.bbm_rules.specs.Claims.{Trust}

-- the header in this version, without `cnp`
abbrev pub in_version : ℕ → Heading → Heading
in_version n heading = record heading { version = n; cnp = false }

-- whether the event is an `msr` of a value with bit 0 set
abbrev pub sets_bit_0 : Event → Bool
sets_bit_0 (Msr pe reg value) = value % 2 == 1
sets_bit_0 _ = false

-- the verdict where the event before position n + 1 breaks this rule or none
abbrev pub verdict_after : ℕ → Option Breach → Verdict → Verdict
verdict_after n None (Accepted events) = Accepted n
verdict_after n (Some breach) (Accepted events) = Refused (suc n) breach.rule breach.at None
verdict_after n breach verdict = verdict

module _ (heading : Heading) (trust : Trust) where
  -- The verdict on a log whose lines are well formed and reach no limit, newest event first: the first event that
  -- breaks a rule decides. The header is line 1, so the event of position i stands on line i + 1. Events have no labels
  -- here.
  abbrev pub verdict_of : List Event → Verdict
  verdict_of [] = Accepted 0
  verdict_of (e ∷ h) = verdict_after (suc (length h)) (broken heading trust h e) (verdict_of h)
