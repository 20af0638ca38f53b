-- The entry that a line makes of an entry that was found.
use Rattle.bbm_rules.proofs.Common.{◌≡◌, ℕ, List, length, Option, Some, None, if_so, Heading, Event, MachineLine}
use Rattle.bbm_rules.proofs.Common.{Extend, Combine, Share}
use Rattle.bbm_tlb_machine.specs.Entry.{Entry}
use Rattle.bbm_tlb_machine.specs.Followed.{entry_made, found}
use Rattle.bbm_tlb_machine.specs.MachineRun.{Living}
use Rattle.bbm_tlb_machine.specs.Step.{combined, extended, is_stage2, may_extend, may_share, shared}

module _ (heading : Heading) (h : List Event) (living : List Living) (line : MachineLine) (n : ℕ) where
  module _ (x : Entry) (made : Option Entry) where
    pub made_extend : (place value : ℕ) → line ≡ Extend n place value → Some x ≡ found living n
        → made ≡ if_so (may_extend heading h x place value) (extended x place value)
        → made ≡ entry_made heading h living line
    made_extend place value is e k = rw (is, ← e) k

    pub made_combine : line ≡ Combine n → Some x ≡ found living n
        → made ≡ if_so (is_stage2 x.kind) (combined (length h) x) → made ≡ entry_made heading h living line
    made_combine is e k = rw (is, ← e) k

    pub made_share : (p : ℕ) → line ≡ Share n p → Some x ≡ found living n
        → made ≡ if_so (may_share heading p) (shared x p) → made ≡ entry_made heading h living line
    made_share p is e k = rw (is, ← e) k

  pub none_extend : (place value : ℕ) → line ≡ Extend n place value → None ≡ found living n
      → None ≡ entry_made heading h living line
  none_extend place value is e = rw (is, ← e)

  pub none_combine : line ≡ Combine n → None ≡ found living n → None ≡ entry_made heading h living line
  none_combine is e = rw (is, ← e)

  pub none_share : (p : ℕ) → line ≡ Share n p → None ≡ found living n → None ≡ entry_made heading h living line
  none_share p is e = rw (is, ← e)

pub ruleset made = (made_extend, made_combine, made_share, none_extend, none_combine, none_share)
