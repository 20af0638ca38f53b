-- The TLBIs of a log that a DSB answers, as the search keeps them. A history is newest first.
-- No public contract cites these words.
use Rattle.std.specs.Prelude.{◌≡◌, ℕ, Bool, ◌&&◌, nat_le, nat_lt, List}
use Rattle.bbm_rules.specs.Lists.{any}
use Rattle.bbm_rules.specs.Prelude.{Heading, Event}
use Rattle.bbm_tlb_machine.specs.Entry.{Entry}
use Rattle.bbm_tlb_machine.specs.MachinePendings.{Pending, must_leave}
use Rattle.bbm_counterrun.specs.Tested.{is_forbidden}

-- a TLBI, and how many events came before the DSB that answers it
pub record Answer : Type 0 where
  pub tlbi : Pending
  pub before : ℕ

abbrev pub answer_at : ℕ → Pending → Answer
answer_at before tlbi = record { tlbi = tlbi; before = before }

-- whether it must have taken the entry, and is answered from this moment on and before that one
abbrev pub forbids_by : Heading → ℕ → ℕ → Entry → Answer → Bool
forbids_by heading from to x a = nat_le from a.before && nat_lt a.before to && must_leave heading a.tlbi x

-- They are those of the history: what they forbid is what its events forbid.
abbrev pub IsAnswers : Heading → List Event → List Answer → Type 0
IsAnswers heading h answers =
    (from to : ℕ) (x : Entry) → any (forbids_by heading from to x) answers ≡ is_forbidden heading from to x h
