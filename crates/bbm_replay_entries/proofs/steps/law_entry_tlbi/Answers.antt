use Rattle.bbm_rules.proofs.Common.{ℕ, List, refl, sym, ◌∙◌, subst, inl, inr, true≢false, operation, Cover, Patterns}
use Rattle.bbm_rules.proofs.Common.{note, noted, Noted, Event, Tlbi, TlbiOp}
use Rattle.bbm_entry_state.specs.EntryCalls.{Noted as Issues}
use Rattle.bbm_replay_entries.proofs.Marks.{issued_idle, marked_tlbi, marked_uncovered, marked_unreached}
use Rattle.bbm_replay_entries.proofs.Places.{alike_stands}
use Rattle.bbm_replay_entries.proofs.steps.law_entry_tlbi.Goals as goal

pub returns : goal.returns
returns c heading = let k = c.known.ensures heading in record {
  call = λ h kind level place q op xt reach cover state pends pends' pes reached covers issues others s.
      alike_stands heading k kind level place h (Tlbi q op xt) state pends pends' pes refl refl refl s
      (λ broken since m. marked_tlbi heading k place (n h q op xt) since q op xt refl reach state pends pends' broken
      reached (subst (λ (x : Cover). Issues state (pends q) reach (operation op).broadcast x (pends' q)) covers issues)
      others m)
      (λ unbroken. issued_idle state q reach (operation op).broadcast cover pends pends' unbroken issues others
      (s.idle unbroken));
  idle = λ h kind level place q op xt state pends pes why s.
      alike_stands heading k kind level place h (Tlbi q op xt) state pends pends pes refl refl refl s
      (λ broken since m. elim why [
        | inl unbroken ↦ absurd (true≢false (sym broken ∙ unbroken))
        | inr other ↦ elim other [
          | inl unreached ↦
              marked_unreached heading k place (n h q op xt) since q op xt refl state pends unreached m
          | inr none ↦ marked_uncovered heading k place (n h q op xt) since q op xt refl state pends none m
        ]
      ])
      s.idle;
}
  where
    n : List Event → ℕ → TlbiOp → ℕ → Noted
    n h q op xt = note heading Patterns (noted heading Patterns h) (Tlbi q op xt)
