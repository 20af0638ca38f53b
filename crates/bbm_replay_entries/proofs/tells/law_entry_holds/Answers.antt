use Rattle.bbm_rules.proofs.Common.{◌≡◌, ℕ, refl, ap, ◌∙◌, sym, option_and_then, Option, Some, None, core_of, desc_of}
use Rattle.bbm_rules.proofs.Common.{desc_with, Core, Desc, Kind, next_in, next_of, arith}
use Rattle.bbm_descriptor.specs.Descriptor.{core_in as core_of_desc}
use Rattle.bbm_replay_entries.specs.EntryStands.{held_now}
use Rattle.bbm_replay_entries.proofs.Places.{holds_core, present_core}
use Rattle.bbm_replay_entries.proofs.tells.law_entry_holds.Goals as goal

fields : (desc : Desc) (core : Core) → core_of_desc desc ≡ Some core → desc ≡ desc_with core
fields desc core e = grind arith

-- the next page by the core of a descriptor
abbrev by_core : Option Core → Option ℕ
by_core o = option_and_then (λ core. next_in (desc_with core)) o

next_fields : (desc : Desc) → next_in desc ≡ by_core (core_of_desc desc)
next_fields desc = grind arith

next_held : (kind : Kind) (level : ℕ) (o : Option ℕ) → option_and_then (next_of kind level) o ≡ by_core (option_and_then (core_of kind level) o)
next_held kind level None = refl
next_held kind level (Some value) = next_fields (desc_of kind level value)

pub returns : goal.returns
returns c heading = let k = c.known.ensures heading in record {
  holds = λ h kind level place state pends s. holds_core heading k kind level place h state pends s;
  descriptor = λ h kind level place value core state pends s holds is.
      fields (desc_of kind level value) core
      (sym (ap (option_and_then (core_of kind level)) holds) ∙ (sym s.core ∙ is));
  next = λ h kind level place state pends s.
      next_held kind level (held_now heading h kind level place) ∙ sym (ap by_core s.core);
  present = λ h kind level place state pends pes s unbroken.
      present_core heading k kind level place h state pends pes s unbroken;
}
