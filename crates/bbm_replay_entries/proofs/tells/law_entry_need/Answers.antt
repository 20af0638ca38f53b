use Rattle.bbm_rules.proofs.Common.{refl, ◌≡◌, ℕ, false, Option, option_and_then, ap, sym, ◌∙◌, option_map_or, core_of}
use Rattle.bbm_rules.proofs.Common.{differ, needs, Core, if_so, arith}
use Rattle.bbm_rules.specs.Prelude.{Kind}
use Rattle.bbm_replay_entries.specs.EntryStands.{held_now}
use Rattle.bbm_replay_entries.proofs.tells.law_entry_need.Goals as goal

needs_by : (kind : Kind) (level value : ℕ) (o : Option ℕ) → option_map_or (λ old. needs kind level old value) o false
    ≡ differ (option_and_then (core_of kind level) o) (core_of kind level value)
needs_by kind level value o = grind arith

rule_by : (kind : Kind) (level value place : ℕ) (o : Option ℕ)
    → option_and_then (λ old. if_so (needs kind level old value) place) o
    ≡ if_so (differ (option_and_then (core_of kind level) o) (core_of kind level value)) place
rule_by kind level value place o = grind arith

pub returns : goal.returns
returns c heading = record {
  need = λ h kind level place value state pends s.
      needs_by kind level value (held_now heading h kind level place)
      ∙ ap (λ (o : Option Core). differ o (core_of kind level value)) (sym s.core);
  rule = λ h n pe place value state pends is s.
      rw (is) (rule_by n.kind n.level value place (held_now heading h n.kind n.level place)
      ∙ ap (λ (o : Option Core). if_so (differ o (core_of n.kind n.level value)) place) (sym s.core));
  outside = λ h pe place value is. rw (is) refl;
}
