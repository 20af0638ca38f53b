-- The first broken rule, one rule after another, and the answers that tell it.
use Rattle.bbm_rules.proofs.Common.{◌≡◌, ℕ, ◌+◌, ◌<◌, ◌∷◌, [], List, Option, Some, None, Result, Ok, Err, length, drop}
use Rattle.bbm_rules.proofs.Common.{get_or, refl, option_map_or, Which, Heading, Event, Answers, Breach, breaks}
use Rattle.bbm_rules.proofs.Common.{first_broken, Trust, Noted}
use Rattle.bbm_rules.specs.declared.rule.Rule.{Rule}
use Rattle.bbm_rules.specs.declared.step_fault.StepFault.{StepFault}
use Rattle.bbm_rules.specs.declared.step_fault.StepFault.TheVariants.{Broken, Limit, NoMemory}
use Rattle.bbm_judge.specs.Judges.{Judges, Reaches}
use Rattle.bbm_judge.proofs.Lists.{dropped_less}

abbrev pub or_else : Option Breach → Option Breach → Option Breach
or_else None other = other
or_else (Some breach) other = Some breach

one_more : (rule : Rule) (at : Option ℕ) (rest : Option Breach)
    → option_map_or (λ n. Some (record { rule = rule; at = n })) at rest
    ≡ or_else (option_map_or (λ n. Some (record { rule = rule; at = n })) at None) rest
one_more rule None rest = refl
one_more rule (Some n) rest = refl

-- the first broken rule from an index on
pub first_at : (heading : Heading) (trust : Trust) (h : List Noted) (e : Event) (rules : List Rule) (i : ℕ) (d : Rule) → i < length rules
    → first_broken heading trust h e (drop i rules)
    ≡ or_else (first_broken heading trust h e (get_or rules i d ∷ [])) (first_broken heading trust h e (drop (i + 1) rules))
first_at heading trust h e rules i d lt =
    rw (dropped_less rules i d lt)
    (one_more (get_or rules i d) (breaks heading trust h e (get_or rules i d)) (first_broken heading trust h e (drop (i + 1) rules)))

-- a fault by the first rule is one by all of them
pub judges_first : (fault : StepFault) (first rest : Option Breach) → Judges (Err fault) first
    → Judges (Err fault) (or_else first rest)
judges_first (Broken rule at) first rest e = rw e refl
judges_first (Limit which) first rest e = absurd e
judges_first NoMemory first rest e = tt

pub answers_broken : (fault : StepFault) (breach : Option Breach) (limit : Option Which) → Judges (Err fault) breach
    → Answers (Err fault) breach limit
answers_broken (Broken rule at) breach limit e = e
answers_broken (Limit which) breach limit e = absurd e
answers_broken NoMemory breach limit e = tt

pub answers_limit : (result : Result (Unit {0}) StepFault) (breach : Option Breach) (limit : Option Which) → breach ≡ None
    → Reaches result limit → Answers result breach limit
answers_limit (Ok done) breach limit none e = (none, e)
answers_limit (Err (Broken rule at)) breach limit none e = absurd e
answers_limit (Err (Limit which)) breach limit none e = (none, e)
answers_limit (Err NoMemory) breach limit none e = tt
