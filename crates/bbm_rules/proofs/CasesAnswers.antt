-- Worked cases: what a checker's answer to an event means, and which events ask for no memory.
use Rattle.bbm_rules.proofs.Common.{◌≡◌, ℕ, Bool, true, false, List, [], ◌∷◌, Option, Some, None, Err, refl, ap, sym}
use Rattle.bbm_rules.proofs.Common.{none-some, String, Which, Answers, rewrites, Breach}
use Rattle.bbm_events.specs.declared.event.Event.TheVariants.{Write}
use Rattle.bbm_rules.specs.declared.rule.Rule.{Rule}
use Rattle.bbm_rules.specs.declared.step_fault.StepFault.TheVariants.{Broken, Limit}
use Rattle.bbm_rules.proofs.Judged.{after}

-- An answer names the rule that is broken, and its place.
pub answer_names_the_rule : (rule : Rule) (at : ℕ) (breach : Breach) (limit : Option Which)
    → Answers (Err (Broken rule at)) (Some breach) limit → breach.rule ≡ rule
answer_names_the_rule rule at breach limit a =
    let same : breach ≡ record { rule = rule; at = at } = cc in ap (λ (b : Breach). b.rule) same

pub answer_names_the_place : (rule : Rule) (at : ℕ) (breach : Breach) (limit : Option Which)
    → Answers (Err (Broken rule at)) (Some breach) limit → breach.at ≡ at
answer_names_the_place rule at breach limit a =
    let same : breach ≡ record { rule = rule; at = at } = cc in ap (λ (b : Breach). b.at) same

-- A limit is answered only where no rule is broken.
pub no_limit_where_a_rule_is_broken : (which : Which) (breach : Breach) (limit : Option Which)
    → Answers (Err (Limit which)) (Some breach) limit → ⊥
no_limit_where_a_rule_is_broken which breach limit a = none-some breach (sym a.0)

-- And it is the one that is reached.
pub answer_names_the_limit : (which reached : Which) → Answers (Err (Limit which)) None (Some reached) → reached ≡ which
answer_names_the_limit which reached a = let e : Some reached ≡ Some which = a.1 in cc

-- whether the write rewrites a place after the events of a log
unfoldable pub rewrites_after : List String → ℕ → ℕ → Option Bool
unfolding after
rewrites_after lines place value = after lines (λ heading h. rewrites heading h (Write 0 place value))

abbrev pub tree_page : List String → List String
tree_page lines = "bbmlog 1 hyp 2 1 1 1" ∷ "init 0 0x40000000" ∷ "init 0 0x40001000" ∷ "root 0 el2 - 0x40000000" ∷ lines

-- A place of a page that was just initialised has no room yet.
pub first_write_rewrites_nothing : rewrites_after (tree_page []) 0x40000008 0x0 ≡ Some false
unfolding rewrites_after
first_write_rewrites_nothing = refl

-- A place that was written has.
pub second_write_rewrites : rewrites_after (tree_page ("w 0 0x40000008 0x80000701" ∷ [])) 0x40000008 0x0 ≡ Some true
unfolding rewrites_after
second_write_rewrites = refl

-- An init between takes it away.
pub write_after_an_init_rewrites_nothing :
    rewrites_after ("bbmlog 1 hyp 2 1 1 1" ∷ "init 0 0x40001000" ∷ "w 0 0x40001008 0x80000701" ∷ "init 0 0x40001000" ∷ [])
    0x40001008 0x0 ≡ Some false
unfolding rewrites_after
write_after_an_init_rewrites_nothing = refl

-- An init of another page doesn't.
pub write_after_another_init_rewrites :
    rewrites_after ("bbmlog 1 hyp 2 1 1 1" ∷ "init 0 0x40001000" ∷ "w 0 0x40001008 0x80000701" ∷ "init 0 0x40002000" ∷ [])
    0x40001008 0x0 ≡ Some true
unfolding rewrites_after
write_after_another_init_rewrites = refl

-- A write that attaches a page isn't one.
pub attaching_write_rewrites_nothing : rewrites_after (tree_page ("w 0 0x40000008 0x0" ∷ [])) 0x40000008 0x40001003 ≡ Some false
unfolding rewrites_after
attaching_write_rewrites_nothing = refl
