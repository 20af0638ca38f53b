-- Why a checker doesn't take an event, by why the index of the trees refuses a call. Source: project's own choice.
use Rattle.bbm_rules.specs.declared.rule.Rule.TheVariants as rule
use Rattle.bbm_rules.specs.declared.step_fault.StepFault.{StepFault}
use Rattle.bbm_rules.specs.declared.step_fault.StepFault.TheVariants as step
use Rattle.bbm_tree_index.specs.declared.fault.TreeFault.{TreeFault}
use Rattle.bbm_tree_index.specs.declared.fault.TreeFault.TheVariants.{NoMemory, Limit, NotFresh, BadKind, GlobalUser}

abbrev pub step_fault : TreeFault → StepFault
step_fault NoMemory = step.NoMemory
step_fault (Limit which) = step.Limit which
step_fault (NotFresh page) = step.Broken rule.NotFresh page
step_fault (BadKind place) = step.Broken rule.BadKind place
step_fault (GlobalUser place) = step.Broken rule.GlobalUser place
