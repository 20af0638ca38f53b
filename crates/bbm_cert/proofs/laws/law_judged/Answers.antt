use Rattle.bbm_cert.proofs.JudgedLaw.{judged_yes, named, no_named, yes_kept}
use Rattle.bbm_cert.proofs.laws.law_judged.Goals as goal

pub returns-clause-yes : goal.returns-clause-yes
returns-clause-yes c heading claims log = judged_yes heading claims log

pub returns-clause-only : goal.returns-clause-only
returns-clause-only c heading claims log = yes_kept heading claims log

pub returns-clause-names : goal.returns-clause-names
returns-clause-names c heading claims log position rule at = named heading claims log position rule at

pub returns-clause-no : goal.returns-clause-no
returns-clause-no c heading claims log position rule at = no_named heading claims log position rule at
