-- The text of a label in a verdict is that behind an event.
use Rattle.bbm_rules.proofs.Common.{◌≡◌, ℕ, List, Option, Some, None, refl}
use Rattle.bbm_log_grammar.specs.Ahead.{label_part}
use Rattle.bbm_rules.specs.Texts.{label_text}

pub label_as_written : (label : Option (List ℕ)) → label_part label ≡ label_text label
label_as_written None = refl
label_as_written (Some label) = refl
