-- The lines that stand beside that of a verdict, each with its newline.
-- Source: project's own choice.
use Rattle.std.specs.Prelude.{ℕ, List, ◌++◌, Option, Some, None, codes, decimal}
use Rattle.bbm_events.specs.Spelling.{hex}
use Rattle.bbm_descriptor.specs.declared.walk.Walk.{Walk}
use Rattle.bbm_descriptor.specs.declared.walk.Walk.TheVariants.{Out, Fault}
use Rattle.bbm_rules.specs.declared.phase.Phase.{Phase}
use Rattle.bbm_rules.specs.declared.phase.Phase.TheVariants.{Clean, Live, Broken, Seen, Half, Cleansed}
use Rattle.bbm_rules.specs.declared.rule.Rule.{Rule}
use Rattle.bbm_rules.specs.Texts.{rule_text}

-- a phase's name
abbrev pub phase_word : Phase → List ℕ
phase_word Clean = codes "clean"
phase_word Live = codes "live"
phase_word Broken = codes "broken"
phase_word Seen = codes "seen"
phase_word Half = codes "half"
phase_word Cleansed = codes "cleansed"

-- the line of a PE and of a phase there
unfoldable pub phase_text : ℕ → Phase → List ℕ
phase_text pe phase = codes "pe " ++ decimal pe ++ codes " " ++ phase_word phase ++ codes "\n"

-- the line that names the line of an event which a log can do without
unfoldable pub idle_text : ℕ → List ℕ
idle_text line = codes "idle line " ++ decimal line ++ codes "\n"

-- the line of a log that keeps the rules by the claims of its certificate: how many events and claims there are
unfoldable pub verified_text : ℕ → ℕ → List ℕ
verified_text events claims =
    codes "verified " ++ decimal events ++ codes " events " ++ decimal claims ++ codes " claims\n"

-- the line of a log that doesn't: the line of the first event that breaks a rule, the rule, and what it reports
unfoldable pub unverified_text : ℕ → Rule → ℕ → List ℕ
unverified_text line rule at =
    codes "unverified line " ++ decimal line ++ codes " rule " ++ rule_text rule ++ codes " at " ++ hex at ++ codes "\n"

-- the line of a walk's answer
unfoldable pub walk_text : Walk → List ℕ
walk_text (Out addr level) = codes "walk out " ++ hex addr ++ codes " level " ++ decimal level ++ codes "\n"
walk_text (Fault level) = codes "walk fault level " ++ decimal level ++ codes "\n"

-- the same where there may be no root to walk from
unfoldable pub found_text : Option Walk → List ℕ
found_text None = codes "walk no-root\n"
found_text (Some walk) = walk_text walk
