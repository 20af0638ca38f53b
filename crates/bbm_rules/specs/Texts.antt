-- The text of a verdict: one line, with its newline.
-- Source: project's own choice.
use Rattle.std.specs.Option.{option_map_or}
use Rattle.std.specs.Prelude.{ℕ, List, [], ◌++◌, Option, codes, decimal}
use Rattle.bbm_regimes.specs.declared.regime.Which.{Which}
use Rattle.bbm_regimes.specs.declared.regime.Which.TheVariants.{LineBytes, Pages, Roots, Values, Events, Steps, Lines}
use Rattle.bbm_regimes.specs.declared.regime.Which.TheVariants.{Claims}
use Rattle.bbm_events.specs.declared.malformed.Malformed.{Malformed as Cause}
use Rattle.bbm_events.specs.declared.malformed.Malformed.TheVariants.{NoMagic, BadHeader, UnknownWord, BadNumber}
use Rattle.bbm_events.specs.declared.malformed.Malformed.TheVariants.{BadPe, BadAddress, MissingField, ExtraField}
use Rattle.bbm_events.specs.declared.malformed.Malformed.TheVariants.{NoEnd, WrongCount, AfterEnd, BadLabel}
use Rattle.bbm_events.specs.Spelling.{hex}
use Rattle.bbm_rules.specs.declared.rule.Rule.{Rule}
use Rattle.bbm_rules.specs.declared.rule.Rule.TheVariants.{WrongWorld, NoLock, NullWritten, BreakBeforeMake, LimboMake}
use Rattle.bbm_rules.specs.declared.rule.Rule.TheVariants.{NotFresh, RewrittenFresh, BadKind, GlobalUser, PageInUse}
use Rattle.bbm_rules.specs.declared.rule.Rule.TheVariants.{NoRoot, TagConflict, RootInUse, UnsyncedVmid, BadOperand}
use Rattle.bbm_rules.specs.declared.rule.Rule.TheVariants.{LockBusy, LockNotMine, TableMapped}
use Rattle.bbm_rules.specs.declared.verdict.Verdict.{Verdict}
use Rattle.bbm_rules.specs.declared.verdict.Verdict.TheVariants.{Accepted, Refused, Malformed, Limit}

-- a rule's number and name
abbrev pub rule_text : Rule → List ℕ
rule_text WrongWorld = codes "1 wrong-world"
rule_text NoLock = codes "2 no-lock"
rule_text NullWritten = codes "3 null-written"
rule_text BreakBeforeMake = codes "4 break-before-make"
rule_text LimboMake = codes "5 limbo-make"
rule_text NotFresh = codes "6 not-fresh"
rule_text RewrittenFresh = codes "7 rewritten-fresh"
rule_text BadKind = codes "8 bad-kind"
rule_text GlobalUser = codes "9 global-user"
rule_text PageInUse = codes "10 page-in-use"
rule_text NoRoot = codes "11 no-root"
rule_text TagConflict = codes "12 tag-conflict"
rule_text RootInUse = codes "13 root-in-use"
rule_text UnsyncedVmid = codes "14 unsynced-vmid"
rule_text BadOperand = codes "15 bad-operand"
rule_text LockBusy = codes "16 lock-busy"
rule_text LockNotMine = codes "17 lock-not-mine"
rule_text TableMapped = codes "18 table-mapped"

-- a cause's number and name
abbrev pub cause_text : Cause → List ℕ
cause_text NoMagic = codes "1 NoMagic"
cause_text BadHeader = codes "2 BadHeader"
cause_text UnknownWord = codes "3 UnknownWord"
cause_text BadNumber = codes "4 BadNumber"
cause_text BadPe = codes "5 BadPe"
cause_text BadAddress = codes "6 BadAddress"
cause_text MissingField = codes "7 MissingField"
cause_text ExtraField = codes "8 ExtraField"
cause_text NoEnd = codes "9 NoEnd"
cause_text WrongCount = codes "10 WrongCount"
cause_text AfterEnd = codes "11 AfterEnd"
cause_text BadLabel = codes "13 BadLabel"

-- a limit's name
abbrev pub limit_text : Which → List ℕ
limit_text LineBytes = codes "line-bytes"
limit_text Pages = codes "pages"
limit_text Roots = codes "roots"
limit_text Values = codes "values"
limit_text Events = codes "events"
limit_text Steps = codes "steps"
limit_text Lines = codes "lines"
limit_text Claims = codes "claims"

-- a space and the label, behind its `@`, where there is one
abbrev pub label_text : Option (List ℕ) → List ℕ
label_text label = option_map_or (λ text. codes " @" ++ text) label []

-- the line that is printed for a verdict
unfoldable pub verdict_text : Verdict → List ℕ
verdict_text (Accepted events) = codes "accepted " ++ decimal events ++ codes " events\n"
verdict_text (Refused line rule at label) = codes "refused line " ++ decimal line ++ codes " rule " ++ rule_text rule
    ++ codes " at " ++ hex at ++ label_text label ++ codes "\n"
verdict_text (Malformed line cause) =
    codes "malformed line " ++ decimal line ++ codes " cause " ++ cause_text cause ++ codes "\n"
verdict_text (Limit line which) = codes "limit line " ++ decimal line ++ codes " " ++ limit_text which ++ codes "\n"
