-- The statuses of what the program says.
-- Source: project's own choice.
use Rattle.std.specs.Prelude.{ℕ}
use Rattle.bbm_cert.specs.declared.judged.Judged.{Judged}
use Rattle.bbm_cert.specs.declared.judged.Judged.TheVariants.{Yes, No}
use Rattle.bbm_follow.specs.declared.followed.Followed.{Followed}
use Rattle.bbm_follow.specs.declared.followed.Followed.TheVariants.{Run, BadStep}
use Rattle.bbm_rules.specs.declared.verdict.Verdict.{Verdict}
use Rattle.bbm_rules.specs.declared.verdict.Verdict.TheVariants.{Accepted, Refused, Malformed, Limit}
use Rattle.bbm_texts.specs.declared.status.Status.{Status}
use Rattle.bbm_texts.specs.declared.status.Status.TheVariants as status

-- the status of a verdict
abbrev pub status_of : Verdict → Status
status_of (Accepted events) = status.Accepted
status_of (Refused line rule at label) = status.Refused
status_of (Malformed line cause) = status.Malformed
status_of (Limit line which) = status.Limit

-- the status of a run that was read whole: a step that is none is told as a refusal
abbrev pub followed_status : Followed → Status
followed_status (Run steps conflict) = status.Accepted
followed_status (BadStep line) = status.Refused

-- the status of a log that was judged by its certificate: one that doesn't keep the rules by it is told as a refusal
abbrev pub judged_status : Judged → Status
judged_status Yes = status.Accepted
judged_status (No position rule at) = status.Refused

-- the number of a status, with which the program ends
abbrev pub number_of : Status → ℕ
number_of status.Accepted = 0
number_of status.Refused = 1
number_of status.Malformed = 2
number_of status.Usage = 3
number_of status.ReadFault = 4
number_of status.WriteFault = 5
number_of status.NoMemory = 6
number_of status.Limit = 7
