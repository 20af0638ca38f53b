-- Texts that are written one behind the other.
use Rattle.bbm_texts.proofs.Common.{Failed, Heading, Rule, WrongWorld, NoLock, NullWritten, BreakBeforeMake, LimboMake}
use Rattle.bbm_texts.proofs.Common.{NotFresh, RewrittenFresh, BadKind, GlobalUser, PageInUse, NoRoot, TagConflict}
use Rattle.bbm_texts.proofs.Common.{RootInUse, UnsyncedVmid, BadOperand, LockBusy, LockNotMine, TableMapped, Verdict}
use Rattle.bbm_texts.proofs.Common.{Accepted}
use Rattle.bbm_texts.proofs.Common.{Refused, Malformed, Limit, Patterns, explained, Command, Show, Counterrun, Cert}
use Rattle.bbm_texts.proofs.Common.{IsOutput, IsOutputUnder, Keeps, Knows, place_named, Part, Puts}
use Rattle.bbm_rules.proofs.Common.{◌≡◌, Bool, true, false, if◌then◌else◌, ℕ, zero, suc, ◌+◌, ◌-◌, ◌<◌, List, [], ◌++◌}
use Rattle.bbm_rules.proofs.Common.{length, take, Option, Some, None, Result, Ok, Err, refl, ap, sym, ◌∙◌, arith}
use Rattle.bbm_rules.proofs.Common.{append_assoc, append-nil, length-append, subst, is_place}
use Rattle.std.proofs.Math.Seq.{take-append-add}
use Rattle.std.proofs.lemmas.List.{take-append-le}
use Rattle.bbm_io.specs.Faults.{Rose}
use Rattle.bbm_io.specs.Flow.{extended}
use Rattle.bbm_events.specs.declared.event.Event.{Event as EventOf}
use Rattle.bbm_rules.specs.Phases.{phase_of}
use Rattle.bbm_rules.specs.Texts.{verdict_text}
use Rattle.bbm_report.specs.Further.{lines_of_rule, phase_lines}
use Rattle.bbm_report.specs.ReportLines.{phase_text}
use Rattle.bbm_texts.specs.declared.commands.Command.TheVariants.{Check, Slow, Explain, Walk}
use Rattle.bbm_texts.specs.declared.commands.Evidence.TheVariants.{Idle}
use Rattle.bbm_texts.specs.Known.{EndsThere}
use Rattle.bbm_texts.specs.Telling.{place_of_rule}

extended-twice : (old : Option (List ℕ)) (a b : List ℕ) → extended (extended old a) b ≡ extended old (a ++ b)
extended-twice None a b = refl
extended-twice (Some held) a b = ap Some (append_assoc held a b)

-- a proper prefix behind a text is one of both together
part-behind : (a b : List ℕ) (old mid new : Option (List ℕ)) → mid ≡ extended old a → Part b mid new → Part (a ++ b) old new
part-behind a b old mid new is part = record {
  count = length a + part.count;
  proper = omega (arith, part.proper, length-append a b);
  added = part.added ∙ ap (λ (o : Option (List ℕ)). extended o (take part.count b)) is
      ∙ extended-twice old a (take part.count b) ∙ ap (extended old) (sym (take-append-add a b part.count));
}

-- and one of a longer text
pub part-longer : (a more : List ℕ) (old new : Option (List ℕ)) → Part a old new → Part (a ++ more) old new
part-longer a more old new part = record {
  count = part.count;
  proper = omega (arith, part.proper, length-append a more);
  added = part.added ∙ ap (extended old) (sym (take-append-le part.count a more (omega (arith, part.proper))));
}

pub puts-then : (a b : List ℕ) (r : Result (Unit {0}) Failed) (old mid new : Option (List ℕ)) (f f' f'' : ℕ)
    → Puts a (Ok tt) old mid f f' → Puts b r mid new f' f'' → Puts (a ++ b) r old new f f''
puts-then a b (Ok u) old mid new f f' f'' first second =
    (second.0 ∙ ap (λ (o : Option (List ℕ)). extended o b) first.0 ∙ extended-twice old a b, second.1 ∙ first.1)
puts-then a b (Err e) old mid new f f' f'' first second =
    (part-behind a b old mid new first.0 second.0, subst (λ (x : ℕ). Rose x f'') first.1 second.1)

pub puts-longer : (a more : List ℕ) (e : Failed) (old new : Option (List ℕ)) (f f' : ℕ)
    → Puts a (Err e) old new f f' → Puts (a ++ more) (Err e) old new f f'
puts-longer a more e old new f f' puts = (part-longer a more old new puts.0, puts.1)

-- nothing was written yet
pub puts-none : (old : Option (List ℕ)) → old ≡ extended old []
puts-none None = refl
puts-none (Some held) = ap Some (sym (append-nil held))

-- the lines of the first PEs begin those of more
more-lines : (heading : Heading) (h : List EventOf) (place n : ℕ) (d : ℕ)
    → (more : List ℕ) × (phase_lines heading h place (d + n) ≡ phase_lines heading h place n ++ more)
more-lines heading h place n zero =
    let count : 0 + n ≡ n = omega arith in
    ([], ap (phase_lines heading h place) count ∙ sym (append-nil (phase_lines heading h place n)))
more-lines heading h place n (suc d) =
    let rest = more-lines heading h place n d in
    let line = phase_text (d + n) (phase_of heading Patterns h place (d + n)) in
    let count : suc d + n ≡ suc (d + n) = omega arith in
    (rest.0 ++ line, ap (phase_lines heading h place) count ∙ ap (λ (t : List ℕ). t ++ line) rest.1 ∙ append_assoc (phase_lines heading h place n) rest.0 line)

-- a line failed after those of the first PEs
pub lines-failed : (heading : Heading) (h : List EventOf) (place n pes : ℕ) (e : Failed) (old mid new : Option (List ℕ)) (f f' f'' : ℕ)
    → n < pes → Puts (phase_lines heading h place n) (Ok tt) old mid f f'
    → Puts (phase_text n (phase_of heading Patterns h place n)) (Err e) mid new f' f''
    → Puts (phase_lines heading h place pes) (Err e) old new f f''
lines-failed heading h place n pes e old mid new f f' f'' below first second =
    let failed = puts-then (phase_lines heading h place n) (phase_text n (phase_of heading Patterns h place n)) (Err e) old mid new f f' f'' first second in
    let d = pes - suc n in
    let rest = more-lines heading h place (suc n) d in
    let count : d + suc n ≡ pes = omega (arith, below) in
    subst (λ (t : List ℕ). Puts t (Err e) old new f f'') (sym rest.1 ∙ ap (phase_lines heading h place) count)
    (puts-longer (phase_lines heading h place (suc n)) rest.0 e old new f f'' failed)

-- The place that a verdict names.

named-so : (test : Bool) (at place : ℕ) → (if test then Some at else None) ≡ Some place → at ≡ place
named-so true at place is = cc
named-so false at place is = cc

named-rule : (heading : Heading) (h : List EventOf) (rule : Rule) (at place : ℕ) → place_of_rule rule at ≡ Some place
    → lines_of_rule heading h rule at ≡ phase_lines heading h place heading.pes
named-rule heading h BreakBeforeMake at place is = ap (λ (p : ℕ). phase_lines heading h p heading.pes) (named-so (is_place at) at place is)
named-rule heading h WrongWorld at place is = cc
named-rule heading h NoLock at place is = cc
named-rule heading h NullWritten at place is = cc
named-rule heading h LimboMake at place is = cc
named-rule heading h NotFresh at place is = cc
named-rule heading h RewrittenFresh at place is = cc
named-rule heading h BadKind at place is = cc
named-rule heading h GlobalUser at place is = cc
named-rule heading h PageInUse at place is = cc
named-rule heading h NoRoot at place is = cc
named-rule heading h TagConflict at place is = cc
named-rule heading h RootInUse at place is = cc
named-rule heading h UnsyncedVmid at place is = cc
named-rule heading h BadOperand at place is = cc
named-rule heading h LockBusy at place is = cc
named-rule heading h LockNotMine at place is = cc
named-rule heading h TableMapped at place is = cc

-- what is explained where a place is named
pub explained-at : (heading : Heading) (h : List EventOf) (v : Verdict) (place : ℕ) → place_named v ≡ Some place
    → explained heading h v ≡ phase_lines heading h place heading.pes
explained-at heading h (Refused line rule at label) place is = named-rule heading h rule at place is
explained-at heading h (Accepted events) place is = cc
explained-at heading h (Malformed line cause) place is = cc
explained-at heading h (Limit line which) place is = cc

-- and the checker stands for the events then
pub knows-keeps : (stands : Heading → List EventOf → Type 0) (heading : Heading) (h : List EventOf) (v : Verdict) (place : ℕ) → place_named v ≡ Some place
    → Knows stands heading h v → Keeps stands heading h
knows-keeps stands heading h (Refused line rule at label) place is knows = knows.0
knows-keeps stands heading h (Accepted events) place is knows = cc
knows-keeps stands heading h (Malformed line cause) place is knows = cc
knows-keeps stands heading h (Limit line which) place is knows = cc

-- a verdict behind which nothing is said
line-alone : (command : Command) (heading : Heading) (h : List EventOf) (refused : Option EventOf) (v : Verdict) → EndsThere v → IsOutputUnder command heading h refused v (verdict_text v)
line-alone command heading h refused (Accepted events) ends = absurd ends
line-alone command heading h refused (Refused line rule at label) ends = absurd ends
line-alone Check heading h refused (Malformed line cause) ends = refl
line-alone Slow heading h refused (Malformed line cause) ends = refl
line-alone Explain heading h refused (Malformed line cause) ends = sym (append-nil (verdict_text (Malformed line cause)))
line-alone (Walk question) heading h refused (Malformed line cause) ends = ([], sym (append-nil (verdict_text (Malformed line cause))), refl)
line-alone (Show Idle) heading h refused (Malformed line cause) ends = sym (append-nil (verdict_text (Malformed line cause)))
line-alone (Show Counterrun) heading h refused (Malformed line cause) ends = refl
line-alone (Show Cert) heading h refused (Malformed line cause) ends = refl
line-alone Check heading h refused (Limit line which) ends = refl
line-alone Slow heading h refused (Limit line which) ends = refl
line-alone Explain heading h refused (Limit line which) ends = sym (append-nil (verdict_text (Limit line which)))
line-alone (Walk question) heading h refused (Limit line which) ends = ([], sym (append-nil (verdict_text (Limit line which))), refl)
line-alone (Show Idle) heading h refused (Limit line which) ends = sym (append-nil (verdict_text (Limit line which)))
line-alone (Show Counterrun) heading h refused (Limit line which) ends = refl
line-alone (Show Cert) heading h refused (Limit line which) ends = refl

pub says-line : (command : Command) (heading : Option Heading) (h : List EventOf) (refused : Option EventOf) (v : Verdict) → EndsThere v → IsOutput command heading h refused v (verdict_text v)
says-line command None h refused v ends = refl
says-line command (Some heading) h refused v ends = line-alone command heading h refused v ends
