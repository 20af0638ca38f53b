-- The line of an event that was read at the front of some bytes, and taken.
use Rattle.bbm_session.proofs.Common.{Reader, Heading, Judges, Keeps, Limits, Patterns, FoldsLine, Taken}
use Rattle.std.proofs.Common.{IfSome, refl, subst}
use Rattle.std.specs.Bool.{then_some}
use Rattle.bbm_rules.proofs.Common.{◌≡◌, ℕ, Bool, List, ◌∷◌, Option, Ok, take, true, false, sym, ◌∙◌, arith}
use Rattle.bbm_rules.proofs.Common.{fits_heading, label_fits, and_parts, AtEvents, Progress, Passes, Judged}
use Rattle.bbm_events.specs.declared.event.Event.{Event}
use Rattle.bbm_events.specs.declared.event.Item.TheVariants as item
use Rattle.bbm_io.specs.Reading.{LiesWhole}
use Rattle.bbm_log_grammar.specs.Ahead.{StandsFirst}
use Rattle.bbm_rules.specs.Outcome.{after_event}
use Rattle.bbm_session.proofs.GeneratedLogs.{plain_is}
use Rattle.bbm_session.proofs.Judgements.{judged-takes}
use Rattle.bbm_session.proofs.judging.take_kind.Goals as goal

module _ (heading : Heading) (e : Event) (label : Option (List ℕ)) (count : ℕ) (bytes : List ℕ) where
  whole : StandsFirst heading (item.Event e label) count bytes → LiesWhole count bytes
  whole first = record {
    newline = first.newline;
    no_newline = plain_is (take count bytes) ∙ first.no_newline;
    short = first.short;
    within = first.within;
  }

  takes : (frugal frugal' : Bool) (stands stands' : Heading → List Event → Type 0) (limits limits' : Limits)
      (reader : Reader Progress Judged) (p : Progress) (n : ℕ) → frugal' ≡ frugal → limits' ≡ limits
      → StandsFirst heading (item.Event e label) count bytes
      → ((h : List Event) → Keeps stands heading h → fits_heading heading e ≡ true
      → (after_event Patterns limits n heading h e label ≡ Passes (AtEvents heading (e ∷ h)))
      × Keeps stands' heading (e ∷ h))
      → Judges frugal stands limits reader heading p n
      → FoldsLine reader (Judges frugal' stands' limits' reader heading) n p (take count bytes) (Ok Taken)
  takes frugal frugal' stands stands' limits limits' reader p n same within first taken judges =
      let fits = (and_parts (fits_heading heading e) (label_fits heading.version label) first.fits).0 in
      judged-takes frugal frugal' stands stands' limits limits' heading reader p n (take count bytes)
      (Ok (item.Event e label)) (Ok Taken) same within judges (sym first.is)
      (λ h keeps. let after = taken h keeps fits in (e ∷ h, after.0, after.1, omega arith))

-- what holds of so many bytes where they were taken
told : (r : Option ℕ) (taken : Bool) (count : ℕ) (P : ℕ → Type 0) → r ≡ then_some taken count → (taken ≡ true → P count)
    → IfSome r P
told r true count P is holds = subst (λ (o : Option ℕ). IfSome o P) (sym is) (holds refl)
told r false count P is holds = subst (λ (o : Option ℕ). IfSome o P) (sym is) tt

pub returns-in-Some-clause-takes : goal.returns-in-Some-clause-takes
returns-in-Some-clause-takes g c =
    let before = c.args.judging.now in
    let after = c.take_event.new.judging in
    let header = c.args.header.now in
    let count = c.in-Some.count in
    told _ c.take_event.result count _ c.then_some.ensures (λ is reader p judges.
    takes header c.in-Some.event c.in-Some._label count c.args.bytes.now (g.C.Checker.frugal before.checker)
    (g.C.Checker.frugal after.checker) (g.C.Checker.stands before.checker) (g.C.Checker.stands after.checker)
    before.limits after.limits reader p c.args.number c.take_event.ensures.frugal c.take_event.ensures.limits
    c.in-Some.ensures.line (λ h. c.take_event.ensures.taken is header h c.in-Some._label) judges)

pub returns-in-Some-clause-line : goal.returns-in-Some-clause-line
returns-in-Some-clause-line g c =
    told _ c.take_event.result c.in-Some.count _ c.then_some.ensures
    (λ is. whole c.args.header.now c.in-Some.event c.in-Some._label c.in-Some.count c.args.bytes.now c.in-Some.ensures.line)
