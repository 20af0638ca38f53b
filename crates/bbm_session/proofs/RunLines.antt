-- The reader that keeps the steps of a run: its parts, its lines, and which bytes are read for what is said.
use Rattle.bbm_session.proofs.Common.{Heading, Step, Stop, Turn, Reader, IsStart, IsInside, IsEnd, Follows, run_reader}
use Rattle.bbm_session.proofs.Common.{ReadAs, RunReadFor, MayTakeLine, FoldsLine}
use Rattle.bbm_rules.proofs.Common.{◌≡◌, ℕ, ◌<◌, ◌≤◌, ◌+◌, List, [], length, reverse, Option, Some, None, refl, ap}
use Rattle.bbm_rules.proofs.Common.{sym, ◌∙◌, arith, subst, nat_le, Result, Ok, Err, ◌==◌}
use Rattle.bbm_rules.proofs.Common.{length-reverse, Item, MachineLine, Text, Turned, text_of}
use Rattle.bbm_events.specs.declared.event.Item.TheVariants as item
use Rattle.bbm_events.specs.declared.malformed.Malformed.{Malformed as Cause}
use Rattle.bbm_events.specs.Lines.{header_of, item_of}
use Rattle.bbm_events.specs.Machine.{machine_of}
use Rattle.bbm_log_grammar.specs.declared.turn.LineFault.{LineFault}
use Rattle.bbm_log_grammar.specs.declared.turn.LineFault.TheVariants as fault
use Rattle.bbm_log_grammar.specs.declared.turn.Turn.TheVariants as turn
use Rattle.bbm_follow.specs.Following.{Reached, AtHeader, AtSteps, AtEnd, after_step, after_item, after_machine}
use Rattle.bbm_follow.specs.Following.{is_machine, after_line, RunSays, Stopped, Whole, following}
use Rattle.bbm_follow.specs.Following.{run_of, step_limit, event_count}
use Rattle.bbm_follow.specs.Following as run
use Rattle.bbm_session.specs.Readers.{Turns}
use Rattle.bbm_rules.proofs.AcceptedLogs.{named_line}
use Rattle.bbm_session.proofs.Judgements.{read_for}
use Rattle.bbm_session.proofs.ReadBytes.{ByName, read-by}
use Rattle.bbm_rules.proofs.Folds.{Named, NamedTurn, named_header, named_if}

-- ---- the parts of a run

pub following-start : IsStart run_reader AtHeader (λ heading. AtSteps heading [])
unfolding following
following-start = record { line = λ l. refl; long = refl; cut = λ rest. refl }

pub following-inside : (heading : Heading) (steps : List Step) → IsInside run_reader (AtSteps heading steps)
unfolding following
following-inside heading steps = record { long = λ n. refl; cut = λ n rest. refl }

following-end : (heading : Heading) (steps : List Step) → IsEnd run_reader (AtSteps heading steps) (AtEnd heading steps)
unfolding following
following-end heading steps =
    record { line = λ n l. refl; long = λ n. refl; nothing = λ n. refl; more = λ n b rest. refl }

-- ---- a line

module _ (heading : Heading) (kept kept' : List Step) (n : ℕ) (line : List ℕ) where
  abbrev At : Result Turn Stop → Type 0
  At r = FoldsLine run_reader (Follows kept' run_reader heading) n (AtSteps heading (reverse kept)) line r

  followed-at : (t : Result Turn LineFault) (r : Result Turn Stop) → Turns n t r → n ≡ length kept + 2 → length kept ≤ 2000
      → length kept' ≤ 2000 → (t ≡ Ok turn.Taken → length kept' ≡ length kept + 1)
      → run.TakesLine n heading (reverse kept) (reverse kept') t (after_line n (AtSteps heading (reverse kept)) line) → At r
  unfolding following
  followed-at (Ok turn.Taken) r turns number few few' more says =
      subst At (sym turns) (
        AtSteps heading (reverse kept'),
        says,
        following-inside heading (reverse kept'),
        record { reader_is = refl; is = refl; number = omega (arith, more refl, number); few = few' },
      )
  followed-at (Ok turn.End) r turns number few few' more says =
      let same : length kept' ≡ length kept = sym (length-reverse kept') ∙ ap length says.1 ∙ length-reverse kept in
      subst At (sym turns) (
        AtEnd heading (reverse kept),
        says.0,
        following-end heading (reverse kept),
        record { reader_is = refl; is = ap (AtSteps heading) (sym says.1); number = omega (arith, same, number); few = few' },
      )
  followed-at (Err (fault.Malformed cause)) r turns number few few' more says = subst At (sym turns) (says, tt)
  followed-at (Err (fault.Limit which)) r turns number few few' more says = subst At (sym turns) (says, tt)
  followed-at (Err fault.NoMemory) r turns number few few' more says = subst At (sym turns) says

pub followed-takes : (heading : Heading) (kept kept' : List Step) (reader : Reader Reached RunSays) (p : Reached) (n : ℕ) (line : List ℕ) (t : Result Turn LineFault) (r : Result Turn Stop)
    → Turns n t r → Follows kept reader heading p n → (length kept ≤ 2000 → length kept' ≤ 2000) → (t ≡ Ok turn.Taken → length kept' ≡ length kept + 1)
    → run.TakesLine n heading (reverse kept) (reverse kept') t (after_line n (AtSteps heading (reverse kept)) line)
    → FoldsLine reader (Follows kept' reader heading) n p line r
followed-takes heading kept kept' reader p n line t r turns follows short more says =
    let at = followed-at heading kept kept' n line t r turns follows.number follows.few (short follows.few) more says in
    subst (λ (x : Reader Reached RunSays). FoldsLine x (Follows kept' x heading) n p line r) (sym follows.reader_is)
    (subst (λ (q : Reached). FoldsLine run_reader (Follows kept' run_reader heading) n q line r) (sym follows.is) at)

-- no line was taken yet
pub follows-none : (heading : Heading) (kept : List Step) → kept ≡ [] → Follows kept run_reader heading (AtSteps heading []) 2
follows-none heading kept none =
    subst (λ (k : List Step). Follows k run_reader heading (AtSteps heading []) 2) (sym none)
    (record { reader_is = refl; is = refl; number = omega arith; few = omega arith })

pub followed-few : (heading : Heading) (kept : List Step) (n : ℕ) → MayTakeLine (Follows kept) heading n → n < 4294967295
followed-few heading kept n at = omega (arith, at.2.number, at.2.few)

-- ---- the line that is named

abbrev named_run : RunSays → Option ℕ
named_run (Stopped verdict) = named_line verdict
named_run (Whole heading steps) = None

abbrev Names : ℕ → Turned Reached RunSays → Type 0
Names n t = NamedTurn named_run n t

names_step : (n : ℕ) (heading : Heading) (steps : List Step) (s : Step) → Names n (after_step n heading steps s)
names_step n heading steps s = named_if named_run n (nat_le step_limit (length steps)) _ _ refl tt

names_item : (n : ℕ) (heading : Heading) (steps : List Step) (r : Result Item Cause)
    → Names n (after_item n heading steps r)
names_item n heading steps (Ok (item.Event e label)) = names_step n heading steps _
names_item n heading steps (Ok (item.End count)) = named_if named_run n (count == event_count steps) _ _ tt refl
names_item n heading steps (Err cause) = refl

names_machine : (n : ℕ) (heading : Heading) (steps : List Step) (r : Result MachineLine Cause)
    → Names n (after_machine n heading steps r)
names_machine n heading steps (Ok line) = names_step n heading steps _
names_machine n heading steps (Err cause) = refl

following-named : Named following named_run
unfolding following
following-named = record {
  line = λ n p line. elim p as (λ q. Names n (after_line n q line)) [
    | AtHeader ↦ named_header named_run n (λ heading. AtSteps heading []) Stopped (header_of line) (λ cause. refl)
    | AtSteps heading steps ↦ named_if named_run n (is_machine line) _ _
        (names_machine n heading steps (machine_of heading line)) (names_item n heading steps (item_of heading line))
    | AtEnd heading steps ↦ refl
  ];
  long = λ n p. grind arith;
  cut = λ n p rest. grind arith;
}

run_read_for : (says : RunSays) (read : Text) (unread : List ℕ) → ByName 1 (named_run says) read unread
    → RunReadFor says read unread
run_read_for (Stopped verdict) read unread f = read_for verdict read unread f
run_read_for (Whole heading steps) read unread f = f

-- what is left unread, where the rest was read
pub run-read-to : (bytes : List ℕ) (left : Option (List ℕ)) → left ≡ Some (run_of bytes).unread
    → ReadAs (RunReadFor (run_of bytes).says) bytes left
run-read-to bytes left is =
    let o = run_of bytes in
    let k = read-by following named_run following-named AtHeader bytes in
    (k.0, o.unread, k.1, is, run_read_for o.says (text_of k.0) o.unread k.2)
