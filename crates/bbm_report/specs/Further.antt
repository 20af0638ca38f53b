-- What `explain` and `walk` say behind the line of the verdict. A history is newest first.
-- Source: project's own choice.
use Rattle.std.specs.Prelude.{◌≡◌, ℕ, zero, suc, true, false, List, [], ◌∷◌, ◌++◌, Option, Some, None}
use Rattle.std.specs.Result.{result_ok}
use Rattle.bbm_regimes.specs.declared.regime.World.{World}
use Rattle.bbm_regimes.specs.declared.regime.Kind.{Kind}
use Rattle.bbm_regimes.specs.declared.regime.Kind.TheVariants.{El2, S2, Ttbr0, Ttbr1}
use Rattle.bbm_regimes.specs.World.{page_count, start_of}
use Rattle.bbm_descriptor.specs.Listing.{WalkRoot, IsAnswer}
use Rattle.bbm_descriptor.specs.declared.walk.Walk.{Walk}
use Rattle.bbm_walk_s1.specs.InputRanges.{stage1_root}
use Rattle.bbm_walk_s2.specs.Joined.{stage2_root}
use Rattle.bbm_events.specs.Heading.{Heading}
use Rattle.bbm_events.specs.Lines.{header_of}
use Rattle.bbm_events.specs.declared.event.Event.{Event}
use Rattle.bbm_rules.specs.declared.rule.Rule.{Rule}
use Rattle.bbm_rules.specs.declared.rule.Rule.TheVariants.{BreakBeforeMake}
use Rattle.bbm_rules.specs.declared.verdict.Verdict.{Verdict}
use Rattle.bbm_rules.specs.declared.verdict.Verdict.TheVariants.{Accepted, Refused}
use Rattle.bbm_rules.specs.Claims.{Patterns}
use Rattle.bbm_rules.specs.Phases.{phase_of}
use Rattle.bbm_rules.specs.Roots.{is_root}
use Rattle.bbm_rules.specs.Values.{value_of}
use Rattle.bbm_report.specs.ReportLines.{found_text, phase_text}
use Rattle.bbm_report.specs.declared.questions.Question.{Question}

-- What a walk of a root of a kind begins with, in a world. The range of TTBR1 tables is the high one, and stage 2 roots
-- have joined pages. Source: Arm ARM (DDI 0487), "VMSAv8-64 translation table walks".
abbrev pub root_of : World → Kind → ℕ → WalkRoot
root_of world El2 page = stage1_root (start_of world El2) false page
root_of world S2 page = stage2_root (start_of world S2) (page_count world S2) page
root_of world Ttbr0 page = stage1_root (start_of world Ttbr0) false page
root_of world Ttbr1 page = stage1_root (start_of world Ttbr1) true page

module _ (heading : Heading) (h : List Event) where
  -- how far a place has come at each PE below a number, in the order of the PEs: a line each
  abbrev pub phase_lines : ℕ → ℕ → List ℕ
  phase_lines place zero = []
  phase_lines place (suc p) = phase_lines place p ++ phase_text p (phase_of heading Patterns h place p)

  -- Explained: where the rule that is broken is break-before-make, the lines of the place at each PE of the header.
  abbrev pub lines_of_rule : Rule → ℕ → List ℕ
  lines_of_rule BreakBeforeMake at = phase_lines at heading.pes
  lines_of_rule _ at = []

  abbrev pub explained : Verdict → List ℕ
  explained (Refused line rule at label) = lines_of_rule rule at
  explained _ = []

  -- Found: none where the page isn't the first page of a declared root of the kind. Else the answer of a walk of that
  -- root for the address, by the value that each place has.
  abbrev pub Found : Question → Option Walk → Type 0
  Found q None = is_root h q.kind q.root ≡ false
  Found q (Some answer) =
      (is_root h q.kind q.root ≡ true) × IsAnswer (value_of h) (root_of heading.world q.kind q.root) q.addr answer

  -- Walked: behind an accepted log the line of what is found, else nothing.
  abbrev pub Walked : Question → Verdict → List ℕ → Type 0
  Walked q (Accepted events) text = (found : Option Walk) × Found q found × (text ≡ found_text found)
  Walked q _ text = text ≡ []

-- ---- over the bytes of a log

-- the heading that the first line of a text says
abbrev pub heading_in : List (List ℕ) → Option Heading
heading_in [] = None
heading_in (line ∷ lines) = result_ok (header_of line)
