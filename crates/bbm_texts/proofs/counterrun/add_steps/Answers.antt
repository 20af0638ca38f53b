use Rattle.bbm_texts.proofs.Common.{step_line, step_lines, ended, Buffered, Pours, Step}
use Rattle.bbm_rules.proofs.Common.{◌≡◌, ◌+◌, ◌<◌, ◌++◌, ℕ, List, Err, get_or, length, take, arith, subst, sym, ap, ◌∙◌}
use Rattle.bbm_rules.proofs.Common.{append_assoc, take_all}
use Rattle.bbm_texts.proofs.ConflictRuns.{lines-cut, lines-more}
use Rattle.bbm_texts.proofs.counterrun.add_steps.Goals as goal

-- the text with one step more
longer : (text : List ℕ) (steps : List Step) (i : ℕ) (s : Step) → i < length steps → s ≡ get_or steps i s
    → (text ++ step_lines (take i steps)) ++ ended (step_line s) ≡ text ++ step_lines (take (i + 1) steps)
longer text steps i s below is =
    ap (λ (x : Step). (text ++ step_lines (take i steps)) ++ ended (step_line x)) is
    ∙ append_assoc text (step_lines (take i steps)) (ended (step_line (get_or steps i s))) ∙ ap (λ (t : List ℕ). text ++ t) (sym (lines-more steps i s below))

pub steps-preserved : goal.steps-preserved
steps-preserved g c = record {
  within = omega (arith, c.steps-test.true);
  poured = λ text start faults buffered.
      subst (λ (t : List ℕ). Buffered t c.add_step.new.buffer.items start (g.K.Sink.held c.add_step.new.out) faults (g.K.Sink.faults c.add_step.new.out))
      (longer text c.args.steps.now c.steps.i c.index-steps-i.result (omega (arith, c.steps-test.true)) c.index-steps-i.is)
      (c.in-Ok.ensures.poured (text ++ step_lines (take c.steps.i c.args.steps.now)) start faults (c.steps.invariant.poured text start faults buffered));
}

pub returns-in-Err : goal.returns-in-Err
returns-in-Err g c = record {
  poured = λ text start faults buffered.
      lines-cut text c.args.steps.now c.steps.i c.index-steps-i.result c.in-Err.failed c.add_step.new.buffer.items start (g.K.Sink.held c.add_step.new.out) faults (g.K.Sink.faults c.add_step.new.out)
      (omega (arith, c.steps-test.true))
      (subst (λ (s : Step). Pours ((text ++ step_lines (take c.steps.i c.args.steps.now)) ++ ended (step_line s)) (Err c.in-Err.failed) c.add_step.new.buffer.items start (g.K.Sink.held c.add_step.new.out) faults (g.K.Sink.faults c.add_step.new.out)) c.index-steps-i.is
      (c.in-Err.ensures.poured (text ++ step_lines (take c.steps.i c.args.steps.now)) start faults (c.steps.invariant.poured text start faults buffered)));
}

pub returns : goal.returns
returns g c =
    let all : take c.steps.i c.args.steps.now ≡ c.args.steps.now = take_all c.steps.i c.args.steps.now (omega (arith, c.steps-test.false)) in
    record {
      poured = λ text start faults buffered.
          subst (λ (ss : List Step). Buffered (text ++ step_lines ss) c.steps.buffer.items start (g.K.Sink.held c.steps.out) faults (g.K.Sink.faults c.steps.out)) all
          (c.steps.invariant.poured text start faults buffered);
    }
