use Rattle.bbm_texts.proofs.Common.{Failed, End, step_lines, ended, Pours}
use Rattle.bbm_rules.proofs.Common.{◌≡◌, ◌++◌, Result, Err, ap, subst, sym, ◌∙◌, err_from_is_err_and}
use Rattle.bbm_events.specs.Lines.{header_line, item_line}
use Rattle.bbm_texts.specs.Counterruns.{steps_text}
use Rattle.bbm_texts.proofs.Pouring.{pours-longer}
use Rattle.bbm_texts.proofs.counterrun.pour_run.Goals as goal

pub returns-in_err-add_steps : goal.returns-in_err-add_steps
returns-in_err-add_steps g c =
    let e = c.in_err-add_steps.field-0.0 in
    let p = err_from_is_err_and c.from_residual-in_err-add_steps.result c.from_residual-in_err-add_steps.ensures.1 in
    let is : Err e ≡ c.from_residual-in_err-add_steps.result = sym (p.1 ∙ ap (λ (x : Failed). Err x) p.2) in
    let first = ended (header_line c.args.header.now) in
    let lines = step_lines c.args.steps.now in
    let end = ended (item_line (End c.args.count)) in
    record {
      poured = subst (λ (r : Result (Unit {0}) Failed). Pours (steps_text c.args.header.now c.args.count c.args.steps.now) r c.add_steps.new.buffer.items (g.K.Sink.held c.args.out.now) (g.K.Sink.held c.add_steps.new.out) (g.K.Sink.faults c.args.out.now) (g.K.Sink.faults c.add_steps.new.out)) is
          (pours-longer (first ++ lines) end e c.add_steps.new.buffer.items (g.K.Sink.held c.args.out.now) (g.K.Sink.held c.add_steps.new.out) (g.K.Sink.faults c.args.out.now) (g.K.Sink.faults c.add_steps.new.out)
          (c.in_err-add_steps.ensures.poured first (g.K.Sink.held c.args.out.now) (g.K.Sink.faults c.args.out.now) c.in_ok-add_header.ensures.poured));
    }
