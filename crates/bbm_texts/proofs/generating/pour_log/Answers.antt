use Rattle.bbm_texts.proofs.Common.{Failed, End, Heading, ended, Pours}
use Rattle.bbm_rules.proofs.Common.{◌≡◌, ◌++◌, ℕ, List, Result, Ok, Err, ap, subst, sym, ◌∙◌, arith}
use Rattle.bbm_rules.proofs.Common.{err_from_is_err_and}
use Rattle.bbm_events.specs.Lines.{header_line, item_line}
use Rattle.bbm_texts.specs.Generating.{gen_begin}
use Rattle.bbm_texts.proofs.Pouring.{begin-none, cut-short, pours-longer}
use Rattle.bbm_texts.proofs.generating.pour_log.Goals as goal

pub returns-in_err-add_header : goal.returns-in_err-add_header
returns-in_err-add_header g c =
    let e = c.in_err-add_header.field-0.0 in
    let p = err_from_is_err_and c.from_residual.result c.from_residual.ensures.1 in
    let is : Err e ≡ c.from_residual.result = sym (p.1 ∙ ap (λ (x : Failed). Err x) p.2) in
    let end = ended (item_line (End c.args.count)) in
    record {
      poured = subst (λ (r : Result (Unit {0}) Failed). Pours (gen_begin c.args.n c.args.count ++ end) r c.add_header.new.buffer.items (g.K.Sink.held c.args.out.now) (g.K.Sink.held c.add_header.new.out) (g.K.Sink.faults c.args.out.now) (g.K.Sink.faults c.add_header.new.out)) is
          (pours-longer (gen_begin c.args.n c.args.count) end e c.add_header.new.buffer.items (g.K.Sink.held c.args.out.now) (g.K.Sink.held c.add_header.new.out) (g.K.Sink.faults c.args.out.now) (g.K.Sink.faults c.add_header.new.out)
          (cut-short c.args.n 0 c.args.count e c.add_header.new.buffer.items (g.K.Sink.held c.args.out.now) (g.K.Sink.held c.add_header.new.out) (g.K.Sink.faults c.args.out.now) (g.K.Sink.faults c.add_header.new.out) (omega arith)
          (subst (λ (t : List ℕ). Pours t (Err e) c.add_header.new.buffer.items (g.K.Sink.held c.args.out.now) (g.K.Sink.held c.add_header.new.out) (g.K.Sink.faults c.args.out.now) (g.K.Sink.faults c.add_header.new.out)) (sym (begin-none c.args.n)) (subst (λ (h : Heading). Pours (ended (header_line h)) (Err e) c.add_header.new.buffer.items (g.K.Sink.held c.args.out.now) (g.K.Sink.held c.add_header.new.out) (g.K.Sink.faults c.args.out.now) (g.K.Sink.faults c.add_header.new.out)) c.gen_header-header.ensures c.in_err-add_header.ensures.poured))));
    }

pub returns-in_err-add_events : goal.returns-in_err-add_events
returns-in_err-add_events g c =
    let e = c.in_err-add_events.field-0.0 in
    let p = err_from_is_err_and c.from_residual-in_err-add_events.result c.from_residual-in_err-add_events.ensures.1 in
    let is : Err e ≡ c.from_residual-in_err-add_events.result = sym (p.1 ∙ ap (λ (x : Failed). Err x) p.2) in
    let end = ended (item_line (End c.args.count)) in
    record {
      poured = subst (λ (r : Result (Unit {0}) Failed). Pours (gen_begin c.args.n c.args.count ++ end) r c.add_events.new.buffer.items (g.K.Sink.held c.args.out.now) (g.K.Sink.held c.add_events.new.out) (g.K.Sink.faults c.args.out.now) (g.K.Sink.faults c.add_events.new.out)) is
          (pours-longer (gen_begin c.args.n c.args.count) end e c.add_events.new.buffer.items (g.K.Sink.held c.args.out.now) (g.K.Sink.held c.add_events.new.out) (g.K.Sink.faults c.args.out.now) (g.K.Sink.faults c.add_events.new.out)
          (c.in_err-add_events.ensures.poured (g.K.Sink.held c.args.out.now) (g.K.Sink.faults c.args.out.now) (subst (λ (h : Heading). Pours (ended (header_line h)) (Ok tt) c.add_header.new.buffer.items (g.K.Sink.held c.args.out.now) (g.K.Sink.held c.add_header.new.out) (g.K.Sink.faults c.args.out.now) (g.K.Sink.faults c.add_header.new.out)) c.gen_header-header.ensures c.in_ok-add_header.ensures.poured)));
    }

pub returns : goal.returns
returns g c =
    let begun = subst (λ (h : Heading). Pours (ended (header_line h)) (Ok tt) c.add_header.new.buffer.items (g.K.Sink.held c.args.out.now) (g.K.Sink.held c.add_header.new.out) (g.K.Sink.faults c.args.out.now) (g.K.Sink.faults c.add_header.new.out)) c.gen_header-header.ensures c.in_ok-add_header.ensures.poured in
    record {
      poured = c.add_item.ensures.poured (gen_begin c.args.n c.args.count) (g.K.Sink.held c.args.out.now) (g.K.Sink.faults c.args.out.now)
          (c.in_ok-add_events.ensures.poured (g.K.Sink.held c.args.out.now) (g.K.Sink.faults c.args.out.now) begun);
    }
