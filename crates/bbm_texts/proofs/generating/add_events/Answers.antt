use Rattle.bbm_texts.proofs.Common.{event_at, ended, Buffered}
use Rattle.bbm_rules.proofs.Common.{◌≡◌, ◌+◌, ◌++◌, ℕ, suc, List, None, arith, subst, sym, ap, ◌∙◌}
use Rattle.bbm_events.specs.declared.event.Event.{Event as EventOf}
use Rattle.bbm_events.specs.declared.event.Item.TheVariants.{Event}
use Rattle.bbm_events.specs.Lines.{item_line}
use Rattle.bbm_texts.specs.Generating.{gen_begin}
use Rattle.bbm_texts.proofs.Pouring.{begin-none, begin-more, buffered-more, cut-short}
use Rattle.bbm_texts.proofs.generating.add_events.Goals as goal

pub events-init : goal.events-init
events-init g c = record {
  within = omega arith;
  poured = λ start faults buffered.
      subst (λ (t : List ℕ). Buffered t c.args.buffer.now.items start (g.K.Sink.held c.args.out.now) faults (g.K.Sink.faults c.args.out.now)) (sym (begin-none c.args.n)) buffered;
}

-- the text with one event more
longer : (n i : ℕ) (event : EventOf) → event ≡ event_at n i → gen_begin n i ++ ended (item_line (Event event None)) ≡ gen_begin n (i + 1)
longer n i event is =
    let next : i + 1 ≡ suc i = omega arith in
    ap (λ (e : EventOf). gen_begin n i ++ ended (item_line (Event e None))) is ∙ sym (begin-more n i) ∙ ap (gen_begin n) (sym next)

pub events-preserved : goal.events-preserved
events-preserved g c = record {
  within = omega (arith, c.events-test.true);
  poured = λ start faults buffered.
      subst (λ (t : List ℕ). Buffered t c.append_item.new.buffer.items start (g.K.Sink.held c.make_room.new.out) faults (g.K.Sink.faults c.make_room.new.out))
      (longer c.args.n c.events.i c.gen_event.result c.gen_event.ensures.value)
      (buffered-more (gen_begin c.args.n c.events.i) c.make_room.new.buffer.items (ended (item_line (Event c.gen_event.result None))) c.append_item.new.buffer.items start _ faults _ c.append_item.ensures.appended
      (c.in-Ok.ensures.poured (gen_begin c.args.n c.events.i) start faults (c.events.invariant.poured start faults buffered)));
}

pub returns-in-Err : goal.returns-in-Err
returns-in-Err g c = record {
  poured = λ start faults buffered.
      cut-short c.args.n c.events.i c.args.count c.in-Err.failed c.make_room.new.buffer.items start (g.K.Sink.held c.make_room.new.out) faults (g.K.Sink.faults c.make_room.new.out)
      (omega (arith, c.events-test.true))
      (c.in-Err.ensures.poured (gen_begin c.args.n c.events.i) start faults (c.events.invariant.poured start faults buffered));
}

pub returns : goal.returns
returns g c =
    let all : c.events.i ≡ c.args.count = omega (arith, c.events-test.false, c.events.invariant.within) in
    record {
      poured = λ start faults buffered.
          subst (λ (i : ℕ). Buffered (gen_begin c.args.n i) c.events.buffer.items start (g.K.Sink.held c.events.out) faults (g.K.Sink.faults c.events.out)) all
          (c.events.invariant.poured start faults buffered);
    }
