use Rattle.bbm_texts.proofs.Common.{ended}
use Rattle.bbm_texts.proofs.Pouring.{buffered-more, pours-longer}
use Rattle.bbm_texts.proofs.buffering.add_line.Goals as goal

pub returns-in-Ok : goal.returns-in-Ok
returns-in-Ok g c = record {
  poured = λ text start faults buffered.
      buffered-more text c.make_room.new.buffer.items (ended c.args.line.now.items) c.append.new.buffer.items start _ faults _ c.append.ensures.appended (c.in-Ok.ensures.poured text start faults buffered);
}

pub returns-in-Err : goal.returns-in-Err
returns-in-Err g c = record {
  poured = λ text start faults buffered.
      pours-longer text (ended c.args.line.now.items) c.in-Err.failed c.make_room.new.buffer.items start _ faults _ (c.in-Err.ensures.poured text start faults buffered);
}
