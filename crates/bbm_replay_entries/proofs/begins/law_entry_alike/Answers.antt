use Rattle.bbm_rules.proofs.Common.{ap, ◌∙◌, ◌&&◌, Bool}
use Rattle.bbm_entry_state.specs.Points.{waits}
use Rattle.bbm_replay_entries.proofs.begins.law_entry_alike.Goals as goal

pub returns : goal.returns
returns c heading h kind level place state pends pends' s same = record {
  core = s.core;
  broken = s.broken;
  marks = λ broken w last. record {
    writers = (s.marks broken w last).writers;
    seen = (s.marks broken w last).seen;
    half = (s.marks broken w last).half;
    clean = (s.marks broken w last).clean;
    waiting = λ p below q b c. same q b c p ∙ (ap (λ (x : Bool). x && waits (pends q) b c p) broken ∙ (s.marks broken w last).waiting p below q b c);
  };
  idle = λ unbroken q b c p. same q b c p ∙ ap (λ (x : Bool). x && waits (pends q) b c p) unbroken;
}
