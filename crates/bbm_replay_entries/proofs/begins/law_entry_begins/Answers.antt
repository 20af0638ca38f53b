use Rattle.bbm_rules.proofs.Common.{◌∙◌, ap, cond, List, ◌∷◌, Some, None, is_valid, value_of}
use Rattle.bbm_events.specs.declared.event.Event.{Event}
use Rattle.bbm_replay_entries.proofs.Places.{fresh_holds, value_stands}
use Rattle.bbm_replay_entries.proofs.begins.law_entry_begins.Goals as goal

pub returns : goal.returns
returns c heading = let k = c.known.ensures heading in record {
  fresh = λ h kind level place state pends pes keeps fresh b.
      value_stands heading k kind level place h state pends
      (fresh_holds heading k kind level place h pes
      (λ value holds. k.held_changes.attached h keeps kind level place value fresh holds)) b;
  attached = λ h e n place state pends pes keeps attaches inside b.
      value_stands heading k n.kind n.level place (e ∷ h) state pends
      ((k.fresh_content.attached h e pes keeps n place attaches inside).holds
      ∙ ap (λ (x : List Event). cond (is_valid n.kind n.level (value_of x place)) (Some (value_of x place)) None)
      (k.notes_keep_the_events (e ∷ h))) b;
}
