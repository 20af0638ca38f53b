use Rattle.bbm_rules.proofs.Common.{◌∙◌, ◌∷◌, ◌&&◌, ◌||◌, ◌==◌, not, ap, reverse, List, any, same_tag, Event, Reading, gives_up}
use Rattle.bbm_rules.proofs.Common.{page_of, readings}
use Rattle.bbm_tlb_machine.specs.Entry.{parts_of, tag_of_entry}
use Rattle.bbm_tlb_machine.specs.MachineRun.{Living}
use Rattle.bbm_tlb_machine.specs.Safe.{has_other_root, is_stale}
use Rattle.bbm_tlb_machine.proofs.GivenUp.{tested_before}
use Rattle.bbm_tlb_machine.proofs.SafeLaw.{quiet}
use Rattle.bbm_tlb_machine.proofs.conflict.in_conflict.Goals as goal

pub returns-in-Write : goal.returns-in-Write
returns-in-Write c = λ h e. rw c.in-Write.is (
    c.any_stale.ensures
    ∙ tested_before c.args.header.now h (reverse c.args.events.now) c.args.event.now c.args.living.now
    (λ up x. not up && any (is_stale c.in-Write.place c.in-Write.value) (parts_of x))
    (λ page. ap (gives_up page) c.in-Write.is) e)

pub returns-in-Init : goal.returns-in-Init
returns-in-Init c = λ h e. rw c.in-Init.is (
    c.any_in.ensures
    ∙ tested_before c.args.header.now h (reverse c.args.events.now) c.args.event.now c.args.living.now
    (λ up x. not up && any (λ part. page_of part.place == c.in-Init.page) (parts_of x))
    (λ page. ap (gives_up page) c.in-Init.is) e)

pub returns-in_ok-readings-in-Msr : goal.returns-in_ok-readings-in-Msr
returns-in_ok-readings-in-Msr c = λ h e. rw c.in-Msr.is (
    c.any_other_root.ensures
    ∙ tested_before c.args.header.now h (reverse c.args.events.now) c.args.event.now c.args.living.now
    (λ up x. any (λ r. same_tag r.tag (tag_of_entry x) && (not (r.root == x.root) || up)) c.deref.result.now)
    (λ page. ap (gives_up page) c.in-Msr.is) e
    ∙ ap (λ (rs : List Reading). any (λ (l : Living). any (has_other_root c.args.header.now h l.entry) rs) c.args.living.now)
    (c.deref.ensures.value ∙ c.in_ok-readings-in-Msr.ensures
    ∙ ap (λ (es : List Event). readings c.args.header.now es c.in-Msr.pe) (e ∙ ap (λ (x : Event). x ∷ h) c.in-Msr.is)))

pub returns-in_default : goal.returns-in_default
returns-in_default c = λ h e.
    quiet c.args.header.now h c.args.event.now c.args.living.now c.in_default.not-Init c.in_default.not-Write
    c.in_default.not-Msr
