use Rattle.bbm_idle.proofs.Common.{AreTaken, is_taken}
use Rattle.bbm_rules.proofs.Common.{◌≡◌, Bool, None, Some, reverse, sym, ◌∙◌, IfOk-weaker, any, Tlbi, named_scope}
use Rattle.bbm_rules.proofs.Common.{Reading}
use Rattle.bbm_idle.proofs.FindTags.{taken_of, taken_other, taken_unnamed}
use Rattle.bbm_idle.proofs.find_tags.taken_by.Goals as goal

pub returns-in_ok-pages-in-Ok-Some : goal.returns-in_ok-pages-in-Ok-Some
returns-in_ok-pages-in-Ok-Some c =
    let h = reverse c.args.before.now in
    let named : Some c.in-Ok-Some.scope ≡ named_scope c.args.header.now h c.in-Tlbi.pe c.in-Tlbi.op c.in-Tlbi.xt =
    rw c.in-Ok-Some.field-0-is at c.in-Ok-Some.ensures in
    rw c.in-Tlbi.is (IfOk-weaker c.taken_under.result
    (λ taken. (test : Reading → Bool) → any test taken.items
    ≡ any (λ page. any (is_taken c.in-Ok-Some.scope c.in_ok-vmid-in-Ok-Some.vmid page test) c.args.known.now) c.deref.result.now)
    (λ taken. AreTaken c.args.header.now h (Tlbi c.in-Tlbi.pe c.in-Tlbi.op c.in-Tlbi.xt) taken.items)
    (λ taken told. taken_of c.args.header.now h c.in-Tlbi.pe c.in-Tlbi.op c.in-Tlbi.xt c.in-Ok-Some.scope c.in_ok-vmid-in-Ok-Some.vmid
    c.deref.result.now c.args.known.now taken.items c.requires (sym named) c.in_ok-vmid-in-Ok-Some.ensures
    (c.deref.ensures.value ∙ c.in_ok-pages-in-Ok-Some.ensures) told)
    c.taken_under.ensures)

pub returns-in-Ok-None : goal.returns-in-Ok-None
returns-in-Ok-None c = λ test.
    let h = reverse c.args.before.now in
    let unnamed : None ≡ named_scope c.args.header.now h c.in-Tlbi.pe c.in-Tlbi.op c.in-Tlbi.xt =
    rw c.in-Ok-None.field-0-is at c.in-Ok-None.ensures in
    rw (c.in-Tlbi.is, c.new.ensures.items)
    (taken_unnamed c.args.header.now h c.in-Tlbi.pe c.in-Tlbi.op c.in-Tlbi.xt (sym unnamed) test)

pub returns-in_default : goal.returns-in_default
returns-in_default c = λ test.
    rw c.new-in_default.ensures.items
    (taken_other c.args.header.now (reverse c.args.before.now) c.args.event.now c.in_default.not-Tlbi test)
