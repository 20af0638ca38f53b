use Rattle.bbm_roots.proofs.Common.{◌∙◌, ap, sym, Bool, ◌&&◌, true, false, all_held, under_held, kernel_anew, FromTtbr1}
use Rattle.bbm_roots.proofs.Settled.{anew-held}
use Rattle.bbm_roots.proofs.anew.holds_anew.Goals as goal

pub returns-then-first : goal.returns-then-first
returns-then-first c =
    let holds = c.args.holds.now in
    c.holds_pairs.ensures
    ∙ sym (ap (λ (b : Bool). all_held holds c.args.pe (kernel_anew FromTtbr1 b c.args.load.now c.args.others.now)) c.if-first.true
    ∙ anew-held holds c.args.pe true c.args.load.now c.args.others.now)

pub returns-then-holds_root : goal.returns-then-holds_root
returns-then-holds_root c =
    let holds = c.args.holds.now in
    c.holds_under.ensures
    ∙ sym (ap (λ (b : Bool). all_held holds c.args.pe (kernel_anew FromTtbr1 b c.args.load.now c.args.others.now)) c.if-first.false
    ∙ anew-held holds c.args.pe false c.args.load.now c.args.others.now
    ∙ ap (λ (b : Bool). b && under_held holds c.args.pe c.args.others.now c.args.load.now)
    (sym c.holds_root.ensures ∙ c.if-holds_root.true))
