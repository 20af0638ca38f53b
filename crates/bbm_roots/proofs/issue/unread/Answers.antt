use Rattle.bbm_roots.proofs.Common.{◌≡◌, ◌∙◌, Bool, true, ◌&&◌, ◌||◌, not, nat_eq, nat_lt, refl, proved, If, Is, pe_in}
use Rattle.bbm_roots.proofs.Common.{reads_at}
use Rattle.bbm_roots.proofs.issue.unread.Goals as goal

below-same : (b r s n : Bool) → (b ≡ true → r ≡ s) → (b && (r && n)) ≡ (b && (s && n))
below-same = proved 4 (λ b r s n. If (If (Is b true) (Is r s)) (Is (b && (r && n)) (b && (s && n)))) refl

pub returns : goal.returns
returns c = λ p.
    let registers = c.args.registers.now in
    c.unread.ensures p
    ∙ below-same (nat_lt p registers.pes) (pe_in c.reached.result p) (c.args.broadcast || nat_eq p c.args.issuer)
    (not (reads_at registers p c.args.tag)) (c.reached.ensures p)
