use Rattle.bbm_claims.proofs.Common.{tells, is_of}
use Rattle.bbm_rules.proofs.Common.{Bool, ◌||◌, ◌&&◌, nat_lt, sym, ◌∙◌, ap, on_ok_weaker, Claim}
use Rattle.bbm_claims.proofs.Cleansed.{ends_elsewhere, ends_here}
use Rattle.bbm_claims.proofs.cleansings.add_claim.Goals as goal

pub returns-then-end_of-log : goal.returns-then-end_of-log
returns-then-end_of-log c = λ a p n.
    ends_elsewhere c.args.header.now a p n c.args.newest.now c.args.log.now c.args.claim.now
    (tells c.args.kept.now.items a p n)
    (λ k. c.if-end_of-log.true (c.end_of.ensures ∙ k))

pub returns-in-Place : goal.returns-in-Place
returns-in-Place c =
    on_ok_weaker c.add_since.result (λ k a p n.
    k a p n ∙ ap (λ (b : Bool). tells c.args.kept.now.items a p n || b)
    (ap (λ (claim : Claim). is_of a p claim && nat_lt n c.completed_since.result) (sym c.in-Place.is)
    ∙ ends_here c.args.header.now a p n c.args.newest.now c.args.log.now c.args.claim.now c.completed_since.result
    (sym c.end_of.ensures ∙ c.if-end_of-log.false) c.completed_since.ensures)) c.add_since.ensures

pub returns-in-Two : goal.returns-in-Two
returns-in-Two c =
    on_ok_weaker c.add_since-in-Two.result (λ k a p n.
    k a p n ∙ ap (λ (b : Bool). tells c.args.kept.now.items a p n || b)
    (ap (λ (claim : Claim). is_of a p claim && nat_lt n c.completed_since-in-Two.result) (sym c.in-Two.is)
    ∙ ends_here c.args.header.now a p n c.args.newest.now c.args.log.now c.args.claim.now
    c.completed_since-in-Two.result
    (sym c.end_of.ensures ∙ c.if-end_of-log.false) c.completed_since-in-Two.ensures)) c.add_since-in-Two.ensures
