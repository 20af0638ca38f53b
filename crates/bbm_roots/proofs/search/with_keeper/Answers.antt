use Rattle.bbm_roots.proofs.Common.{◌≡◌, ◌||◌, ◌&&◌, ap, Bool, false, true, tag_in, kept_tag, ReadingUpTo, same_tag}
use Rattle.bbm_roots.proofs.Common.{ℕ, nat_eq, not, subst, ◌∙◌, IsLeast, Reading, or-false, and-false}
use Rattle.bbm_roots.specs.Holds.{keeps_other}
use Rattle.bbm_roots.proofs.Entries.{keeper-clash}
use Rattle.bbm_roots.proofs.Tests.{least-same}
use Rattle.bbm_roots.proofs.search.with_keeper.Goals as goal

pub returns-in-Some : goal.returns-in-Some
returns-in-Some c = λ test h.
    let y = c.args.reading.now in
    let holds = c.args.holds.now in
    let root = c.in-Some.root in
    least-same ReadingUpTo (λ x. test x || (same_tag y.tag x.tag && nat_eq root x.root))
    (λ x. test x || keeps_other holds c.args.n y x)
    (λ x. ap (λ (b : Bool). test x || b)
    (keeper-clash holds c.args.n y (nat_eq root) (subst (λ (z : Reading). (r : ℕ) → ((not (nat_eq z.root r)
    && tag_in holds c.args.n z.tag r) || kept_tag holds true c.args.n z.tag r) ≡ nat_eq root r) c.reading.view_is
    c.in-Some.ensures) x))
    c.lesser.result
    (subst (λ (z : Reading). IsLeast ReadingUpTo (λ x. test x || (same_tag z.tag x.tag && nat_eq root x.root)) c.lesser.result)
    c.reading.view_is (c.lesser.ensures test h))

pub returns-in-None : goal.returns-in-None
returns-in-None c = λ test h.
    let y = c.args.reading.now in
    let holds = c.args.holds.now in
    least-same ReadingUpTo test (λ x. test x || keeps_other holds c.args.n y x)
    (λ x. ap (λ (b : Bool). test x || b)
    (keeper-clash holds c.args.n y (λ r. false) (subst (λ (z : Reading). (r : ℕ) → ((not (nat_eq z.root r)
    && tag_in holds c.args.n z.tag r) || kept_tag holds true c.args.n z.tag r) ≡ false) c.reading.view_is
    c.in-None.ensures) x ∙ and-false (same_tag y.tag x.tag)) ∙ or-false (test x))
    c.args.least h
