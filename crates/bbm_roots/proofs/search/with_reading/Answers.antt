use Rattle.bbm_roots.proofs.Common.{◌||◌, ◌&&◌, ap, sym, ◌∙◌, nat_eq, Bool, ReadingUpTo, is_reading, has_other}
use Rattle.bbm_roots.proofs.Common.{same_tag, ◌≡◌, true, subst, IsLeast, Reading}
use Rattle.bbm_roots.proofs.Entries.{reading-clash}
use Rattle.bbm_roots.proofs.Tests.{least-same}
use Rattle.bbm_roots.proofs.search.with_reading.Goals as goal

pub returns-then-has_other : goal.returns-then-has_other
returns-then-has_other c = λ test h.
    let y = c.args.reading.now in
    let seen = c.args.seen.now in
    least-same ReadingUpTo (λ x. test x || (same_tag y.tag x.tag && nat_eq y.root x.root))
    (λ x. test x || (is_reading x.tag x.root y && has_other x.tag x.root seen))
    (λ x. ap (λ (b : Bool). test x || b) (reading-clash y seen (subst (λ (z : Reading). has_other z.tag z.root seen ≡ true)
    c.reading.view_is (sym c.has_other.ensures ∙ c.if-has_other.true)) x))
    c.lesser.result
    (subst (λ (z : Reading). IsLeast ReadingUpTo (λ x. test x || (same_tag z.tag x.tag && nat_eq z.root x.root)) c.lesser.result)
    c.reading.view_is (c.lesser.ensures test h))
