use Rattle.bbm_roots.proofs.Common.{◌∙◌, ◌&&◌, not, arith, ap, sym, Option, false≢true, keeps_in, tag_key, wait_bit}
use Rattle.bbm_roots.proofs.Common.{PeMask, and-true, Bool, wait_in}
use Rattle.bbm_roots.proofs.Places.{none-in, popped-step}
use Rattle.bbm_roots.proofs.hold.release_all.Goals.{in-Some, in_default}
use Rattle.bbm_roots.proofs.hold.release_all.Goals as goal

pub loop-count-preserved : goal.loop-count-preserved
loop-count-preserved c =
    elim c.match-pop.branch [
      | in-Some w ↦ record {
        len = omega (arith, w.in-Some.ensures.len, c.loop-count.invariant.len);
        listed = λ before g r p e.
            rw w.by_root-is (w.take_from.ensures.listed (c.loop-count.invariant.listed before) g r p (rw w.holds-is at e));
        bits = λ l g r p.
            rw w.holds-is
            (ap (λ (b : Bool). b && not (wait_in c.pop.new.self g p)) (w.take_from.ensures.holds l g r p)
            ∙ popped-step c.loop-count.waits c.pop.new.self _ w.in-Some.ensures.entries w.in-Some.ensures.updates g p
            (keeps_in c.loop-count.holds l g r p)
            ∙ c.loop-count.invariant.bits l g r p);
      }
      | in_default w ↦
          absurd (false≢true (w.in_default.ensures.found.1
          (omega (arith, c.loop-count.invariant.len, c.loop-count-test.true, c.len-count-end.ensures.len))))
    ]

pub returns-clause-holds : goal.returns-clause-holds
returns-clause-holds c = λ l g r p.
    sym (ap (λ (o : Option PeMask). keeps_in c.loop-count.holds l g r p && not (wait_bit p o))
    (none-in c.loop-count.waits (omega arith) (tag_key g)) ∙ and-true (keeps_in c.loop-count.holds l g r p))
    ∙ c.loop-count.invariant.bits l g r p

pub returns-clause-waits : goal.returns-clause-waits
returns-clause-waits c = none-in c.loop-count.waits (omega arith)
