use Rattle.bbm_roots.proofs.Common.{◌≡◌, ◌&&◌, ◌||◌, not, Bool, true, false, cond, Option, None, nat_eq, arith, ℕ}
use Rattle.bbm_roots.proofs.Common.{answers, Dsb, keeps_in, tag_key, slot_of, wait_at, wait_bit, same_flag, PeMask}
use Rattle.bbm_roots.proofs.hold.release.Goals as goal

-- what the second of the two leaves, which looks at another place
left : (dsb : Dsb) (k h first : Bool) (p : ℕ) (o : Option PeMask) →
    ((h && not first) && not (answers dsb false && wait_bit p (cond ((k && same_flag true false) && answers dsb true) None o)))
    ≡ (h && not (first || (answers dsb false && wait_bit p o)))
left dsb k h first p o = grind (arith)

both : (dsb : Dsb) (k b : Bool) (o : Option PeMask) →
    cond ((k && same_flag false b) && answers dsb false) None (cond ((k && same_flag true b) && answers dsb true) None o)
    ≡ cond (k && answers dsb b) None o
both dsb k b o = grind (arith)

pub returns-clause-holds : goal.returns-clause-holds
returns-clause-holds c = λ l g r p.
    let issuer = c.args.issuer in
    let old = c.args.waits.now.items in
    rw (c.release_one-2.ensures.holds l g r p, c.release_one.ensures.holds l g r p, c.release_one.ensures.waits issuer false (tag_key g))
    (left c.args.dsb (nat_eq issuer issuer) (keeps_in c.args.holds.now l g r p)
    (answers c.args.dsb true && wait_bit p (wait_at old (slot_of issuer true) (tag_key g))) p
    (wait_at old (slot_of issuer false) (tag_key g)))

pub returns-clause-waits : goal.returns-clause-waits
returns-clause-waits c = λ q b key.
    rw (c.release_one-2.ensures.waits q b key, c.release_one.ensures.waits q b key)
    (both c.args.dsb (nat_eq q c.args.issuer) b (wait_at c.args.waits.now.items (slot_of q b) key))
