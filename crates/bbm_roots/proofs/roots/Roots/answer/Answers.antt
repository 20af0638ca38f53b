use Rattle.bbm_roots.proofs.Common.{◌≡◌, ◌&&◌, not, Bool, refl, cond, Option, None, arith, nat_eq, ℕ, answers}
use Rattle.bbm_roots.proofs.Common.{pe_in, tag_key, slot_of, wait_at, wait_bit, PeMask}
use Rattle.bbm_roots.proofs.roots.Roots.answer.Goals as goal

without : (p : ℕ) (k t : Bool) (o : Option PeMask) →
    (k && wait_bit p (cond t None o)) ≡ ((k && wait_bit p o) && not t)
without p k t o = grind (arith)

pub returns : goal.returns
returns c = record {
  holds = λ l g r p. rw c.requires (c.release.ensures.holds l g r p);
  pendings = λ q b g p.
      let old = c.args.self.now.pendings in
      rw (c.close.ensures q b g p, c.release.ensures.waits q b (tag_key g))
      (without p (pe_in old.issuers q) (nat_eq q c.args.issuer && answers c.args.dsb b)
      (wait_at old.waits.items (slot_of q b) (tag_key g)));
  registers = refl;
  roots = record { header = refl; declared = refl; names = refl; locks = refl };
}
