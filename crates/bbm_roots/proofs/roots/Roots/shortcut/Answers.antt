-- What is known of the tags that a value makes readable.
use Rattle.bbm_roots.proofs.Common.{◌≡◌, ◌<◌, ℕ, false, nat_le, nat_tests, arith, Bool, ◌&&◌, ap, tag_key, slot_of}
use Rattle.bbm_roots.proofs.Common.{wait_at, wait_bit}
use Rattle.bbm_roots.proofs.roots.Roots.shortcut.Goals as goal

below-nine : (n : ℕ) (full : Bool) → full ≡ nat_le 9 n → full ≡ false → n < 9
below-nine n full same none = grind (arith, nat_tests)

pub returns-in-Some-clause-shared : goal.returns-in-Some-clause-shared
returns-in-Some-clause-shared c = λ x is.
    let told = c.known_tag.ensures.shared x is in
    record {
      by_values = c.if-self.false;
      room = below-nine _ _ c.is_full.ensures c.if-is_full.false;
      quiet = λ q b g p.
          ap (λ (none : Bool). none
          && wait_bit p (wait_at c.args.self.now.pendings.waits.items (slot_of q b) (tag_key g)))
          (c.is_empty.ensures.0 c.if-not-is_empty.false q);
      tag =
          let own = c.own_tag.ensures in
          let there = c.in-Some.is in
          let first = c.is_first.ensures in
          let same = told.0 in
          cc;
      root = told.1;
      held = told.2;
    }
