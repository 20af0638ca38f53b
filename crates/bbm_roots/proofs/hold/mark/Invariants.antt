use Rattle.bbm_roots.proofs.Common.{◌≡◌, ℕ, true, ◌&&◌, ◌||◌, nat_eq, take, Tag, hold_in, left_in, has_entry, IsCalm}
use Rattle.bbm_roots.proofs.Common.{has_reading}
use Rattle.bbm_roots.proofs.hold.mark.Given as goal

abbrev pub invariant-loop-reading : goal.invariant-loop-reading
invariant-loop-reading l = record {
  bits : IsCalm l.initial.holds l.readings → (g : Tag) (r p : ℕ) → hold_in l.holds g r p
      ≡ (hold_in l.initial.holds g r p || (nat_eq p l.pe && has_reading g r (take l.reading-index l.readings)));
  left : IsCalm l.initial.holds l.readings → (g : Tag) (r p : ℕ) → left_in l.holds g r p ≡ left_in l.initial.holds g r p;
  only : (g : Tag) (r p : ℕ) → hold_in l.holds g r p ≡ true
      → (hold_in l.initial.holds g r p || has_reading g r (take l.reading-index l.readings)) ≡ true;
  entries : (g : Tag) → has_entry l.holds g ≡ has_entry l.initial.holds g;
}
