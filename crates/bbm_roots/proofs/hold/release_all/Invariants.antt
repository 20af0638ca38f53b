use Rattle.bbm_roots.proofs.Common.{◌≡◌, ◌+◌, ℕ, Bool, ◌&&◌, not, index_map_len, Tag, keeps_in, wait_in, AreListed}
use Rattle.bbm_roots.proofs.hold.release_all.Given as goal

abbrev pub invariant-loop-count : goal.invariant-loop-count
invariant-loop-count l = record {
  len : index_map_len l.waits + l._count ≡ index_map_len l.initial.waits;
  listed : AreListed l.initial.holds l.initial.by_root → AreListed l.holds l.by_root;
  bits : (k : Bool) (g : Tag) (r p : ℕ) → (keeps_in l.holds k g r p && not (wait_in l.waits g p))
      ≡ (keeps_in l.initial.holds k g r p && not (wait_in l.initial.waits g p));
}
