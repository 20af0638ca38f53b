use Rattle.bbm_roots.proofs.Common.{◌≡◌, ℕ, Bool, true, take, Tag, keeps_in, tag_key, has_entry, has_tag, has_reading}
use Rattle.bbm_roots.proofs.Common.{is_listed, AreListed}
use Rattle.bbm_roots.proofs.hold.make_room.Given as goal

abbrev pub invariant-loop-reading : goal.invariant-loop-reading
invariant-loop-reading l = record {
  same : (k : Bool) (g : Tag) (r p : ℕ) → keeps_in l.holds k g r p ≡ keeps_in l.initial.holds k g r p;
  kept : AreListed l.initial.holds l.initial.by_root → AreListed l.holds l.by_root;
  listed : (g : Tag) (r : ℕ) → has_reading g r (take l.reading-index l.readings) ≡ true
      → is_listed l.by_root r (tag_key g) ≡ true;
  made : (g : Tag) → has_tag g (take l.reading-index l.readings) ≡ true → has_entry l.holds g ≡ true;
}
