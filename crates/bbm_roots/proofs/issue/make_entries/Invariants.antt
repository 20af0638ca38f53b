use Rattle.bbm_roots.proofs.Common.{◌≡◌, ℕ, true, take, list_any, Tag, takes_whole_tag, has_wait, wait_in}
use Rattle.bbm_roots.proofs.Entries.{is_key_of}
use Rattle.bbm_roots.proofs.issue.make_entries.Given as goal

abbrev pub invariant-loop-key : goal.invariant-loop-key
invariant-loop-key l = record {
  same : (g : Tag) (p : ℕ) → wait_in l.waits g p ≡ wait_in l.initial.waits g p;
  made : (g : Tag) → list_any (is_key_of g) (take l.key-index l.key-items) ≡ true →
      takes_whole_tag l.scope l.vmid g ≡ true
      → has_wait l.waits g ≡ true;
}
