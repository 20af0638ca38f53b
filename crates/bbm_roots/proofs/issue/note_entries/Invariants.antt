use Rattle.bbm_roots.proofs.Common.{◌≡◌, ℕ, ◌&&◌, ◌||◌, take, list_any, Tag, takes_whole_tag, has_wait, wait_in}
use Rattle.bbm_roots.proofs.Common.{unread_at}
use Rattle.bbm_roots.proofs.Entries.{is_key_of}
use Rattle.bbm_roots.proofs.issue.note_entries.Given as goal

abbrev pub invariant-loop-key : goal.invariant-loop-key
invariant-loop-key l = record {
  bits : (g : Tag) (p : ℕ) → wait_in l.waits g p
      ≡ (wait_in l.initial.waits g p || (has_wait l.initial.waits g
      && (list_any (is_key_of g) (take l.key-index l.key-items) && (takes_whole_tag l.scope l.vmid g
      && unread_at l.registers l.issuer l.scope.broadcast g p))));
  known : (g : Tag) → has_wait l.waits g ≡ has_wait l.initial.waits g;
}
