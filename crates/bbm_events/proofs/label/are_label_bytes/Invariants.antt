-- The bytes that are left are all of a label exactly where all bytes are.
use Rattle.bbm_events.proofs.Common.{◌≡◌, length, list_all, is_label_byte}
use Rattle.bbm_events.proofs.label.are_label_bytes.Given as goal

abbrev pub invariant-loop-left : goal.invariant-loop-left
invariant-loop-left l = list_all is_label_byte l.left ≡ list_all is_label_byte l.bytes

abbrev pub decreases-loop-left : goal.decreases-loop-left
decreases-loop-left l = length l.left
