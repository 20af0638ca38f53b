-- The bytes that are left lead from the number so far to the number of all.
use Rattle.bbm_log_grammar.proofs.Common.{◌≡◌, drop}
use Rattle.bbm_log_grammar.specs.Digits as digits
use Rattle.bbm_log_grammar.proofs.numbers.hex_digits.Given as goal

abbrev pub invariant-loop-byte : goal.invariant-loop-byte
invariant-loop-byte l = digits.number_after 16 l.n (drop l.byte-index l.bytes) ≡ digits.number_after 16 0 l.bytes
