-- What follows the first byte of a field.
use Rattle.bbm_log_grammar.proofs.Common.{◌≡◌, ℕ, ◌-◌, ◌<◌, List, [], ◌∷◌, length, take, drop, true, arith, take_all}
use Rattle.bbm_events.specs.Lines.{is_marked}

pub marked_some : (text : List ℕ) → is_marked text ≡ true → 0 < length text
marked_some [] e = cc
marked_some (byte ∷ bytes) e = omega arith

pub behind : (text : List ℕ) → is_marked text ≡ true → take (length text - 1) (drop 1 text) ≡ drop 1 text
behind [] e = cc
behind (byte ∷ bytes) e = take_all (length (byte ∷ bytes) - 1) bytes (omega arith)

pub ruleset unmarked = (marked_some, behind)
