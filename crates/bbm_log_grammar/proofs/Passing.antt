-- A field whose value has to pass a test is read, and then tested.
use Rattle.bbm_log_grammar.proofs.Common.{◌≡◌, ℕ, List, [], ◌∷◌, Bool, Option, Some, None, Result, Ok, Err, ap}
use Rattle.bbm_log_grammar.proofs.Common.{Malformed, Fields, next_field, found}
use Rattle.bbm_events.specs.Spelling.{decimal_value, hex_value}
use Rattle.bbm_events.specs.Codec.{passing}

passed : {A : Type 0} (absent unreadable : Malformed) (read : List ℕ → Option A) (test : A → Bool) (fields : Fields) {n : A} {rest : Fields}
    → next_field absent unreadable read fields ≡ Ok (n, rest)
    → next_field absent unreadable (λ text. passing test (read text)) fields ≡ found unreadable (passing test (Some n)) rest
passed absent unreadable read test [] e = cc
passed {A = A} absent unreadable read test (text ∷ more) {n = n} {rest = rest} e = by (read text) e
  where
    tested : Result (A × Fields) Malformed → Result (A × Fields) Malformed
    tested (Ok x) = found unreadable (passing test (Some x.0)) x.1
    tested (Err cause) = Err cause

    by : (value : Option A) → found unreadable value more ≡ Ok (n, rest) → found unreadable (passing test value) more ≡ found unreadable (passing test (Some n)) rest
    by None f = cc
    by (Some m) f = ap tested f

unread : {A : Type 0} (absent unreadable : Malformed) (read : List ℕ → Option A) (test : A → Bool) (fields : Fields) {cause : Malformed}
    → next_field absent unreadable read fields ≡ Err cause
    → next_field absent unreadable (λ text. passing test (read text)) fields ≡ Err cause
unread absent unreadable read test [] e = cc
unread {A = A} absent unreadable read test (text ∷ more) {cause = cause} e = by (read text) e
  where
    by : (value : Option A) → found unreadable value more ≡ Err cause → found unreadable (passing test value) more ≡ Err cause
    by None f = f
    by (Some m) f = cc

pub decimal_passed : (absent unreadable : Malformed) (test : ℕ → Bool) (fields : Fields) {n : ℕ} {rest : Fields} → next_field absent unreadable decimal_value fields ≡ Ok (n, rest) → next_field absent unreadable (λ text. passing test (decimal_value text)) fields ≡ found unreadable (passing test (Some n)) rest
decimal_passed absent unreadable test fields e = passed absent unreadable decimal_value test fields e

pub decimal_unread : (absent unreadable : Malformed) (test : ℕ → Bool) (fields : Fields) {cause : Malformed} → next_field absent unreadable decimal_value fields ≡ Err cause → next_field absent unreadable (λ text. passing test (decimal_value text)) fields ≡ Err cause
decimal_unread absent unreadable test fields e = unread absent unreadable decimal_value test fields e

pub hex_passed : (absent unreadable : Malformed) (test : ℕ → Bool) (fields : Fields) {n : ℕ} {rest : Fields} → next_field absent unreadable hex_value fields ≡ Ok (n, rest) → next_field absent unreadable (λ text. passing test (hex_value text)) fields ≡ found unreadable (passing test (Some n)) rest
hex_passed absent unreadable test fields e = passed absent unreadable hex_value test fields e

pub hex_unread : (absent unreadable : Malformed) (test : ℕ → Bool) (fields : Fields) {cause : Malformed} → next_field absent unreadable hex_value fields ≡ Err cause → next_field absent unreadable (λ text. passing test (hex_value text)) fields ≡ Err cause
hex_unread absent unreadable test fields e = unread absent unreadable hex_value test fields e

pub ruleset passing_fields = (decimal_passed, decimal_unread, hex_passed, hex_unread)
