-- Bytes taken one after another, and bytes added one after another.
use Rattle.std.proofs.Common.{◌≡◌, ◌≢◌, ℕ, ◌+◌, ◌-◌, List, [], ◌∷◌, ◌++◌, length, take, drop, true, nat_eq, Option}
use Rattle.std.proofs.Common.{None, Some, refl, ap, sym, ◌∙◌, append_assoc}
use Rattle.std.proofs.lemmas.Bool.{ne_eqb}
use Rattle.std.proofs.lemmas.List.{append-nil, take_rest, drop-drop, take-append-drop}
use Rattle.std.proofs.Math.Seq.{take-add}
use Rattle.bbm_lemmas.proofs.Bools.{guarded_wider}
use Rattle.bbm_io.specs.Flow.{preceded, extended, plain}

pub preceded-nil : (left : Option (List ℕ)) → preceded [] left ≡ left
preceded-nil None = refl
preceded-nil (Some left) = refl

pub preceded-append : (xs ys : List ℕ) (left : Option (List ℕ)) → preceded xs (preceded ys left) ≡ preceded (xs ++ ys) left
preceded-append xs ys None = refl
preceded-append xs ys (Some left) = ap Some (sym (append_assoc xs ys left))

-- one more byte was taken
pub took-more : (kept : List ℕ) (b : ℕ) (old mid new : Option (List ℕ)) → old ≡ preceded kept mid → mid ≡ preceded (b ∷ []) new → old ≡ preceded (kept ++ b ∷ []) new
took-more kept b old mid new before after = before ∙ ap (preceded kept) after ∙ preceded-append kept (b ∷ []) new

pub plain-append : (bs : List ℕ) (b : ℕ) → plain bs ≡ true → b ≢ 10 → plain (bs ++ b ∷ []) ≡ true
plain-append [] b all one = rw (ne_eqb b 10 one) refl
plain-append (x ∷ bs) b all one =
    guarded_wider (nat_eq x 10) (plain bs) (plain (bs ++ b ∷ [])) (λ rest. plain-append bs b rest one) all

pub extended-nil : (held : Option (List ℕ)) → extended held [] ≡ held
extended-nil None = refl
extended-nil (Some held) = ap Some (append-nil held)

-- more of the piece was written
pub wrote-more : (held : Option (List ℕ)) (piece : List ℕ) (done count : ℕ) → extended (extended held (take done piece)) (take count (take (length piece - done) (drop done piece))) ≡ extended held (take (done + count) piece)
wrote-more None piece done count = refl
wrote-more (Some held) piece done count =
    ap Some (append_assoc held (take done piece) (take count (take (length piece - done) (drop done piece))) ∙ ap (λ (xs : List ℕ). held ++ xs) (ap (λ (xs : List ℕ). take done piece ++ take count xs) (take_rest piece done) ∙ sym (take-add done count piece)))

pub ruleset flow = (preceded-nil, took-more, plain-append, extended-nil, wrote-more)

-- what is left of bytes in memory, where the next ones were taken
pub rest-more : (bytes : List ℕ) (at count : ℕ) → drop (at + count) bytes ≡ drop count (drop at bytes)
rest-more bytes at count = sym (drop-drop count at bytes)

pub rest-taken : (bytes : List ℕ) (at count : ℕ) → Some (drop at bytes) ≡ preceded (take count (drop at bytes)) (Some (drop (at + count) bytes))
rest-taken bytes at count =
    ap Some (sym (take-append-drop count (drop at bytes)) ∙ ap (λ xs. take count (drop at bytes) ++ xs) (sym (rest-more bytes at count)))

pub ruleset memory = (rest-more, rest-taken)
