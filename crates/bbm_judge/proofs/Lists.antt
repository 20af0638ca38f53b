-- One more item of a list.
use Rattle.bbm_rules.proofs.Common.{◌≡◌, ℕ, ◌+◌, ◌-◌, ◌<◌, ◌∷◌, List, length, take, drop, get_or, sym, ◌∙◌, ap}
use Rattle.bbm_rules.proofs.Common.{add-one, arith, take_all, drop-cons}
use Rattle.std.proofs.Common.{length-drop}

pub dropped_less : {A : Type 0} (xs : List A) (i : ℕ) (d : A) → i < length xs → drop i xs ≡ get_or xs i d ∷ drop (i + 1) xs
dropped_less xs i d lt = rw add-one (drop-cons xs i d lt)

-- an item with the range behind it
pub range_behind : (xs : List ℕ) (i x : ℕ) → i < length xs → x ≡ get_or xs i x
    → x ∷ take (length xs - (i + 1)) (drop (i + 1) xs) ≡ drop i xs
range_behind xs i x lt is =
    ap (λ (ys : List ℕ). x ∷ ys) (take_all (length xs - (i + 1)) (drop (i + 1) xs) (omega (arith, length-drop (i + 1) xs)))
    ∙ ap (λ (y : ℕ). y ∷ drop (i + 1) xs) is ∙ sym (dropped_less xs i x lt)
