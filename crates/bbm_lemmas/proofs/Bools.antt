-- Booleans: what the libraries' lemmas don't say.
use Rattle.std.proofs.Common.{◌≡◌, Bool, true, false, not, cond, ◌&&◌, ◌||◌, refl}
use Rattle.bbm_lemmas.proofs.Tautologies.{proved}
use Rattle.bbm_lemmas.proofs.Tautologies.Claim.{If, Is, Never}

pub same_truth : (x y : Bool) → (x ≡ true → y ≡ true) → (y ≡ true → x ≡ true) → x ≡ y
same_truth = proved 2 (λ x y. If (If (Is x true) (Is y true)) (If (If (Is y true) (Is x true)) (Is x y))) refl

pub not_from : (x : Bool) → (x ≡ true → ⊥) → not x ≡ true
not_from = proved 1 (λ x. If (If (Is x true) Never) (Is (not x) true)) refl

pub first_true : (x y : Bool) → (x && y) ≡ true → x ≡ true
first_true = proved 2 (λ x y. If (Is (x && y) true) (Is x true)) refl

pub third_true : (x y z : Bool) → (x && y && z) ≡ true → z ≡ true
third_true = proved 3 (λ x y z. If (Is (x && y && z) true) (Is z true)) refl

pub second_false : (x y : Bool) → (x && y) ≡ false → x ≡ true → y ≡ false
second_false = proved 2 (λ x y. If (Is (x && y) false) (If (Is x true) (Is y false))) refl

pub first_none : (x y : Bool) → (x || y) ≡ false → x ≡ false
first_none = proved 2 (λ x y. If (Is (x || y) false) (Is x false)) refl

pub second_none : (x y : Bool) → (x || y) ≡ false → y ≡ false
second_none = proved 2 (λ x y. If (Is (x || y) false) (Is y false)) refl

pub and_apart : (x y : Bool) → (x ≡ true → y ≡ false) → (x && y) ≡ false
and_apart = proved 2 (λ x y. If (If (Is x true) (Is y false)) (Is (x && y) false)) refl

pub and_implied : (x y : Bool) → (y ≡ true → x ≡ true) → (x && y) ≡ y
and_implied = proved 2 (λ x y. If (If (Is y true) (Is x true)) (Is (x && y) y)) refl

pub none_unless : (x y : Bool) → y ≡ false → (x && not y) ≡ false → x ≡ false
none_unless = proved 2 (λ x y. If (Is y false) (If (Is (x && not y) false) (Is x false))) refl

pub guarded_wider : (x y z : Bool) → (y ≡ true → z ≡ true) → (not x && y) ≡ true → (not x && z) ≡ true
guarded_wider = proved 3 (λ x y z. If (If (Is y true) (Is z true)) (If (Is (not x && y) true) (Is (not x && z) true)))
    refl

pub neither : (x y : Bool) → y ≡ false → cond x false y ≡ false
neither = proved 2 (λ x y. If (Is y false) (Is (cond x false y) false)) refl

pub with_true : (x : Bool) → x ≡ (x && true)
with_true = proved 1 (λ x. Is x (x && true)) refl

pub and_none : (x y : Bool) → (x && (y && false)) ≡ false
and_none = proved 2 (λ x y. Is (x && (y && false)) false) refl

pub and_no_third : (x y z : Bool) → (x && (y && (z && false))) ≡ false
and_no_third = proved 3 (λ x y z. Is (x && (y && (z && false))) false) refl

pub none_of_two : (x y : Bool) → ((x && false) || (y && false)) ≡ false
none_of_two = proved 2 (λ x y. Is ((x && false) || (y && false)) false) refl

pub is_none_of_two : (x y : Bool) → false ≡ ((x && false) || (y && false))
is_none_of_two = proved 2 (λ x y. Is false ((x && false) || (y && false))) refl

pub never_of_two : (x y z : Bool) → false ≡ ((x && (false && z)) || (y && (false && z)))
never_of_two = proved 3 (λ x y z. Is false ((x && (false && z)) || (y && (false && z)))) refl

pub or_nothing : (x y z : Bool) → ((x && (y && false)) || z) ≡ z
or_nothing = proved 3 (λ x y z. Is ((x && (y && false)) || z) z) refl

pub not_twice : (x y : Bool) → ((x && not y) && not y) ≡ (x && not y)
not_twice = proved 2 (λ x y. Is ((x && not y) && not y) (x && not y)) refl

pub and_exchange : (x y z : Bool) → (x && y && z) ≡ (y && (x && z))
and_exchange = proved 3 (λ x y z. Is (x && y && z) (y && (x && z))) refl

pub or_middle : (x y z w : Bool) → ((x || y) || (z || w)) ≡ ((x || z) || (y || w))
or_middle = proved 4 (λ x y z w. Is ((x || y) || (z || w)) ((x || z) || (y || w))) refl

pub ands_of_first : (x y z : Bool) → ((x && y) || (x && z)) ≡ (x && (y || z))
ands_of_first = proved 3 (λ x y z. Is ((x && y) || (x && z)) (x && (y || z))) refl

pub ands_of_last : (x y z : Bool) → ((x && z) || (y && z)) ≡ ((x || y) && z)
ands_of_last = proved 3 (λ x y z. Is ((x && z) || (y && z)) ((x || y) && z)) refl

pub both_of_two : (x y a b c d : Bool) → (((x && a) || (y && b)) || ((x && c) || (y && d)))
    ≡ ((x && (a || c)) || (y && (b || d)))
both_of_two = proved 6 (λ x y a b c d. Is (((x && a) || (y && b)) || ((x && c) || (y && d))) ((x && (a || c)) || (y &&
    (b || d)))) refl

pub or_later : (x y z w : Bool) → (y || w) ≡ true → ((x || y) || (z || w)) ≡ true
or_later = proved 4 (λ x y z w. If (Is (y || w) true) (Is ((x || y) || (z || w)) true)) refl
