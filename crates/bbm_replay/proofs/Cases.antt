-- A Bool or an Option, by cases that tell which it is.
use Rattle.bbm_rules.proofs.Common.{◌≡◌, Bool, true, false, Option, Some, None, refl}

pub either : (b : Bool) {P : Type 0} → (b ≡ true → P) → (b ≡ false → P) → P
either true p q = p refl
either false p q = q refl

pub some_or : {A : Type 0} (o : Option A) {P : Type 0} → ((x : A) → o ≡ Some x → P) → (o ≡ None → P) → P
some_or (Some x) some none = some x refl
some_or None some none = none refl
