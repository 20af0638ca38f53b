-- The same step after the same option gives the same.
use Rattle.bbm_rules.proofs.Common.{◌≡◌, Option, Some, None, option_and_then, refl, ◌∙◌, ap}

-- the steps need be the same only at what is there
pub same_then : {A B : Type 0} (f g : A → Option B) (o o' : Option A) → o ≡ o' → ((x : A) → o ≡ Some x → f x ≡ g x)
    → option_and_then f o ≡ option_and_then g o'
same_then f g None o' same step = ap (option_and_then g) same
same_then f g (Some x) o' same step = step x refl ∙ ap (option_and_then g) same
