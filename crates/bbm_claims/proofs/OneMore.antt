-- The steps of the loops that look for one of many.
use Rattle.bbm_rules.proofs.Common.{◌≡◌, ℕ, ◌<◌, ◌+◌, Bool, ◌&&◌, ◌||◌, List, length, take, get_or, refl, sym, ◌∙◌, ap}
use Rattle.bbm_rules.proofs.Common.{list_any_more, list_any, proved, Is}

-- one more of the elements of which one is looked for where g, beside what was found at the start
pub or_more : {X : Type 0} (f : X → Bool) (g start b before after : Bool) (xs : List X) (i : ℕ) (x : X) → b ≡ f x
    → i < length xs → x ≡ get_or xs i x
    → before ≡ (start || (g && list_any f (take i xs))) → after ≡ (before || (g && b))
    → after ≡ (start || (g && list_any f (take (i + 1) xs)))
or_more {X} f g start b before after xs i x same below is is_before is_after =
    is_after
    ∙ ap (λ (y : Bool). before || (g && y)) same
    ∙ ap (λ (b : Bool). b || (g && f x)) is_before
    ∙ proved 4 (λ a c s y. Is ((a || (c && s)) || (c && y)) (a || (c && (s || y)))) refl start g
    (list_any f (take i xs)) (f x)
    ∙ ap (λ (y : X). start || (g && (list_any f (take i xs) || f y))) is
    ∙ ap (λ (b : Bool). start || (g && b)) (sym (list_any_more f xs i x below))
