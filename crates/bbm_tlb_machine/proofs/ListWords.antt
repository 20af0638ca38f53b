-- Tests of a list and options in the words of sentences.
use Rattle.bbm_rules.proofs.Common.{◌≡◌, ℕ, Bool, false, ◌||◌, ◌==◌, List, [], ◌∷◌, map, Contains, refl, sym, ◌∙◌, ap}
use Rattle.bbm_rules.proofs.Common.{true≢false, false_from_ne_true, among, any, tag_number}
use Rattle.std.proofs.lemmas.List.Elements.{All-contains_itself, All-weaker}
use Rattle.std.proofs.lemmas.List.Folds.{list_any_at, list_any_none}

pub none_in : {X : Type 0} (p : X → Bool) (xs : List X) → any p xs ≡ false → (x : X) → Contains xs x → p x ≡ false
none_in p xs k x c =
    false_from_ne_true (p x) (λ t. true≢false (sym (list_any_at p xs c.0 x c.1 (ap p c.2 ∙ t)) ∙ k))

pub is_none : {X : Type 0} (p : X → Bool) (xs : List X) → ((x : X) → Contains xs x → p x ≡ false) → any p xs ≡ false
is_none {X} p xs all =
    list_any_none p xs (All-weaker (Contains xs) (λ (x : X). p x ≡ false) all xs (All-contains_itself xs))

-- the numbers of register values
pub among_numbers : (n : ℕ) (values : List ℕ) → any (λ v. tag_number v == n) values ≡ among n (map tag_number values)
among_numbers n [] = refl
among_numbers n (v ∷ values) = ap (λ b. (tag_number v == n) || b) (among_numbers n values)
