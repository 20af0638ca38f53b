-- The words of a command, by their number.
use Rattle.bbm_rules.proofs.Common.{◌≡◌, ℕ, ◌<◌, ◌≤◌, Bool, true, cond, List, [], ◌∷◌, length, map, Option, None, refl}
use Rattle.bbm_rules.proofs.Common.{sym, ap, ◌∙◌, arith}
use Rattle.std.proofs.Math.ListN.{get_or}
use Rattle.bbm_report.specs.Questions.{walk_asked}

-- where the test holds, the answer is the first
pub where_it_is : {A : Type 0} (test : Bool) (answer found : Option A) → test ≡ true → answer ≡ found → answer ≡ cond test found None
where_it_is test answer found holds is = is ∙ sym (ap (λ b. cond b found None) holds)

module _ {S : Type 0} (text : S → List ℕ) where
  pub four_words : (ws : List S) (a b c d : S) → 4 ≤ length ws → length ws < 5 → a ≡ get_or ws 0 a → b ≡ get_or ws 1 b
      → c ≡ get_or ws 2 c → d ≡ get_or ws 3 d → map text ws ≡ text a ∷ text b ∷ text c ∷ text d ∷ []
  four_words [] a b c d low high ea eb ec ed = absurd (omega arith)
  four_words (x ∷ []) a b c d low high ea eb ec ed = absurd (omega arith)
  four_words (x ∷ y ∷ []) a b c d low high ea eb ec ed = absurd (omega arith)
  four_words (x ∷ y ∷ z ∷ []) a b c d low high ea eb ec ed = absurd (omega arith)
  four_words (x ∷ y ∷ z ∷ w ∷ []) a b c d low high ea eb ec ed = cc
  four_words (x ∷ y ∷ z ∷ w ∷ v ∷ ws) a b c d low high ea eb ec ed = absurd (omega arith)

  pub fewer_words : (ws : List S) → length ws < 4 → walk_asked (map text ws) ≡ None
  fewer_words [] high = refl
  fewer_words (x ∷ []) high = refl
  fewer_words (x ∷ y ∷ []) high = refl
  fewer_words (x ∷ y ∷ z ∷ []) high = refl
  fewer_words (x ∷ y ∷ z ∷ w ∷ ws) high = absurd (omega arith)

  pub more_words : (ws : List S) → 5 ≤ length ws → walk_asked (map text ws) ≡ None
  more_words [] low = refl
  more_words (x ∷ []) low = refl
  more_words (x ∷ y ∷ []) low = refl
  more_words (x ∷ y ∷ z ∷ []) low = refl
  more_words (x ∷ y ∷ z ∷ w ∷ []) low = absurd (omega arith)
  more_words (x ∷ y ∷ z ∷ w ∷ v ∷ ws) low = refl
