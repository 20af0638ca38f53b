-- The notes of kept events: how many there are, and those of a list that is joined from two.
use Rattle.bbm_rules.proofs.Common.{◌≡◌, ℕ, suc, ◌+◌, List, [], ◌∷◌, ◌++◌, length, refl, ◌∙◌, ap, arith, Noted}
use Rattle.bbm_rules.proofs.Common.{events_of, length-append}
use Rattle.bbm_oracle_patterns.specs.Kept.{note_of, notes_behind, notes_of}
use Rattle.bbm_oracle_patterns.specs.declared.kept.Kept.{Kept}

pub length_notes : (ks : List Kept) → length (notes_of ks) ≡ length ks
length_notes [] = refl
length_notes (k ∷ ks) = ap suc (length_notes ks)

pub length_events : (ks : List Kept) → length (events_of (notes_of ks)) ≡ length ks
length_events [] = refl
length_events (k ∷ ks) = ap suc (length_events ks)

pub notes_append : (before : ℕ) (xs ys : List Kept)
    → notes_behind before (xs ++ ys) ≡ notes_behind (before + length ys) xs ++ notes_behind before ys
notes_append before [] ys = refl
notes_append before (x ∷ xs) ys =
    let at : before + length (xs ++ ys) ≡ before + length ys + length xs = omega (arith, length-append xs ys) in
    ap (λ (n : ℕ). note_of n x ∷ notes_behind before (xs ++ ys)) at
    ∙ ap (λ (ns : List Noted). note_of (before + length ys + length xs) x ∷ ns) (notes_append before xs ys)

pub notes_whole : (ks : List Kept) → notes_of ks ≡ notes_behind 0 ks
notes_whole [] = refl
notes_whole (k ∷ ks) =
    let at : length ks ≡ 0 + length ks = omega arith in
    ap (λ (n : ℕ). note_of n k ∷ notes_of ks) at
    ∙ ap (λ (ns : List Noted). note_of (0 + length ks) k ∷ ns) (notes_whole ks)
