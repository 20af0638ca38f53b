-- The events of a log that is kept, oldest first, and their notes, newest first.
use Rattle.bbm_certify.proofs.Common.{note_of, notes_behind, Kept}
use Rattle.bbm_rules.proofs.Common.{◌≡◌, ℕ, suc, ◌+◌, List, [], ◌∷◌, ◌++◌, length, reverse, refl, sym, ◌∙◌, ap, arith}
use Rattle.bbm_rules.proofs.Common.{length-append, length-reverse, Noted}
use Rattle.bbm_certify.proofs.Searches.{At, at_index, same_behind, turned}
use Rattle.bbm_oracle_patterns.proofs.KeptNotes.{notes_append}

pub notes_split : (from : ℕ) (log before after : List Kept) (k : Kept) → log ≡ before ++ k ∷ after
    → notes_behind from (reverse log) ≡ notes_behind (from + suc (length before)) (reverse after)
    ++ note_of (from + length before) k ∷ notes_behind from (reverse before)
notes_split from log before after k split =
    ap (λ (xs : List Kept). notes_behind from (reverse xs)) split
    ∙ (ap (λ (xs : List Kept). notes_behind from xs) (turned before after k)
    ∙ (notes_append from (reverse after) (k ∷ reverse before)
    ∙ ap (λ (m : ℕ). notes_behind (from + suc m) (reverse after) ++ note_of (from + m) k ∷ notes_behind from (reverse before))
    (length-reverse before)))

length_behind : (from : ℕ) (ks : List Kept) → length (notes_behind from ks) ≡ length ks
length_behind from [] = refl
length_behind from (k ∷ ks) = ap suc (length_behind from ks)

-- the event of a note, and those before and behind it
pub record Seat (from : ℕ) (log : List Kept) (newer older : List Noted) (n : Noted) : Type 0 where
  pub before : List Kept
  pub after : List Kept
  pub k : Kept
  pub split : log ≡ before ++ k ∷ after
  pub is : n ≡ note_of (from + length before) k
  pub newer_is : newer ≡ notes_behind (from + suc (length before)) (reverse after)
  pub older_is : older ≡ notes_behind from (reverse before)

pub seat : (from : ℕ) (log : List Kept) (newer older : List Noted) (n : Noted)
    → notes_behind from (reverse log) ≡ newer ++ n ∷ older → Seat from log newer older n
seat from log newer older n e =
    sit (at_index log (length older) (omega (
      arith,
      ap length e,
      length-append newer (n ∷ older),
      length_behind from (reverse log),
      length-reverse log,
    )))
  where
    sit : At log (length older) → Seat from log newer older n
    sit a =
        let s = same_behind newer (notes_behind (from + suc (length a.before)) (reverse a.after)) older
        (notes_behind from (reverse a.before)) n (note_of (from + length a.before) a.k)
        (sym e ∙ notes_split from log a.before a.after a.k a.split)
        (omega (arith, length_behind from (reverse a.before), length-reverse a.before, a.at)) in
        record { before = a.before; after = a.after; k = a.k; split = a.split; is = s.1; newer_is = s.0; older_is = s.2 }
