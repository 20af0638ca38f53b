-- The lines of things, one behind the other, and a write that fails at one of them.
use Rattle.bbm_texts.proofs.Common.{Failed, ended, Pours}
use Rattle.bbm_rules.proofs.Common.{◌≡◌, ℕ, ◌+◌, ◌<◌, List, [], ◌∷◌, ◌++◌, length, take, drop, get_or, Option, Err}
use Rattle.bbm_rules.proofs.Common.{refl, ap, sym, ◌∙◌, subst, append_assoc, append-nil, take-append-drop, take_more}
use Rattle.bbm_texts.specs.Generating.{lines_of}
use Rattle.bbm_texts.proofs.Pouring.{pours-longer}

module _ {A : Type 0} (line : A → List ℕ) where
  many-append : (one other : List A) → lines_of line (one ++ other) ≡ lines_of line one ++ lines_of line other
  many-append [] other = refl
  many-append (a ∷ one) other =
      ap (λ (text : List ℕ). ended (line a) ++ text) (many-append one other)
      ∙ sym (append_assoc (ended (line a)) (lines_of line one) (lines_of line other))

  -- the lines of the first things and of one more
  pub many-more : (items : List A) (i : ℕ) (d : A) → i < length items
      → lines_of line (take (i + 1) items) ≡ lines_of line (take i items) ++ ended (line (get_or items i d))
  many-more items i d below =
      ap (lines_of line) (take_more items i d below) ∙ many-append (take i items) (get_or items i d ∷ [])
      ∙ ap (λ (text : List ℕ). lines_of line (take i items) ++ text) (append-nil (ended (line (get_or items i d))))

  -- a write failed at the line of a thing, of which more follow
  pub many-cut : (text : List ℕ) (items : List A) (i : ℕ) (d : A) (e : Failed) (buffer : List ℕ) (old new : Option (List ℕ)) (f f' : ℕ) → i < length items
      → Pours ((text ++ lines_of line (take i items)) ++ ended (line (get_or items i d))) (Err e) buffer old new f f'
      → Pours (text ++ lines_of line items) (Err e) buffer old new f f'
  many-cut text items i d e buffer old new f f' below pours =
      let first = take (i + 1) items in
      let rest = lines_of line (drop (i + 1) items) in
      let whole : text ++ lines_of line items ≡ ((text ++ lines_of line (take i items)) ++ ended (line (get_or items i d))) ++ rest =
      ap (λ (is : List A). text ++ lines_of line is) (sym (take-append-drop (i + 1) items))
      ∙ ap (λ (t : List ℕ). text ++ t) (many-append first (drop (i + 1) items))
      ∙ sym (append_assoc text (lines_of line first) rest)
      ∙ ap (λ (t : List ℕ). (text ++ t) ++ rest) (many-more items i d below)
      ∙ ap (λ (t : List ℕ). t ++ rest) (sym (append_assoc text (lines_of line (take i items)) (ended (line (get_or items i d))))) in
      subst (λ (t : List ℕ). Pours t (Err e) buffer old new f f') (sym whole)
      (pours-longer ((text ++ lines_of line (take i items)) ++ ended (line (get_or items i d))) rest e buffer old new f f' pours)
