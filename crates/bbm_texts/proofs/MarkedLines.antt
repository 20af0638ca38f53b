-- The lines of marked events, one behind the other.
use Rattle.bbm_texts.proofs.Common.{Failed, marked_lines, Puts}
use Rattle.bbm_rules.proofs.Common.{◌≡◌, ℕ, ◌+◌, ◌<◌, Bool, List, [], ◌∷◌, ◌++◌, length, take, drop, get_or, reverse}
use Rattle.bbm_rules.proofs.Common.{Option, Ok, Err, ap, sym, ◌∙◌, subst, append_assoc, append-nil, arith}
use Rattle.bbm_rules.proofs.Common.{length-take-le, length-reverse, reverse-append, take-append-drop, take_more}
use Rattle.bbm_texts.specs.Shown.{marked_line}
use Rattle.bbm_texts.proofs.Puts.{puts-longer, puts-then}

-- the lines of the first events and of one more
marked-more : (marks : List Bool) (i : ℕ) (d : Bool) → i < length marks
    → marked_lines (reverse (take (i + 1) marks)) ≡ marked_lines (reverse (take i marks)) ++ marked_line (get_or marks i d) i
marked-more marks i d below =
    let first = take i marks in
    let count : length (reverse first) ≡ i = length-reverse first ∙ length-take-le i marks (omega (arith, below)) in
    ap (λ (bs : List Bool). marked_lines (reverse bs)) (take_more marks i d below)
    ∙ ap marked_lines (reverse-append first (get_or marks i d ∷ []))
    ∙ ap (λ (n : ℕ). marked_lines (reverse first) ++ marked_line (get_or marks i d) n) count

-- the lines of older events begin those of all
marked-begins : (newer older : List Bool) → (more : List ℕ) × (marked_lines (newer ++ older) ≡ marked_lines older ++ more)
marked-begins [] older = ([], sym (append-nil (marked_lines older)))
marked-begins (mark ∷ newer) older =
    let rest = marked-begins newer older in
    let line = marked_line mark (length (newer ++ older)) in
    (rest.0 ++ line, ap (λ (text : List ℕ). text ++ line) rest.1 ∙ append_assoc (marked_lines older) rest.0 line)

-- a line failed behind those of the first events
pub marks-failed : (marks : List Bool) (i : ℕ) (d : Bool) (e : Failed) (old mid new : Option (List ℕ)) (f f' f'' : ℕ)
    → i < length marks → Puts (marked_lines (reverse (take i marks))) (Ok tt) old mid f f'
    → Puts (marked_line (get_or marks i d) i) (Err e) mid new f' f''
    → Puts (marked_lines (reverse marks)) (Err e) old new f f''
marks-failed marks i d e old mid new f f' f'' below first second =
    let lines = marked_lines (reverse (take i marks)) in
    let line = marked_line (get_or marks i d) i in
    let failed = puts-then lines line (Err e) old mid new f f' f'' first second in
    let taken = take (i + 1) marks in
    let rest = marked-begins (reverse (drop (i + 1) marks)) (reverse taken) in
    let whole : marked_lines (reverse marks) ≡ (lines ++ line) ++ rest.0 =
    ap (λ (bs : List Bool). marked_lines (reverse bs)) (sym (take-append-drop (i + 1) marks))
    ∙ ap marked_lines (reverse-append taken (drop (i + 1) marks)) ∙ rest.1
    ∙ ap (λ (text : List ℕ). text ++ rest.0) (marked-more marks i d below) in
    subst (λ (text : List ℕ). Puts text (Err e) old new f f'') (sym whole) (puts-longer (lines ++ line) rest.0 e old new f f'' failed)
