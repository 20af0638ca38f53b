-- A text that is written through a buffer.
use Rattle.bbm_texts.proofs.Common.{Failed, event_at, ended, gen_first, Buffered, Pours, Puts}
use Rattle.bbm_rules.proofs.Common.{◌≡◌, ℕ, zero, suc, ◌+◌, ◌-◌, ◌≤◌, List, [], ◌++◌, Option, None, Result, Ok, Err}
use Rattle.bbm_rules.proofs.Common.{refl, ap, sym, ◌∙◌, subst, arith, append_assoc, append-nil}
use Rattle.bbm_events.specs.declared.event.Item.TheVariants.{Event}
use Rattle.bbm_events.specs.Lines.{item_line}
use Rattle.bbm_texts.specs.Generating.{gen_begin}
use Rattle.bbm_texts.proofs.Puts.{part-longer, puts-none, puts-then}

-- nothing was written or buffered yet
pub buffered-none : (buffer : List ℕ) (old : Option (List ℕ)) (f : ℕ) → buffer ≡ [] → Buffered [] buffer old old f f
buffered-none buffer old f none = ([], sym none, puts-none old, refl)

-- the buffer was written
pub poured : (text buffer : List ℕ) (r : Result (Unit {0}) Failed) (old mid new : Option (List ℕ)) (f f' f'' : ℕ)
    → Buffered text buffer old mid f f' → Puts buffer r mid new f' f'' → Puts text r old new f f''
poured text buffer r old mid new f f' f'' buffered puts =
    subst (λ (t : List ℕ). Puts t r old new f f'') (sym buffered.1)
    (puts-then buffered.0 buffer r old mid new f f' f'' (buffered.2, buffered.3) puts)

pub emptied : (text buffer buffer' : List ℕ) (old mid new : Option (List ℕ)) (f f' f'' : ℕ) → buffer' ≡ []
    → Buffered text buffer old mid f f' → Puts buffer (Ok tt) mid new f' f'' → Buffered text buffer' old new f f''
emptied text buffer buffer' old mid new f f' f'' none buffered puts =
    let puts_all = poured text buffer (Ok tt) old mid new f f' f'' buffered puts in
    (text, sym (ap (λ (b : List ℕ). text ++ b) none ∙ append-nil text), puts_all.0, puts_all.1)

-- a line was buffered
pub buffered-more : (text buffer line buffer' : List ℕ) (old new : Option (List ℕ)) (f f' : ℕ) → buffer' ≡ buffer ++ line
    → Buffered text buffer old new f f' → Buffered (text ++ line) buffer' old new f f'
buffered-more text buffer line buffer' old new f f' is buffered =
    (buffered.0, ap (λ (t : List ℕ). t ++ line) buffered.1 ∙ append_assoc buffered.0 buffer line ∙ ap (λ (b : List ℕ). buffered.0 ++ b) (sym is), buffered.2, buffered.3)

-- a write failed, of a text that goes on
pub pours-longer : (text more : List ℕ) (e : Failed) (buffer : List ℕ) (old new : Option (List ℕ)) (f f' : ℕ)
    → Pours text (Err e) buffer old new f f' → Pours (text ++ more) (Err e) buffer old new f f'
pours-longer text more e buffer old new f f' pours = (part-longer text more old new pours.0, pours.1)

pub begin-none : (n : ℕ) → gen_begin n 0 ≡ gen_first
unfolding gen_begin
begin-none n = refl

pub begin-more : (n i : ℕ) → gen_begin n (suc i) ≡ gen_begin n i ++ ended (item_line (Event (event_at n i) None))
unfolding gen_begin
begin-more n i = refl

-- the first events begin the whole text
rest-from : (n i d : ℕ) → (more : List ℕ) × (gen_begin n (d + i) ≡ gen_begin n i ++ more)
rest-from n i zero =
    let count : 0 + i ≡ i = omega arith in
    ([], ap (gen_begin n) count ∙ sym (append-nil (gen_begin n i)))
rest-from n i (suc d) =
    let rest = rest-from n i d in
    let line = ended (item_line (Event (event_at n (d + i)) None)) in
    let count : suc d + i ≡ suc (d + i) = omega arith in
    (rest.0 ++ line, ap (gen_begin n) count ∙ begin-more n (d + i) ∙ ap (λ (t : List ℕ). t ++ line) rest.1 ∙ append_assoc (gen_begin n i) rest.0 line)

-- a write failed at a line of the first events, of which more follow
pub cut-short : (n i count : ℕ) (e : Failed) (buffer : List ℕ) (old new : Option (List ℕ)) (f f' : ℕ) → i ≤ count
    → Pours (gen_begin n i) (Err e) buffer old new f f' → Pours (gen_begin n count) (Err e) buffer old new f f'
cut-short n i count e buffer old new f f' within pours =
    let rest = rest-from n i (count - i) in
    let whole : (count - i) + i ≡ count = omega (arith, within) in
    let is : gen_begin n count ≡ gen_begin n i ++ rest.0 = ap (gen_begin n) (sym whole) ∙ rest.1 in
    subst (λ (t : List ℕ). Pours t (Err e) buffer old new f f') (sym is) (pours-longer (gen_begin n i) rest.0 e buffer old new f f' pours)
